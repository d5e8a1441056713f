-- A reading begins another where each of its records is the other's, until it ends.
use mathlib.Core.Path.{◌≡◌, refl, sym, ap, ap₂, subst}
use mathlib.Core.Bool.{Bool}
use mathlib.Core.Logic.{◌⊎◌, inl, inr}
use mathlib.Core.List.{List, [], ◌∷◌}
use Prim.Native.Nat.{ℕ, zero, suc}
use lib.ListN.{length, take, drop}
use Rattle.rules.specs.Rule.{finished, Read, got, stops, read}
use Rattle.rules.specs.Calls.{Item, Answer, stopped, Result, result_of, go_on, read_up_to}
use Rattle.chemstation.specs.Next.{rule}
use Rattle.streams.specs.declared.State.{State}
use Rattle.streams.specs.declared.Record.{Record}
use Rattle.spectra.specs.Spectra.{BeginsSo}
use Rattle.spectra.proofs.Alike.{Matches}

pub same_begins : (x : Result Record) → BeginsSo x x
same_begins x = record { records = go x.records; onward = λ n. refl }
  where
    go : (rs : List Record) → rs ≡ take (length rs) rs
    go [] = refl
    go (r ∷ rs) = ap (λ l. r ∷ l) (go rs)

ended : (y : Result Record) (z : Answer) → z ≡ stopped finished → BeginsSo (record { records = []; closing = z }) y
ended y z e = record { records = refl; onward = λ n. absurd (n e) }

module _ (R : State → State → Type 0) where
  abbrev pub Twin : Item State Record → Item State Record → Type 0
  Twin x y = (x.shows ≡ y.shows) × R x.after y.after

  -- the first ends, or both read alike
  abbrev pub Steps : Read (Item State Record) → Read (Item State Record) → Type 0
  Steps a b = (a ≡ stops finished) ⊎ Matches Twin a b

  module _ (last : Bool) (step : (x y : State) (bs : List ℕ) → R x y → Steps (read last (rule x) bs) (read last (rule y) bs)) where
    abbrev up : ℕ → State → List ℕ → Result Record
    up n x bs = result_of (read_up_to rule last n x bs)

    abbrev on : ℕ → State → List ℕ → Read (Item State Record) → Result Record
    on n x bs a = result_of (go_on x bs (read_up_to rule last n) a)

    one_more : (r s : Record) (x y : Result Record) → r ≡ s → BeginsSo x y → BeginsSo (record { records = r ∷ x.records; closing = x.closing }) (record { records = s ∷ y.records; closing = y.closing })
    one_more r s x y e b = record {
      records = ap₂ (λ a l. a ∷ l) e b.records;
      onward = λ n. ap₂ (λ a q. record { records = a ∷ q.records; closing = q.closing }) (sym e) (b.onward n);
    }

    by_match : (n : ℕ) → ((x y : State) (bs : List ℕ) → R x y → BeginsSo (up n x bs) (up n y bs)) → (x y : State) (bs : List ℕ) (a b : Read (Item State Record)) → Matches Twin a b → BeginsSo (on n x bs a) (on n y bs b)
    by_match n onward x y bs (got i k) (got j m) p =
        let ih = onward i.after j.after (drop k bs) p.0.1 in
        one_more i.shows j.shows _ _ p.0.0 (subst (λ l. BeginsSo (up n i.after (drop k bs)) (up n j.after (drop l bs))) p.1 ih)
    by_match n onward x y bs (got i k) (stops z) p = absurd p
    by_match n onward x y bs (stops w) (got j m) p = absurd p
    by_match n onward x y bs (stops w) (stops z) p = subst (λ q. BeginsSo (on n x bs (stops w)) (on n y bs (stops q))) p (same_begins _)

    by_step : (n : ℕ) → ((x y : State) (bs : List ℕ) → R x y → BeginsSo (up n x bs) (up n y bs)) → (x y : State) (bs : List ℕ) (a b : Read (Item State Record)) → Steps a b → BeginsSo (on n x bs a) (on n y bs b)
    by_step n onward x y bs a b (inl e) = subst (λ q. BeginsSo (on n x bs q) (on n y bs b)) (sym e) (ended _ _ refl)
    by_step n onward x y bs a b (inr p) = by_match n onward x y bs a b p

    pub begins_so : (n : ℕ) (x y : State) (bs : List ℕ) → R x y → BeginsSo (up n x bs) (up n y bs)
    unfolding read_up_to
    begins_so zero x y bs h = same_begins _
    begins_so (suc n) x y bs h = by_step n (λ x y bs. begins_so n x y bs) x y bs (read last (rule x) bs) (read last (rule y) bs) (step x y bs h)
