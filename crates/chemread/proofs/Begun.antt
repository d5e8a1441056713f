-- The reading of the state before the first record, by the reading that a run is opened by.
use mathlib.Core.Path.{◌≡◌, refl, sym, ap, ◌∙◌, subst}
use mathlib.Core.Bool.{Bool, true, false, cond, ◌||◌}
use mathlib.Core.List.{List}
use Prim.Native.Nat.{ℕ}
use lib.Dec.{eqb}
use borrow.Author.Tests.{eqb-true}
use Rattle.rules.specs.Rule.{refuses, got, read}
use Rattle.rules.proofs.Laws.{got≢stops}
use Rattle.agilent.specs.Header.{known}
use Rattle.metadata.specs.Metadata.{Header}
use Rattle.streams.specs.Next.{atlas_of}
use Rattle.streams.specs.declared.State.{State}
use Rattle.streams.specs.declared.Mode.{Mode}
use Rattle.streams.specs.declared.Mode.TheVariants.{Plain, Atlas}
use Rattle.opening.specs.Opening.{begins}
use Rattle.modes.specs.Modes.{has_atlas, open_by, begins_by}
use Rattle.modes.proofs.ModeLaws.{no_kind, no_atlas}
use Rattle.states.specs.State.{reading_of}
use Rattle.chemread.specs.Lent.{reading_number}

-- ---- the plain reading

by_kind : (b : Bool) (st other : State) → reading_of st ≡ 0 → reading_of other ≡ 0 → reading_of (cond b st other) ≡ 0
by_kind true st other p q = p
by_kind false st other p q = q

plain_begun : (kind : ℕ) (h : Header) → reading_of (begins kind h) ≡ 0
unfolding begins
plain_begun kind h = by_kind (eqb kind 1) _ _ refl (by_kind (eqb kind 2) _ _ refl (by_kind (eqb kind 3) _ _ refl (by_kind (eqb kind 4) _ _ refl (by_kind (eqb kind 5) _ _ refl refl))))

-- ---- the atlas reading: only DAD and UV are opened by it

dad_begun_lem : (h : Header) → reading_of (atlas_of (begins 4 h)) ≡ 1
unfolding begins
dad_begun_lem h = refl

uv_begun_lem : (h : Header) → reading_of (atlas_of (begins 5 h)) ≡ 1
unfolding begins
uv_begun_lem h = refl

atlas_begun : (kind : ℕ) (h : Header) → has_atlas kind ≡ true → reading_of (atlas_of (begins kind h)) ≡ 1
atlas_begun kind h a = go (eqb kind 4) refl a
  where
    go : (b : Bool) → eqb kind 4 ≡ b → (b || eqb kind 5) ≡ true → reading_of (atlas_of (begins kind h)) ≡ 1
    go true e a = subst (λ k. reading_of (atlas_of (begins k h)) ≡ 1) (sym (eqb-true kind 4 e)) (dad_begun_lem h)
    go false e a = subst (λ k. reading_of (atlas_of (begins k h)) ≡ 1) (sym (eqb-true kind 5 a)) (uv_begun_lem h)

opened_atlas : (kind : ℕ) (last : Bool) (s : List ℕ) (h : Header) (n : ℕ) → read last (open_by Atlas kind) s ≡ got h n → has_atlas kind ≡ true
unfolding read
opened_atlas kind last s h n e = go (known kind) (has_atlas kind) refl refl
  where
    refused : (c : ℕ) → open_by Atlas kind ≡ refuses c → has_atlas kind ≡ true
    refused c q = absurd (got≢stops (sym e ∙ ap (λ r. read last r s) q))

    go : (k a : Bool) → known kind ≡ k → has_atlas kind ≡ a → has_atlas kind ≡ true
    go true true p q = q
    go true false p q = refused 18 (no_atlas kind p q)
    go false a p q = refused 1 (no_kind kind p)

pub begun : (mode : Mode) (kind : ℕ) (last : Bool) (s : List ℕ) (h : Header) (n : ℕ) → read last (open_by mode kind) s ≡ got h n → reading_of (begins_by mode kind h) ≡ reading_number mode
begun Plain kind last s h n e = plain_begun kind h
begun Atlas kind last s h n e = atlas_begun kind h (opened_atlas kind last s h n e)
