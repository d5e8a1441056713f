-- Totals over a list of values.
use Rattle.std.proofs.Common.{◌≡◌, ℕ, ◌+◌, ◌<◌, Bool, true, false, Some, Ok, cond, not, ◌&&◌, T, ◌⊎◌, List, [], ◌∷◌, ◌++◌, length, get_or, drop, ℤ, ◌+ℤ◌, sym, refl, ap, ◌∙◌, inl, inr, add-one, drop-cons}
use mathlib.Core.Bool.{false≢true}
use lib.Ieee.{Float}
use lib.Seq.{drop-length}
use Rattle.sums.specs.Sums.{counts, whole_of, in64, AnyTotal, out_of_range, plus, total_from, sum_from, AllIn, SomeOut}

-- ---- the loop

pub one_more : (vs : List Float) (t r : AnyTotal) (i : ℕ) (d : Float) → i < length vs → r ≡ plus t (get_or vs i d) → total_from r (drop (i + 1) vs) ≡ total_from t (drop i vs)
one_more vs t r i d h e = rw (e, add-one, drop-cons vs i d h) refl

pub none_left : (vs : List Float) (t : AnyTotal) (i : ℕ) → i ≡ length vs → total_from t (drop i vs) ≡ t
none_left vs t i e = rw (e, drop-length) refl

-- ---- one value: it counts and the sum fits, or the total is refused

step : (P : AnyTotal → Type 0) (a : ℤ) (v : Float) → (T (counts v) → T (in64 (a +ℤ whole_of v)) → P (Some (Ok (a +ℤ whole_of v)))) → (T (not (counts v && in64 (a +ℤ whole_of v))) → P out_of_range) → P (plus (Some (Ok a)) v)
step P a v f g = go (counts v) (in64 (a +ℤ whole_of v)) f g
  where
    go : {z : ℤ} (b c : Bool) → (T b → T c → P (Some (Ok z))) → (T (not (b && c)) → P out_of_range) → P (cond b (cond c (Some (Ok z)) out_of_range) out_of_range)
    go true true f g = f tt tt
    go true false f g = g tt
    go false c f g = g tt

-- what is refused stays refused
stays : (vs : List Float) → total_from out_of_range vs ≡ out_of_range
stays [] = refl
stays (v ∷ vs) = stays vs

amount≢out : {z : ℤ} → ¬ (Some (Ok z) ≡ out_of_range)
amount≢out e = false≢true cc

nil≢cons : (us : List Float) (v : Float) (ws : List Float) → ¬ ([] ≡ us ++ (v ∷ ws))
nil≢cons [] v ws e = false≢true cc
nil≢cons (u ∷ us) v ws e = false≢true cc

clash : (b c : Bool) → T b → T c → T (not (b && c)) → ⊥
clash true true s t o = o
clash true false s t o = t
clash false c s t o = s

-- ---- a column in parts

pub in_parts : (t : AnyTotal) (us vs : List Float) → total_from t (us ++ vs) ≡ total_from (total_from t us) vs
in_parts t [] vs = refl
in_parts t (u ∷ us) vs = in_parts (plus t u) us vs

-- ---- an amount

in_rest : {a : ℤ} {v : Float} {vs : List Float} → AllIn a (v ∷ vs) → AllIn (a +ℤ whole_of v) vs
in_rest {v = v} h us w ws e = h (v ∷ us) w ws (ap (λ l. v ∷ l) e)

in_all : (a : ℤ) (v : Float) (vs : List Float) → T (counts v) → T (in64 (a +ℤ whole_of v)) → AllIn (a +ℤ whole_of v) vs → AllIn a (v ∷ vs)
in_all a v vs c i h [] w ws e = let p : w ≡ v = cc in rw p (c, i)
in_all a v vs c i h (u ∷ us) w ws e = let p : u ≡ v = cc in rw p (h us w ws (cc))

pub amount_sum : (a z : ℤ) (vs : List Float) → total_from (Some (Ok a)) vs ≡ Some (Ok z) → AllIn a vs × (z ≡ sum_from a vs)
amount_sum a z [] e = (λ us v ws q. absurd (nil≢cons us v ws q), cc)
amount_sum a z (v ∷ vs) e =
    step (λ t. total_from t vs ≡ Some (Ok z) → AllIn a (v ∷ vs) × (z ≡ sum_from a (v ∷ vs))) a v
    (λ c i e. let r = amount_sum (a +ℤ whole_of v) z vs e in (in_all a v vs c i r.0, r.1))
    (λ o e. absurd (amount≢out (sym e ∙ stays vs))) e

pub sum_amount : (a : ℤ) (vs : List Float) → AllIn a vs → total_from (Some (Ok a)) vs ≡ Some (Ok (sum_from a vs))
sum_amount a [] h = refl
sum_amount a (v ∷ vs) h =
    step (λ t. total_from t vs ≡ Some (Ok (sum_from a (v ∷ vs)))) a v
    (λ c i. sum_amount (a +ℤ whole_of v) vs (in_rest h))
    (λ o. let f = h [] v vs refl in absurd (clash (counts v) (in64 (a +ℤ whole_of v)) f.0 f.1 o))

pub either_sum : (a : ℤ) (vs : List Float) → (total_from (Some (Ok a)) vs ≡ Some (Ok (sum_from a vs))) ⊎ (total_from (Some (Ok a)) vs ≡ out_of_range)
either_sum a [] = inl refl
either_sum a (v ∷ vs) =
    step (λ t. (total_from t vs ≡ Some (Ok (sum_from a (v ∷ vs)))) ⊎ (total_from t vs ≡ out_of_range)) a v
    (λ c i. either_sum (a +ℤ whole_of v) vs)
    (λ o. inr (stays vs))

-- ---- a refusal

pub refused_out : (a : ℤ) (vs : List Float) → total_from (Some (Ok a)) vs ≡ out_of_range → SomeOut a vs
refused_out a [] e = absurd (amount≢out e)
refused_out a (v ∷ vs) e =
    step (λ t. total_from t vs ≡ out_of_range → SomeOut a (v ∷ vs)) a v
    (λ c i e. later (refused_out (a +ℤ whole_of v) vs e))
    (λ o e. record { before = []; value = v; behind = vs; there = refl; out = o }) e
  where
    later : SomeOut (a +ℤ whole_of v) vs → SomeOut a (v ∷ vs)
    later s = record { before = v ∷ s.before; value = s.value; behind = s.behind; there = ap (λ l. v ∷ l) s.there; out = s.out }

out_at : (a : ℤ) (us : List Float) (v : Float) (ws : List Float) → T (not (counts v && in64 (sum_from a (us ++ (v ∷ []))))) → total_from (Some (Ok a)) (us ++ (v ∷ ws)) ≡ out_of_range
out_at a [] v ws o = step (λ t. total_from t ws ≡ out_of_range) a v (λ c i. absurd (clash (counts v) (in64 (a +ℤ whole_of v)) c i o)) (λ o. stays ws)
out_at a (u ∷ us) v ws o =
    step (λ t. total_from t (us ++ (v ∷ ws)) ≡ out_of_range) a u (λ c i. out_at (a +ℤ whole_of u) us v ws o) (λ o. stays (us ++ (v ∷ ws)))

pub out_refused : (a : ℤ) (vs : List Float) → SomeOut a vs → total_from (Some (Ok a)) vs ≡ out_of_range
out_refused a vs s = ap (total_from (Some (Ok a))) s.there ∙ out_at a s.before s.value s.behind s.out
