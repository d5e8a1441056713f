-- Surrogates without a partner, counted from the front.
use mathlib.Core.Path.{◌≡◌, refl, sym, ap, ap₂, ◌∙◌}
use mathlib.Core.Bool.{Bool, true, false, not, cond, ◌&&◌, ◌||◌}
use mathlib.Core.List.{List, [], ◌∷◌}
use Prim.Native.Nat.{ℕ, zero, suc, ◌+◌, ◌≤◌}
use native.Mathlib.Nat.{zero-add}
use native.Mathlib.Omega.{arith}
use lib.Dec.{ltb}
use lib.ListN.{length, get_or}
use borrow.Author.Tests.{ltb-true, ltb-false}
use borrow.Table.Steps.{cases as by}
use Rattle.utf8.specs.Utf8.{within}
use Rattle.utf8.proofs.Cases.{never, first, second, least, most, inside, not_first}
use Rattle.utf16.specs.Utf16.{is_high, is_low, lacks_partner, places_below, unpaired, replaced_alone}

-- ---- places

first_place : (n : ℕ) (test : ℕ → Bool) → places_below (suc n) test ≡ cond (test 0) 1 0 + places_below n (λ i. test (suc i))
first_place zero test = omega arith
first_place (suc n) test = omega (arith, first_place n test)

one_each : (b : Bool) → cond b 1 0 ≤ 1
one_each true = omega arith
one_each false = omega arith

few_places : (n : ℕ) (test : ℕ → Bool) → places_below n test ≤ n
few_places zero test = omega arith
few_places (suc n) test = omega (arith, few_places n test, one_each (test n))

pub few_unpaired : (us : List ℕ) → unpaired us ≤ length us
unfolding unpaired
few_unpaired us = few_places (length us) (lacks_partner us)

-- ---- a unit between the one before and the one behind

abbrev lacks : ℕ → ℕ → ℕ → Bool
lacks p u v = (is_high u && not (is_low v)) || (is_low u && not (is_high p))

-- in us behind the unit p
abbrev lacks_behind : ℕ → List ℕ → ℕ → Bool
lacks_behind p us i = lacks (get_or (p ∷ us) i 0) (get_or us i 0) (get_or us (suc i) 0)

abbrev behind : ℕ → List ℕ → ℕ
behind p us = places_below (length us) (lacks_behind p us)

behind_cons : (p u : ℕ) (us : List ℕ) → behind p (u ∷ us) ≡ cond (lacks p u (get_or us 0 0)) 1 0 + behind u us
behind_cons p u us = first_place (length us) (lacks_behind p (u ∷ us))

-- ---- high and low

high_is_not_low : (u : ℕ) → is_high u ≡ true → is_low u ≡ false
high_is_not_low u h = by (is_low u) (λ t. absurd (omega (arith, most 0xD800 0xDBFF u h, least 0xDC00 0xDFFF u t))) (λ f. f)

low_is_not_high : (u : ℕ) → is_low u ≡ true → is_high u ≡ false
low_is_not_high u l = by (is_high u) (λ t. never l (high_is_not_low u t)) (λ f. f)

surrogate : (u : ℕ) → within 0xD800 0xDFFF u ≡ (is_high u || is_low u)
surrogate u =
    by (is_high u)
    (λ h. inside 0xD800 0xDFFF u (least 0xD800 0xDBFF u h) (omega (arith, most 0xD800 0xDBFF u h)) ∙ sym (simp h))
    λ h. by (is_low u)
    (λ l. inside 0xD800 0xDFFF u (omega (arith, least 0xDC00 0xDFFF u l)) (most 0xDC00 0xDFFF u l) ∙ sym (simp (h, l)))
    λ l. neither h l ∙ sym (simp (h, l))
  where
    neither : is_high u ≡ false → is_low u ≡ false → within 0xD800 0xDFFF u ≡ false
    neither h l =
        by (within 0xD800 0xDFFF u)
        (λ t.
        by (ltb u 0xDC00)
        (λ w. never (inside 0xD800 0xDBFF u (least 0xD800 0xDFFF u t) (omega (arith, ltb-true u 0xDC00 w))) h)
        λ w. never (inside 0xDC00 0xDFFF u (ltb-false u 0xDC00 w) (most 0xD800 0xDFFF u t)) l)
        λ f. f

-- ---- whether the one before matters, and the one behind

-- p high, u high, u low, v low
lone_lacks : (p h l v : Bool) → (p && l) ≡ false → (h && v) ≡ false → ((h && not v) || (l && not p)) ≡ (h || l)
lone_lacks p true l true e f = never refl f
lone_lacks p true l false e f = refl
lone_lacks true false true v e f = never refl e
lone_lacks false false true v e f = refl
lone_lacks p false false v e f = refl

unmatched : (p l : Bool) → (p && l) ≡ false → (l && not p) ≡ l
unmatched true true e = never refl e
unmatched true false e = refl
unmatched false true e = refl
unmatched false false e = refl

-- a unit that is not the first of a pair might as well not be there
forget : (p : ℕ) (us : List ℕ) → (is_high p && is_low (get_or us 0 0)) ≡ false → behind p us ≡ behind 0 us
forget p [] t = refl
forget p (v ∷ us) t =
    let w = get_or us 0 0 in
    let same = unmatched (is_high p) (is_low v) t ∙ sym (unmatched (is_high 0) (is_low v) refl) in
    behind_cons p v us ∙ ap (λ (b : Bool). cond ((is_high v && not (is_low w)) || b) 1 0 + behind v us) same ∙ sym (behind_cons 0 v us)

-- ---- what units begin with

pub lone_counts : (u : ℕ) (us : List ℕ) → (is_high u && is_low (get_or us 0 0)) ≡ false → unpaired (u ∷ us) ≡ replaced_alone u + unpaired us
unfolding unpaired
lone_counts u us t =
    behind_cons 0 u us
    ∙ ap₂ (λ (b : Bool) (n : ℕ). cond b 1 0 + n) (lone_lacks (is_high 0) (is_high u) (is_low u) (is_low (get_or us 0 0)) refl t ∙ sym (surrogate u)) (forget u us t)

pub pair_counts : (u v : ℕ) (us : List ℕ) → (is_high u && is_low v) ≡ true → unpaired (u ∷ v ∷ us) ≡ unpaired us
unfolding unpaired
pair_counts u v us t =
    let h = first (is_high u) (is_low v) t in
    let l = second (is_high u) (is_low v) t in
    let none_first : lacks 0 u v ≡ false = simp (h, l, high_is_not_low u h) in
    let none_second : lacks u v (get_or us 0 0) ≡ false = simp (h, l, low_is_not_high v l) in
    behind_cons 0 u (v ∷ us) ∙ ap₂ (λ (b : Bool) (n : ℕ). cond b 1 0 + n) none_first (behind_cons u v us) ∙ zero-add _
    ∙ ap₂ (λ (b : Bool) (n : ℕ). cond b 1 0 + n) none_second (forget v us (not_first (is_low (get_or us 0 0)) (low_is_not_high v l))) ∙ zero-add _
