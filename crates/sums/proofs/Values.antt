-- Which doubles count, and as which number: those below 2^53 in size that equal the double of their whole part.
use Rattle.std.proofs.Common.{◌≡◌, ℕ, zero, suc, ◌+◌, ◌-◌, ◌*◌, ◌/◌, ◌%◌, ◌^◌, ◌<◌, min, Bool, true, false, not, ◌&&◌, ◌||◌, T, eqb, ltb, ℤ, pos, negsuc, nat_abs, sym, refl, ap, ◌∙◌, subst, le_of_lt, div-lt_iff_lt-mul, div-add-mod', le-div_iff_mul-le, zero-mul, mul-one, mul_right_comm, mul-div_cancel, arith, eqb→eq, ltb→lt, lt→ltb, ltb-false, ltb-true, le-ltb, lt-ltb, eq-eqb, ne_eqb, eqb-true}
use mathlib.Core.Bool.{beq, and-true, and-false}
use native.Mathlib.Nat.{mul-mod_left, eq_of_mul-eq-mul_right}
use borrow.Author.Tests.{eqb-false}
use lib.Ieee.{Float, nan, inf, fin, binary64, up, down, level, lt, le, eq, of_int, to_signed}
use lib.Ieee.Bits.{is_true}
use lib.Ieee.Fits.{down_pos, and_l, and_r}
use lib.Ieee.Exact.{HasValue}
use Rattle.floats.specs.Wholes.{IsWhole, negative}
use Rattle.floats.proofs.Sizes.{signed, signed_is, nat_abs_signed_lem}
use Rattle.floats.proofs.Exact.{whole_of_lem, whole_value}
use Rattle.sums.specs.Sums.{counts, whole_of}

-- ---- a float with a whole number's value

-- 64 bits hold a whole part below 2^53
cut_small : (s : Bool) (m : ℕ) (e : ℤ) → m * up e / down e < 2 ^ 53 → whole_of (fin s m e) ≡ signed s (m * up e / down e)
unfolding to_signed
cut_small true m e l = let q = m * up e / down e in let h : min q (2 ^ 63) ≡ q = omega arith in rw h
cut_small false m e l = let q = m * up e / down e in let h : min q (2 ^ 63 - 1) ≡ q = omega arith in rw h

-- nothing is cut off a whole number
cut_whole : (m n : ℕ) (e : ℤ) → m * up e * 1 ≡ n * down e → (m * up e / down e ≡ n) × (m * up e % down e ≡ 0)
cut_whole m n e h = let q = sym (mul-one (m * up e)) ∙ h in (rw q (mul-div_cancel n (down_pos e)), rw q (mul-mod_left n (down e)))

-- so it counts by its size alone
value_counts : (v : Float) (s : Bool) (n : ℕ) → HasValue v s n 1 → counts v ≡ ltb n (2 ^ 53)
value_counts nan s n h = absurd h
value_counts (inf t) s n h = absurd h
value_counts (fin t m e) s n h = let x = cut_whole m n e h.1 in rw (x.0, x.1)

-- and as itself
value_whole : (v : Float) (s : Bool) (n : ℕ) → HasValue v s n 1 → n < 2 ^ 53 → whole_of v ≡ signed s n
value_whole nan s n h l = absurd h
value_whole (inf t) s n h l = absurd h
value_whole (fin t m e) s n h l = let q = (cut_whole m n e h.1).0 in cut_small t m e (omega arith) ∙ rw (h.0, q)

-- ---- a whole number's double, and -0

pub whole_counts : (v : Float) (z : ℤ) → IsWhole binary64 v z → nat_abs z < 2 ^ 53 → (counts v ≡ true) × (whole_of v ≡ z)
whole_counts v z w l =
    let h = whole_value binary64 v z w in
    (value_counts v (negative z) (nat_abs z) h ∙ lt-ltb (nat_abs z) (2 ^ 53) l, value_whole v (negative z) (nat_abs z) h l ∙ signed_is z)

pub whole_large : (v : Float) (z : ℤ) → IsWhole binary64 v z → nat_abs z ≡ 2 ^ 53 → counts v ≡ false
whole_large v z w e = value_counts v (negative z) (nat_abs z) (whole_value binary64 v z w) ∙ le-ltb (nat_abs z) (2 ^ 53) (omega arith)

pub minus_zero_counts : (counts (fin true 0 (pos 0)) ≡ true) × (whole_of (fin true 0 (pos 0)) ≡ pos 0)
unfolding to_signed
minus_zero_counts = (refl, refl)

-- these, as `TotalsAreSums` has them
pub wholes : (v : Float) (z : ℤ) → IsWhole binary64 v z → nat_abs z < 2 ^ 53 → T (counts v) × (whole_of v ≡ z)
wholes v z w l = let r = whole_counts v z w l in (subst T (sym r.0) tt, r.1)

pub large : (v : Float) (z : ℤ) → IsWhole binary64 v z → nat_abs z ≡ 2 ^ 53 → T (not (counts v))
large v z w e = subst (λ (b : Bool). T (not b)) (sym (whole_large v z w e)) tt

pub minus_zero : T (counts (fin true 0 (pos 0))) × (whole_of (fin true 0 (pos 0)) ≡ pos 0)
minus_zero = (tt, minus_zero_counts.1)

-- ---- `==` with a float that has a whole number's value

-- a common denominator goes away
eqb_scaled : (a b c : ℕ) → 0 < c → eqb (a * c) (b * c) ≡ eqb a b
eqb_scaled a b c p = go (eqb a b) refl
  where
    go : (x : Bool) → eqb a b ≡ x → eqb (a * c) (b * c) ≡ x
    go true e = eq-eqb (a * c) (b * c) (ap (λ (n : ℕ). n * c) (eqb-true a b e))
    go false e = ne_eqb (a * c) (b * c) (λ h. eqb-false a b e (eq_of_mul-eq-mul_right c p a b h))

eqb_zero : (a c : ℕ) → 0 < c → eqb (a * c) 0 ≡ eqb a 0
eqb_zero a c p = rw (zero-mul c) at (eqb_scaled a 0 c p)

-- only the other's denominator is left
eq_value : (x : Float) (s : Bool) (n : ℕ) (t : Bool) (m : ℕ) (e : ℤ) → HasValue x s n 1 → eq x (fin t m e) ≡ level s (n * down e) t (m * up e)
unfolding eq
eq_value nan s n t m e h = absurd h
eq_value (inf u) s n t m e h = absurd h
eq_value (fin u k d) s n t m e h =
    let q : k * up d * down e ≡ n * down e * down d = rw (sym (mul-one (k * up d)) ∙ h.1) (mul_right_comm n (down d) (down e)) in
    rw (h.0, q, eqb_scaled (n * down e) (m * up e) (down d) (down_pos d), eqb_zero (n * down e) (down d) (down_pos d))

-- it equals only finite floats
eq_finite : (x : Float) (s : Bool) (n : ℕ) → HasValue x s n 1 → (eq x nan ≡ false) × ((t : Bool) → eq x (inf t) ≡ false)
unfolding eq
eq_finite nan s n h = absurd h
eq_finite (inf u) s n h = absurd h
eq_finite (fin u m e) s n h = (refl, λ t. refl)

-- signs that `==` does not tell apart are those of one number: they are the same, or it is 0
same_number : (s t : Bool) (n c : ℕ) → 0 < c → (beq s t || eqb (n * c) 0) ≡ true → signed t n ≡ signed s n
same_number false false n c p h = refl
same_number true true n c p h = refl
same_number false true n c p h = rw (eqb-true n 0 (rw (eqb_zero n c p) at h))
same_number true false n c p h = rw (eqb-true n 0 (rw (eqb_zero n c p) at h))

-- what equals a whole number's double counts as that number, -0 as 0
pub eq_counts : (x y : Float) (z : ℤ) → IsWhole binary64 x z → nat_abs z < 2 ^ 53 → eq x y ≡ true → (counts y ≡ true) × (whole_of y ≡ z)
eq_counts x nan z w l h = absurd (subst T (sym h ∙ (eq_finite x (negative z) (nat_abs z) (whole_value binary64 x z w)).0) tt)
eq_counts x (inf t) z w l h = absurd (subst T (sym h ∙ (eq_finite x (negative z) (nat_abs z) (whole_value binary64 x z w)).1 t) tt)
eq_counts x (fin t m e) z w l h =
    let n = nat_abs z in
    let sizes = eqb (n * down e) (m * up e) in
    let signs = beq (negative z) t || eqb (n * down e) 0 in
    let both : T (sizes && signs) = subst T (sym h ∙ eq_value x (negative z) n t m e (whole_value binary64 x z w)) tt in
    let v : HasValue (fin t m e) t n 1 = (refl, mul-one (m * up e) ∙ sym (eqb→eq (n * down e) (m * up e) (and_l sizes signs both))) in (
      value_counts (fin t m e) t n v ∙ lt-ltb n (2 ^ 53) l,
      value_whole (fin t m e) t n v l ∙ same_number (negative z) t n (down e) (down_pos e) (is_true signs (and_r sizes signs both)) ∙ signed_is z,
    )

-- ---- `==` with the double of the whole part

back_value : (s : Bool) (n : ℕ) → n < 2 ^ 53 → HasValue (of_int binary64 (signed s n)) (negative (signed s n)) n 1
back_value false n l = whole_value binary64 (of_int binary64 (pos n)) (pos n) (whole_of_lem binary64 (pos n) (le_of_lt l))
back_value true zero l = whole_value binary64 (of_int binary64 (pos 0)) (pos 0) (whole_of_lem binary64 (pos 0) (le_of_lt l))
back_value true (suc n) l = whole_value binary64 (of_int binary64 (negsuc n)) (negsuc n) (whole_of_lem binary64 (negsuc n) (le_of_lt l))

-- only a zero changes its sign
back_sign : (s : Bool) (n c : ℕ) → (beq (negative (signed s n)) s || eqb (n * c) 0) ≡ true
back_sign false n c = refl
back_sign true zero c = eq-eqb (0 * c) 0 (zero-mul c)
back_sign true (suc n) c = refl

-- equal is what leaves no rest
no_rest : (a b r : ℕ) → a + r ≡ b → (eqb a b && true) ≡ eqb r 0
no_rest a b r h = go (eqb r 0) refl
  where
    go : (x : Bool) → eqb r 0 ≡ x → (eqb a b && true) ≡ x
    go true e = let z = eqb-true r 0 e in rw (eq-eqb a b (omega arith))
    go false e = rw (ne_eqb a b (λ k. eqb-false r 0 e (omega arith)))

-- so the test asks whether there is a fraction
back_is : (s : Bool) (m : ℕ) (e : ℤ) → m * up e / down e < 2 ^ 53 → eq (of_int binary64 (whole_of (fin s m e))) (fin s m e) ≡ eqb (m * up e % down e) 0
back_is s m e l =
    let q = m * up e / down e in
    ap (λ (z : ℤ). eq (of_int binary64 z) (fin s m e)) (cut_small s m e l)
    ∙ eq_value (of_int binary64 (signed s q)) (negative (signed s q)) q s m e (back_value s q l)
    ∙ rw (back_sign s q (down e)) (no_rest (q * down e) (m * up e) (m * up e % down e) (div-add-mod' (m * up e) (down e)))

-- ---- the tests of `whole_of`

-- the whole part of n / d is below 2^53 exactly where n / d is
below_scaled : (n d : ℕ) → 0 < d → ltb (n * 1) (1 * 2 ^ 53 * d) ≡ ltb (n / d) (2 ^ 53)
below_scaled n d p = go (ltb (n / d) (2 ^ 53)) refl
  where
    go : (x : Bool) → ltb (n / d) (2 ^ 53) ≡ x → ltb (n * 1) (1 * 2 ^ 53 * d) ≡ x
    go true e = let h = (div-lt_iff_lt-mul p).0 (ltb-true (n / d) (2 ^ 53) e) in lt-ltb (n * 1) (1 * 2 ^ 53 * d) (omega arith)
    go false e = let h = (le-div_iff_mul-le p).0 (ltb-false (n / d) (2 ^ 53) e) in le-ltb (n * 1) (1 * 2 ^ 53 * d) (omega arith)

-- between -2^53 and 2^53 the size is below 2^53: one of the two tests says so, by the sign, and the other passes
between : (s : Bool) (m : ℕ) (e : ℤ) → (lt (fin true 1 (pos 53)) (fin s m e) && lt (fin s m e) (fin false 1 (pos 53))) ≡ ltb (m * up e / down e) (2 ^ 53)
unfolding lt
between true m e =
    let d = down_pos e in
    rw (below_scaled (m * up e) (down e) d, lt-ltb 0 (m * up e * 1 + 1 * 2 ^ 53 * down e) (omega arith)) (and-true (ltb (m * up e / down e) (2 ^ 53)))
between false m e = let d = down_pos e in rw (lt-ltb 0 (1 * 2 ^ 53 * down e + m * up e * 1) (omega arith)) (below_scaled (m * up e) (down e) d)

pub tests : (v : Float) → counts v ≡ ((lt (fin true 1 (pos 53)) v && lt v (fin false 1 (pos 53))) && eq (of_int binary64 (whole_of v)) v)
unfolding lt
tests nan = refl
tests (inf true) = refl
tests (inf false) = refl
tests (fin s m e) =
    let same = eq (of_int binary64 (whole_of (fin s m e))) (fin s m e) in
    let q = m * up e / down e in
    swap (eqb (m * up e % down e) 0) (ltb q (2 ^ 53)) same (λ t. sym (back_is s m e (ltb-true q (2 ^ 53) t))) ∙ ap (λ (b : Bool). b && same) (sym (between s m e))
  where
    swap : (a b c : Bool) → (b ≡ true → a ≡ c) → (a && b) ≡ (b && c)
    swap a true c h = and-true a ∙ h refl
    swap a false c h = and-false a

-- what counts equals the double of its whole part: it is the last of the tests
pub counts_eq : (y : Float) → counts y ≡ true → eq (of_int binary64 (whole_of y)) y ≡ true
counts_eq y h =
    let same = eq (of_int binary64 (whole_of y)) y in
    is_true same (and_r (lt (fin true 1 (pos 53)) y && lt y (fin false 1 (pos 53))) same (subst T (sym h ∙ tests y) tt))

pub counted : (v : Float) → T (counts v) → (nat_abs (whole_of v) < 2 ^ 53) × T (eq (of_int binary64 (whole_of v)) v)
counted nan t = absurd t
counted (inf s) t = absurd t
counted (fin s m e) t =
    let q = m * up e / down e in
    let l = ltb→lt q (2 ^ 53) (and_r (eqb (m * up e % down e) 0) (ltb q (2 ^ 53)) t) in
    let n : nat_abs (whole_of (fin s m e)) ≡ q = ap nat_abs (cut_small s m e l) ∙ nat_abs_signed_lem s q in
    (omega (arith, n, l), subst T (sym (counts_eq (fin s m e) (is_true (counts (fin s m e)) t))) tt)

-- what the truncation asks: 2^63 is further out
pub in_range : (v : Float) → lt (fin true 1 (pos 53)) v ≡ true → lt v (fin false 1 (pos 53)) ≡ true → T (le (fin true 1 (pos 63)) v) × T (lt v (fin false 1 (pos 63)))
unfolding lt le
in_range nan a b = absurd (subst T (sym a) tt)
in_range (inf true) a b = absurd (subst T (sym a) tt)
in_range (inf false) a b = absurd (subst T (sym b) tt)
in_range (fin true m e) a b =
    let h = ltb-true (m * up e * 1) (1 * 2 ^ 53 * down e) a in
    let d = down_pos e in
    (rw (lt-ltb (m * up e * 1) (1 * 2 ^ 63 * down e) (omega arith)) tt, lt→ltb 0 (m * up e * 1 + 1 * 2 ^ 63 * down e) (omega arith))
in_range (fin false m e) a b =
    let h = ltb-true (m * up e * 1) (1 * 2 ^ 53 * down e) b in
    let d = down_pos e in
    (rw (lt-ltb 0 (1 * 2 ^ 63 * down e + m * up e * 1) (omega arith)) tt, lt→ltb (m * up e * 1) (1 * 2 ^ 63 * down e) (omega arith))
