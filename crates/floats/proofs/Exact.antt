-- A sum, a difference and a product of two floats that are whole numbers: by sign and size the same as the integers'.
use Rattle.std.proofs.Common.{◌≡◌, ℕ, zero, suc, ◌-◌, ◌*◌, ◌^◌, ◌<◌, ◌≤◌, Bool, true, false, cond, not, T, ltb, ℤ, pos, negsuc, ◌+ℤ◌, nat_abs, sym, refl, ap, ◌∙◌, add-zero, lt_irrefl, zero-lt-suc, mul_assoc, mul_comm, mul-le-mul_left, mul-pos, mul-one, mul-add, mul_left_comm, arith, ltb-false, ltb-true, le-ltb, lt-ltb}
use native.Mathlib.Nat.{mul-sub, mul-lt-mul_of_pos_left}
use lib.IntN.{sub_ℕ, +ℤ_idr}
use lib.Ieee.{Float, nan, inf, fin, Format, binary32, binary64, prec, up, down, unlike, round, neg, sum, add, sub, mul, of_int}
use lib.Ieee.Bits.{is_true}
use lib.Ieee.Fits.{down_pos}
use lib.Ieee.Exact.{HasValue}
use lib.Ieee.Back.{round_whole}
use lib.Ieee.Scale.{round_same}
use Rattle.std.proofs.lemmas.Int.{unsigned_abs-mul}
use Rattle.floats.specs.Wholes.{IsWhole, negative, ExactOn}
use Rattle.floats.proofs.Sizes.{signed, signed_is, signed_neg, signed_times}

of_int_is : (f : Format) (z : ℤ) → of_int f z ≡ round f (negative z) (nat_abs z) 1
unfolding of_int
of_int_is f (pos n) = refl
of_int_is f (negsuc n) = refl

-- a rounded size is the integer's float, but for -0
round_signed : (f : Format) (s : Bool) (n : ℕ) → (T s → 0 < n) → round f s n 1 ≡ of_int f (signed s n)
unfolding of_int
round_signed f false n h = refl
round_signed f true zero h = absurd (lt_irrefl 0 (h tt))
round_signed f true (suc n) h = refl

-- ---- a float of the size n

record Parts (x : Float) (s : Bool) (n : ℕ) : Type 0 where
  m : ℕ
  e : ℤ
  is : x ≡ fin s m e
  size : m * up e ≡ down e * n

parts : (x : Float) (s : Bool) (n : ℕ) → HasValue x s n 1 → Parts x s n
parts nan s n v = absurd v
parts (inf t) s n v = absurd v
parts (fin t m e) s n v = record { m = m; e = e; is = ap (λ (u : Bool). fin u m e) v.0; size = sym (mul-one (m * up e)) ∙ v.1 ∙ mul_comm n (down e) }

pub whole_of_lem : (f : Format) (z : ℤ) → nat_abs z ≤ 2 ^ prec f → IsWhole f (of_int f z) z
whole_of_lem f z h = record { equal = refl; small = h }

pub whole_value : (f : Format) (x : Float) (z : ℤ) → IsWhole f x z → HasValue x (negative z) (nat_abs z) 1
whole_value f x z w = rw (w.equal ∙ of_int_is f z) (round_whole f (negative z) (nat_abs z) w.small)

neg_parts : {x : Float} {s : Bool} {n : ℕ} → Parts x s n → Parts (neg x) (not s) n
neg_parts p = record { m = p.m; e = p.e; is = unfold neg in ap neg p.is; size = p.size }

-- ---- the operations see only sign and size

round_scaled : (f : Format) (s : Bool) (n c : ℕ) → 0 < c → round f s (c * n) c ≡ round f s n 1
round_scaled f s n c p = round_same f s (c * n) c n 1 p (zero-lt-suc 0) (mul-one (c * n) ∙ mul_comm c n)

ltb_scaled : (a b c : ℕ) → 0 < c → ltb (c * a) (c * b) ≡ ltb a b
ltb_scaled a b c p = go (ltb a b) refl
  where
    go : (x : Bool) → ltb a b ≡ x → ltb (c * a) (c * b) ≡ x
    go true e = lt-ltb (c * a) (c * b) (mul-lt-mul_of_pos_left (ltb-true a b e) p)
    go false e = le-ltb (c * a) (c * b) (mul-le-mul_left c (ltb-false a b e))

sum_scaled : (f : Format) (s t : Bool) (a b c : ℕ) → 0 < c → sum f s (c * a) t (c * b) c ≡ sum f s a t b 1
unfolding sum
sum_scaled f s t a b c p = simp (← mul-add, ← mul-sub, ltb_scaled, round_scaled)

add_parts : (f : Format) {x y : Float} {s t : Bool} {a b : ℕ} → Parts x s a → Parts y t b → add f x y ≡ sum f s a t b 1
unfolding add
add_parts f {x} {y} {s} {t} {a} {b} p q =
    let c = down p.e * down q.e in
    let l : p.m * up p.e * down q.e ≡ c * a = rw p.size (simp (mul_assoc, mul_comm, mul_left_comm)) in
    let r : q.m * up q.e * down p.e ≡ c * b = rw q.size (simp (mul_assoc, mul_comm, mul_left_comm)) in
    rw (p.is, q.is) (rw (l, r) (sum_scaled f s t a b c (mul-pos (down_pos p.e) (down_pos q.e))))

mul_parts : (f : Format) {x y : Float} {s t : Bool} {a b : ℕ} → Parts x s a → Parts y t b → mul f x y ≡ round f (unlike s t) (a * b) 1
unfolding mul
mul_parts f {x} {y} {s} {t} {a} {b} p q =
    let c = down p.e * down q.e in
    let l : p.m * up p.e * (q.m * up q.e) ≡ c * (a * b) = rw (p.size, q.size) (simp (mul_assoc, mul_comm, mul_left_comm)) in
    rw (p.is, q.is) (rw l (round_scaled f (unlike s t) (a * b) c (mul-pos (down_pos p.e) (down_pos q.e))))

-- ---- the sum of an integer and a signed size

difference : (f : Format) (a b : ℕ) → cond (ltb a b) (round f true (b - a) 1) (round f false (a - b) 1) ≡ of_int f (sub_ℕ a b)
unfolding of_int
difference f a b = go (ltb a b) (ltb-true a b)
  where
    go : (x : Bool) → (x ≡ true → a < b) → cond x (round f true (b - a) 1) (round f false (a - b) 1) ≡ of_int f (cond x (negsuc (b - suc a)) (pos (a - b)))
    go true h = let l = h refl in let e : b - a ≡ suc (b - suc a) = omega arith in rw e
    go false h = refl

-- the negative one first
flipped : (f : Format) (a b : ℕ) → cond (ltb a b) (round f false (b - a) 1) (round f (ltb b a) (a - b) 1) ≡ cond (ltb b a) (round f true (a - b) 1) (round f false (b - a) 1)
flipped f a b = go (ltb a b) (ltb b a) refl refl
  where
    go : (x y : Bool) → ltb a b ≡ x → ltb b a ≡ y → cond x (round f false (b - a) 1) (round f y (a - b) 1) ≡ cond y (round f true (a - b) 1) (round f false (b - a) 1)
    go true true p q = absurd (omega (arith, ltb-true a b p, ltb-true b a q))
    go true false p q = refl
    go false true p q = refl
    go false false p q = let e : a - b ≡ b - a = omega (arith, ltb-false a b p, ltb-false b a q) in rw e

sum_is : (f : Format) (a : ℤ) (t : Bool) (n : ℕ) → sum f (negative a) (nat_abs a) t n 1 ≡ of_int f (a +ℤ signed t n)
unfolding sum
sum_is f (pos a) false n = unfold of_int in refl
sum_is f (pos a) true zero = difference f a 0 ∙ ap (of_int f) (rw (le-ltb a 0 (omega arith)) (ap pos (omega arith)))
sum_is f (pos a) true (suc n) = difference f a (suc n)
sum_is f (negsuc a) false n = flipped f (suc a) n ∙ difference f n (suc a)
sum_is f (negsuc a) true zero = unfold of_int in ap (λ (k : ℕ). round f true k 1) (add-zero (suc a)) ∙ ap (of_int f) (sym (+ℤ_idr (negsuc a)))
sum_is f (negsuc a) true (suc n) = unfold of_int in ap (λ (k : ℕ). round f true k 1) (omega arith)

-- ---- whole numbers

round_zero : (f : Format) (s : Bool) → round f s 0 1 ≡ fin s 0 (pos 0)
unfolding round
round_zero binary32 s = refl
round_zero binary64 s = refl

pub zero_is : (f : Format) → of_int f (pos 0) ≡ fin false 0 (pos 0)
zero_is f = of_int_is f (pos 0) ∙ round_zero f false

pub exactly : {f : Format} {x y : Float} {a b : ℤ} → IsWhole f x a → IsWhole f y b → ExactOn f x y a b
exactly {f} {x} {y} {a} {b} p q =
    let u = parts x (negative a) (nat_abs a) (whole_value f x a p) in
    let v = parts y (negative b) (nat_abs b) (whole_value f y b q) in
    let s = unlike (negative a) (negative b) in
    let plus : add f x y ≡ of_int f (a +ℤ b) = add_parts f u v ∙ sum_is f a (negative b) (nat_abs b) ∙ ap (λ (z : ℤ). of_int f (a +ℤ z)) (signed_is b) in
    record {
      sums = λ h. record { equal = plus; small = h };
      differences = λ h. record { equal = unfold sub in add_parts f u (neg_parts v) ∙ sum_is f a (not (negative b)) (nat_abs b) ∙ ap (λ (z : ℤ). of_int f (a +ℤ z)) (signed_neg b); small = h };
      products = λ h n. record { equal = mul_parts f u v ∙ round_signed f s (nat_abs a * nat_abs b) (λ t. omega (arith, unsigned_abs-mul a b, n t)) ∙ ap (of_int f) (signed_times a b); small = h };
      cancels = λ e. plus ∙ ap (of_int f) e ∙ zero_is f;
      minus_zero = λ e t. mul_parts f u v ∙ rw (← unsigned_abs-mul a b, e, is_true s t) (round_zero f true);
    }
