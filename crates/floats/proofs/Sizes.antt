-- Integers by sign and size.
use Rattle.std.proofs.Common.{◌≡◌, ℕ, zero, suc, ◌+◌, ◌-◌, ◌*◌, ◌≤◌, Bool, true, false, cond, not, ltb, ℤ, pos, negsuc, ◌+ℤ◌, ◌*ℤ◌, neg_ℤ, nat_abs, refl, le_refl, arith}
use lib.IntN.{sub_ℕ}
use lib.Ieee.{unlike}
use Rattle.floats.specs.Wholes.{negative}

abbrev pub signed : Bool → ℕ → ℤ
signed false n = pos n
signed true n = neg_ℤ (pos n)

pub signed_is : (z : ℤ) → signed (negative z) (nat_abs z) ≡ z
signed_is (pos n) = refl
signed_is (negsuc n) = refl

pub signed_neg : (z : ℤ) → signed (not (negative z)) (nat_abs z) ≡ neg_ℤ z
signed_neg (pos n) = refl
signed_neg (negsuc n) = refl

pub nat_abs_signed_lem : (s : Bool) (n : ℕ) → nat_abs (signed s n) ≡ n
nat_abs_signed_lem false n = refl
nat_abs_signed_lem true zero = refl
nat_abs_signed_lem true (suc n) = refl

pub signed_times : (a b : ℤ) → signed (unlike (negative a) (negative b)) (nat_abs a * nat_abs b) ≡ a *ℤ b
signed_times (pos a) (pos b) = refl
signed_times (pos a) (negsuc b) = refl
signed_times (negsuc a) (pos b) = refl
signed_times (negsuc a) (negsuc b) = refl

nat_abs_sub_lem : (a b : ℕ) → nat_abs (sub_ℕ a (suc b)) ≤ a + suc b
nat_abs_sub_lem a b = go (ltb a (suc b))
  where
    go : (x : Bool) → nat_abs (cond x (negsuc (suc b - suc a)) (pos (a - suc b))) ≤ a + suc b
    go true = omega arith
    go false = omega arith

pub nat_abs_add_lem : (a b : ℤ) → nat_abs (a +ℤ b) ≤ nat_abs a + nat_abs b
nat_abs_add_lem (pos a) (pos b) = le_refl (a + b)
nat_abs_add_lem (pos a) (negsuc b) = nat_abs_sub_lem a b
nat_abs_add_lem (negsuc a) (pos b) = omega (arith, nat_abs_sub_lem b a)
nat_abs_add_lem (negsuc a) (negsuc b) = omega arith
