-- A number of 64 bits with a sign: its size without it.
use mathlib.Core.Path.{◌≡◌, refl, sym, ◌∙◌}
use mathlib.Core.Bool.{true, false, false≢true}
use mathlib.Core.List.{[], ◌∷◌, ◌++◌}
use Prim.Native.Nat.{ℕ}
use native.Mathlib.Omega.{arith}
use borrow.Author.Tests.{le-leb}
use lib.IntN.{ℤ, pos, negsuc, nat_abs}
use lib.Signed.{le_z}
use Rattle.digits.specs.Numbers.{number, signed_number}

-- as text: the size, behind `-` where it is negative
pub plain_text : (n : ℤ) (sep : ℕ) → le_z (pos 0) n ≡ true → number (nat_abs n) sep ≡ signed_number n sep
plain_text (pos n) sep e = refl
plain_text (negsuc n) sep e = absurd (false≢true e)

pub minus_text : (n : ℤ) (sep : ℕ) → le_z (pos 0) n ≡ false → (45 ∷ []) ++ number (nat_abs n) sep ≡ signed_number n sep
minus_text (pos n) sep e = absurd (false≢true (sym e ∙ le-leb 0 n (omega arith)))
minus_text (negsuc n) sep e = refl
