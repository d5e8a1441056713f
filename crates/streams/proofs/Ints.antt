-- A test of a signed number against a constant, as the machine makes it on the bits.
use mathlib.Core.Path.{◌≡◌, refl, sym, ap, ◌∙◌, subst}
use mathlib.Core.Bool.{true, false}
use Prim.Native.Nat.{ℕ}
use lib.IntN.{ℤ, pos, negsuc}
use borrow.Author.Tests.{eq-eqb, ne_eqb}
use mir.Syntax.{Width}
use mir.Val.{to_z, of_z}
use Rattle.streams.specs.Told.{is_int}

same : (a : ℤ) → is_int a a ≡ true
same (pos m) = eq-eqb m m refl
same (negsuc m) = eq-eqb m m refl

other : (a b : ℤ) → (a ≡ b → ⊥) → is_int a b ≡ false
other (pos m) (pos n) h = ne_eqb m n (λ e. h (ap pos e))
other (pos m) (negsuc n) h = refl
other (negsuc m) (pos n) h = refl
other (negsuc m) (negsuc n) h = ne_eqb m n (λ e. h (ap negsuc e))

-- v is the number that was read, and a what it was passed on as, with the bits n of a constant
module _ (w : Width) (n : ℕ) {a v : ℤ} (read : a ≡ v) where
  pub is_int_lem : to_z w (of_z w a) ≡ a → of_z w a ≡ n → is_int v (to_z w n) ≡ true
  is_int_lem back e = subst (λ z. is_int v z ≡ true) (sym read ∙ sym back ∙ ap (to_z w) e) (same v)

  pub is_no_int : of_z w (to_z w n) ≡ n → (of_z w a ≡ n → ⊥) → is_int v (to_z w n) ≡ false
  is_no_int fits h = other v (to_z w n) (λ e. h (ap (of_z w) (read ∙ e) ∙ fits))
