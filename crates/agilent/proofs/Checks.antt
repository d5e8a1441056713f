-- A check, and the rule behind it.
use mathlib.Core.Path.{◌≡◌, refl}
use mathlib.Core.Bool.{Bool, true, false}
use Prim.Native.Nat.{ℕ}
use Rattle.rules.specs.Rule.{Rule, refuses, ◌>>=◌, ◌>>◌}
use Rattle.agilent.specs.Header.{check}

module _ {A : Type 0} (c : ℕ) (r : Rule A) where
  pub passes : {b : Bool} → b ≡ true → (check b c >> r) ≡ r
  unfolding ◌>>=◌
  passes e = rw e refl

  pub fails : {b : Bool} → b ≡ false → (check b c >> r) ≡ refuses c
  unfolding ◌>>=◌
  fails e = rw e refl

  -- to show something of both, show it of the rule where the check passes, and of the refusal
  pub by_check : (b : Bool) (P : Rule A → Type 0) → (b ≡ true → P r) → P (refuses c) → P (check b c >> r)
  unfolding ◌>>=◌
  by_check true P f x = f refl
  by_check false P f x = x
