-- A number that is read up to a position.
use mathlib.Core.Path.{◌≡◌, ap, ◌∙◌}
use mathlib.Core.Bool.{Bool}
use mathlib.Core.List.{List}
use Prim.Native.Nat.{ℕ, ◌+◌, ◌≤◌}
use native.Mathlib.Omega.{arith}
use lib.ListN.{length}
use Rattle.rules.specs.Rule.{Rule, read_at, ◌>>=◌, bytes_as}
use Rattle.rules.proofs.Places.{at_number}
use Rattle.common.specs.Bytes.{part}

pub number_to : {A B : Type 0} (last : Bool) (w : ℕ) (g : List ℕ → A) (f : A → Rule B) (at n : ℕ) (s : List ℕ) → at + w ≡ n → n ≤ length s →
    read_at last (bytes_as w g >>= f) at s ≡ read_at last (f (g (part at w s))) n s
number_to last w g f at n s e h = at_number last w g f at s (omega arith) ∙ ap (λ m. read_at last (f (g (part at w s))) m s) e
