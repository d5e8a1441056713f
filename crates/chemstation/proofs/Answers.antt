-- An answer of Next record on the bytes from a position on, as a caller has it.
use mathlib.Core.Path.{◌≡◌, sym, ap, ◌∙◌}
use mathlib.Core.Bool.{Bool}
use mathlib.Core.List.{List}
use Prim.Native.Nat.{ℕ, ◌-◌}
use native.Mathlib.Omega.{arith}
use lib.ListN.{length, take, drop, length-drop}
use lib.Seq.{take_all}
use Rattle.rules.specs.Rule.{read}
use Rattle.streams.specs.Next.{answer_of}
use Rattle.streams.specs.declared.State.{State}
use Rattle.std.specs.Prelude.{Result}
use Rattle.error.specs.declared.Stopped.{Stopped}
use Rattle.streams.specs.declared.Given.{Given}
use Rattle.chemstation.specs.Next.{rule}

-- what an answer on the bytes from a position on says: such a part of a slice is all that is left of it
pub answered : (st : State) (last : Bool) (s : List ℕ) (at : ℕ) (x y : Result Given Stopped) → answer_of x ≡ read last (rule st) (take (length s - at) (drop at s)) → x ≡ y → read last (rule st) (drop at s) ≡ answer_of y
answered st last s at x y e q = ap (read last (rule st)) (sym (take_all (length s - at) (drop at s) (omega (arith, length-drop at s)))) ∙ sym e ∙ ap answer_of q
