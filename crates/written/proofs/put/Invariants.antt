-- Each turn takes the copy of i bytes to the copy of i + 1.
use mathlib.Core.Path.{◌≡◌}
use lib.Seq.{paste}
use Rattle.written.proofs.put.Given as goal

abbrev pub invariant-loop-i : goal.invariant-loop-i
invariant-loop-i l = l.out ≡ paste l.initial.out 0 l.src l.i
