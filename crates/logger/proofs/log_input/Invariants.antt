-- What is still read and written makes the rest of the log; the measure falls by each step.
use Rattle.std.proofs.Common.{ℕ, ◌≡◌, List, IsTrue, Some}
use Rattle.runs.specs.Whole.{weight}
use Rattle.logger.proofs.Runs.{Going}
use Rattle.logger.proofs.log_input.Given as goal

abbrev pub invariant-loop-q : goal.invariant-loop-q
invariant-loop-q g l =
    IsTrue l.whole → (xs ys : List ℕ) → g.R.Read.remaining l.fn.input ≡ Some xs → g.W.Write.contents l.fn.output ≡ Some ys →
    Going l.fn.mode l.fn.buf l.fn.out xs ys l.p l.buf l.out (g.R.Read.remaining l.input) (g.W.Write.contents l.output)

abbrev pub decreases-loop-q : goal.decreases-loop-q
decreases-loop-q g l = weight l.p
