-- The invariant: what is left, on top of the total that the tally stands for, adds up to what all does.
use Rattle.sums.specs.Sums.{total_from}
use Rattle.tally.proofs.Laws.{Adding}
use Rattle.tally.proofs.total_from.Given as goal

abbrev pub invariant-loop-v : goal.invariant-loop-v
invariant-loop-v l = Adding l.values (total_from l.initial.sum.far l.values) l.sum l.v-index
