-- The invariant: what is left, on top of the total that the tally stands for, adds up to what all does.
use Rattle.std.proofs.Common.{arith}
use Rattle.tally.proofs.Laws.{adding_start, adding_end}
use Rattle.tally.proofs.total_from.Goals as goal

pub loop-v-init : goal.loop-v-init
loop-v-init c = adding_start _ _ _ c.start-sum.ensures

pub returns : goal.returns
returns c = adding_end _ _ _ c.loop-v.sum _ c.loop-v.v-index (omega (arith, c.loop-v.invariant.inside)) c.total.ensures c.start-sum.ensures c.loop-v.invariant
