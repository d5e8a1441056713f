-- The theorem, from the two that are cited.
use Rattle.runlog.specs.Log.{refused_run}
use Rattle.foot.proofs.Feet.{exact, sum, foot, array, number}
use Rattle.foot.proofs.Printed.{lines, printed, within}
use Rattle.foot.proofs.foot_of_log.Goals as goal

pub returns : goal.returns
returns c =
    let d = c.demand_three.ensures in
    let s = c.totals_are_sums.ensures in
    record { exact = λ mode size kind F b l. exact d b l; sum = sum s d; foot = foot s d; number = number; array = array; refused = λ mode size kind F z e. refused_run e; lines = lines; printed = printed; within = within }
