-- By the power of ten below it.
use Rattle.std.proofs.Common.{◌∙◌, add-one, arith}
use Rattle.digits.proofs.Digits.{places_between}
use Rattle.digits.proofs.count_places.Goals as goal

pub returns-in-Some : goal.returns-in-Some
returns-in-Some c =
    let k = c.in-Some.k in
    let l = c.in-Some.ensures in
    (add-one k ∙ places_between 19 k c.args.n (omega arith) l.power_le l.next_power_gt, omega arith)
