-- By what was read of the delta: the point it makes, or why there is none.
use Rattle.std.proofs.lemmas.Result.{err_from_is_err_and}
use Rattle.common.specs.Bytes.{le}
use Rattle.streams.specs.Next.{sum_of}
use Rattle.dad.specs.Dad.{dad_point}
use Rattle.streams.specs.declared.State.TheVariants.{Dad}
use Rattle.streams.proofs.PointLaws.{point_of_lem}
use Rattle.dad.proofs.dad_point.Goals as goal

pub returns : goal.returns
unfolding dad_point
returns c =
    rw c.dad_given.ensures (point_of_lem le c.args.input.last c.args.input.at c.args.input.bytes.now (sum_of (Dad c.args.st)) _ c.delta_at.ensures c.in_ok-d.was)

pub returns-in_err-d : goal.returns-in_err-d
unfolding dad_point
returns-in_err-d c =
    let p = err_from_is_err_and c.from_residual.result c.from_residual.ensures.1 in
    rw (p.1, p.2) (point_of_lem le c.args.input.last c.args.input.at c.args.input.bytes.now (sum_of (Dad c.args.st)) _ c.delta_at.ensures c.in_err-d.was)
