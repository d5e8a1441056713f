-- By what was read of the delta: the point it makes, or why there is none.
use Rattle.std.proofs.lemmas.Result.{err_from_is_err_and}
use Rattle.common.specs.Bytes.{be}
use Rattle.streams.specs.Next.{sum_of}
use Rattle.mwd.specs.Mwd.{mwd_point}
use Rattle.streams.specs.declared.State.TheVariants.{Mwd}
use Rattle.streams.proofs.PointLaws.{point_of_lem}
use Rattle.mwd.proofs.mwd_point.Goals as goal

pub returns : goal.returns
unfolding mwd_point
returns c =
    rw (c.mwd_given.ensures, c.applied_to-value.ensures)
    (point_of_lem be c.args.input.last c.args.input.at c.args.input.bytes.now (sum_of (Mwd c.args.st)) _ c.delta_at.ensures c.in_ok-d.was)

pub returns-in_err-d : goal.returns-in_err-d
unfolding mwd_point
returns-in_err-d c =
    let p = err_from_is_err_and c.from_residual.result c.from_residual.ensures.1 in
    rw (p.1, p.2) (point_of_lem be c.args.input.last c.args.input.at c.args.input.bytes.now (sum_of (Mwd c.args.st)) _ c.delta_at.ensures c.in_err-d.was)
