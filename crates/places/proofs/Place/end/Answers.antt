-- What closed the run is consumed, and the line put.
use Rattle.std.proofs.Common.{refl}
use Rattle.places.proofs.Steps.{step_as, ends_as}
use Rattle.places.proofs.Place.end.Goals as goal

pub returns : goal.returns
returns c =
    λ buf. step_as (ends_as c.args.st c.args.self _ c.args.hand.now buf c.args.out.now _ _ refl c.scan_left-due.ensures c.closing_bytes.ensures.0) (c.close.ensures buf)
