-- A full buffer closes the run.
use Rattle.std.proofs.Common.{eq-eqb}
use Rattle.places.proofs.Steps.{then_step}
use Rattle.places.proofs.Place.refill.Goals as goal

pub returns-then-n-buf : goal.returns-then-n-buf
returns-then-n-buf c = then_step _ (eq-eqb _ _ c.if-n-buf.true) (c.close.ensures _)
