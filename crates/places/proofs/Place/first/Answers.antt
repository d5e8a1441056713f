-- The input has ended.
use Rattle.places.proofs.Steps.{then_step}
use Rattle.places.proofs.Place.first.Goals as goal

pub returns-then-self : goal.returns-then-self
returns-then-self c = λ buf. then_step _ c.if-self.true (c.close.ensures buf)
