-- Once all is written, by the phase.
use Rattle.places.proofs.Steps.{some, none, then_step, else_step, after_as}
use Rattle.places.proofs.Place.after.Goals as goal

pub returns-then-self-gt0 : goal.returns-then-self-gt0
returns-then-self-gt0 c = λ buf. else_step _ (some c.if-self-gt0.true) (c.write.ensures buf _)

pub returns-in-TooLong : goal.returns-in-TooLong
returns-in-TooLong c =
    λ buf. then_step _ (none c.if-self-gt0.false) (after_as _ _ buf _ c.in-TooLong.is (c.tell_too_long.ensures buf))
