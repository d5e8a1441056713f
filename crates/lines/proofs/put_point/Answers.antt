-- The time, the axis and the values.
use Rattle.digits.proofs.Puts.{puts_then}
use Rattle.lines.proofs.put_point.Goals as goal

pub returns-clause-put : goal.returns-clause-put
returns-clause-put c = puts_then c.put_time.ensures.put (puts_then c.put_double.ensures.put c.put_values.ensures.put)
