-- Two fields.
use Rattle.digits.proofs.Puts.{puts_then}
use Rattle.lines.proofs.put_values.Goals as goal

pub returns-clause-put : goal.returns-clause-put
returns-clause-put c = puts_then c.put_double.ensures.put c.put_double-2.ensures.put
