-- The letter, and the time.
use Rattle.digits.proofs.Puts.{puts_then}
use Rattle.lines.proofs.put_time.Goals as goal

pub returns-clause-put : goal.returns-clause-put
returns-clause-put c = puts_then c.put_letter.ensures c.put_double.ensures.put
