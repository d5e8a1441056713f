-- The number and the words behind it.
use Rattle.digits.proofs.Puts.{puts_then}
use Rattle.lines.proofs.put_behind.Goals as goal

pub returns-clause-put : goal.returns-clause-put
returns-clause-put c = puts_then c.put_number.ensures.put c.put_text.ensures
