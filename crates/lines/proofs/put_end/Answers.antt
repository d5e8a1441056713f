-- The letter, the answer and the count.
use Rattle.digits.proofs.Puts.{puts_then}
use Rattle.lines.proofs.put_end.Goals as goal

pub returns-clause-put : goal.returns-clause-put
returns-clause-put c = puts_then c.put_letter.ensures (puts_then c.put_answer.ensures.put c.put_number.ensures.put)
