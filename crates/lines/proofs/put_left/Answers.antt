-- The words before it, and what is left.
use Rattle.digits.proofs.Puts.{puts_then}
use Rattle.lines.specs.Left.{left_line}
use Rattle.lines.proofs.put_left.Goals as goal

pub returns-clause-put : goal.returns-clause-put
unfolding left_line
returns-clause-put c = puts_then c.put_text.ensures c.put_scan.ensures.put
