-- The line goes on.
use Rattle.std.proofs.Common.{ne_eqb}
use Rattle.digits.proofs.Puts.{puts_then}
use Rattle.lines.proofs.put_more.Goals as goal

pub returns-clause-put : goal.returns-clause-put
returns-clause-put c = rw (ne_eqb _ 0 c.if-behind-eq0.false) (puts_then c.put_text.ensures c.put_behind.ensures.put)
