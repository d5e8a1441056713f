-- A record without an axis: the time, what stands for the axis, and the values.
use Rattle.std.proofs.Common.{sym, ap}
use Rattle.lines.specs.Lines.{record_line}
use Rattle.digits.proofs.Puts.{puts_as, puts_then}
use Rattle.lines.proofs.put_record.Goals as goal

pub returns-in-Trace-clause-put : goal.returns-in-Trace-clause-put
unfolding record_line
returns-in-Trace-clause-put c = puts_as (ap record_line (sym c.in-Trace.is)) (puts_then c.put_time.ensures.put (puts_then c.put_letter.ensures c.put_values.ensures.put))
