-- The letter and two numbers.
use Rattle.std.proofs.Common.{ap}
use Rattle.lines.specs.Lines.{header_line}
use Rattle.digits.proofs.Puts.{puts_as, puts_then}
use Rattle.lines.proofs.put_header.Goals as goal

pub returns-clause-put : goal.returns-clause-put
returns-clause-put c = puts_as (ap (λ n. header_line n c.args.size) c.from.ensures) (puts_then c.put_letter.ensures (puts_then c.put_number.ensures.put c.put_number-2.ensures.put))
