-- Two bytes.
use Rattle.digits.proofs.Puts.{puts_then}
use Rattle.lines.proofs.put_letter.Goals as goal

pub returns : goal.returns
returns c = puts_then c.put_byte.ensures c.put_byte-2.ensures
