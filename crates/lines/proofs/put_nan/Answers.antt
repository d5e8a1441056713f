-- Three bytes.
use Rattle.digits.proofs.Puts.{puts_then}
use Rattle.lines.proofs.put_nan.Goals as goal

pub returns : goal.returns
returns c = puts_then (puts_then c.put_byte.ensures c.put_byte-2.ensures) c.put_byte-3.ensures
