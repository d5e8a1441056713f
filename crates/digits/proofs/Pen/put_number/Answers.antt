-- The digits, and what ends the field.
use Rattle.std.proofs.Common.{ap, arith}
use Rattle.digits.specs.Numbers.{decimal, digits, field}
use Rattle.digits.proofs.Digits.{length_digits}
use Rattle.digits.proofs.Puts.{puts_as, puts_then}
use Rattle.digits.proofs.Pen.put_number.Goals as goal

pub returns : goal.returns
unfolding decimal
returns c = record {
  put = puts_as (ap (λ m. field (digits 10 m c.args.n) c.args.sep) c.count_places.ensures.0) (puts_then c.put_digits.ensures c.put_byte.ensures);
  upper_bound = omega (arith, c.put_digits.ensures.put.next, c.put_byte.ensures.put.next, c.count_places.ensures.1, length_digits 10 c.count_places.result c.args.n);
}
