-- The two bit patterns are the numbers 2 ^ 53 and 1, and the two tests put the quotient in range.
use lib.Ieee.{of_bits, of_int}
use Rattle.std.proofs.Common.{arith}
use Rattle.floats.proofs.Quotient.{in_range}
use Rattle.floats.proofs.scan_count.Goals as goal

pub returns-then-quotient : goal.returns-then-quotient
unfolding of_bits of_int
returns-then-quotient c = simp c.if-quotient.true

pub truncating_f64_to_u64-whole-requires : goal.truncating_f64_to_u64-whole-requires
unfolding of_bits of_int
truncating_f64_to_u64-whole-requires c =
    let r = in_range c.args.quotient c.if-quotient-2.true c.if-quotient.false in record { lower_bound = r.least; upper_bound = r.most }

pub overflow_add-result : goal.overflow_add-result
unfolding of_bits of_int
overflow_add-result c =
    let r = in_range c.args.quotient c.if-quotient-2.true c.if-quotient.false in omega (arith, c.truncating_f64_to_u64-whole.ensures)

pub returns-then-quotient-2 : goal.returns-then-quotient-2
unfolding of_bits of_int
returns-then-quotient-2 c = simp (c.if-quotient.false, c.if-quotient-2.true, c.truncating_f64_to_u64-whole.ensures)

pub returns : goal.returns
unfolding of_bits of_int
returns c = simp (c.if-quotient.false, c.if-quotient-2.false)
