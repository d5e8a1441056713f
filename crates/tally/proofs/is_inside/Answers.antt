-- The two bit patterns are the numbers 2 ^ 52 and 2 ^ 53.
use lib.Ieee.{of_bits, of_int}
use Rattle.tally.proofs.is_inside.Goals as goal

pub returns-then-near : goal.returns-then-near
unfolding of_bits of_int
returns-then-near c = simp c.if-near.true

pub returns-else-near : goal.returns-else-near
unfolding of_bits of_int
returns-else-near c = simp c.if-near.false
