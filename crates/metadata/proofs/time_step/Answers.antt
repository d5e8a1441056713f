-- 60.0, by its bit pattern, is the double of 60.
use lib.Ieee.{of_int, of_bits}
use Rattle.metadata.proofs.time_step.Goals as goal

pub returns : goal.returns
unfolding of_int of_bits
returns c = rw (c.from-second.ensures, c.be_at-2.ensures, c.from-first.ensures, c.be_at.ensures)
