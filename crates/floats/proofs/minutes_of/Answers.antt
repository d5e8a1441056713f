-- The bits of 60000.0 are those of the double of 60000.
use Rattle.std.proofs.Common.{refl}
use lib.Ieee.{of_int, of_bits}
use Rattle.floats.proofs.minutes_of.Goals as goal

pub returns : goal.returns
unfolding of_int of_bits
returns c = refl
