-- Where the total has room the double is the middle, and a NaN elsewhere.
use Rattle.std.proofs.Common.{rules, arith}
use lib.Ieee.{of_bits, of_int}
use Rattle.std.proofs.lemmas.Grind.{common_steps}
use Rattle.tally.proofs.beside.Goals as goal

pub returns-in-Some-Ok : goal.returns-in-Some-Ok
unfolding of_bits of_int
returns-in-Some-Ok c = grind (arith, common_steps)

pub returns-in_default : goal.returns-in_default
unfolding of_bits of_int
returns-in_default c = grind (arith, common_steps)

pub returns-in_default-2 : goal.returns-in_default-2
unfolding of_bits of_int
returns-in_default-2 c = search rules

pub returns-in_default-3 : goal.returns-in_default-3
unfolding of_bits of_int
returns-in_default-3 c = search rules
