-- The theorems, each proved in a file of its own.
use Rattle.utf8.proofs.Decodes.{exactly as decodes_exactly, inverts as encodes_back}
use Rattle.utf8.proofs.utf8_laws.Goals as goal

pub returns : goal.returns
returns c = record { exactly = decodes_exactly; inverts = encodes_back }
