-- By the fields of a word; what is masked is not above its mask.
use Rattle.digits.proofs.Words.{hex_word}
use Rattle.digits.proofs.hex_word.Goals as goal

pub returns : goal.returns
returns c = hex_word c.args.n c.requires
