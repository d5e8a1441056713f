-- By the stored bytes, or measured.
use Rattle.std.proofs.Common.{arith}
use Rattle.std.proofs.lemmas.Grind.{common_steps}
use Rattle.texts.proofs.Joins.{all_bounded}
use Rattle.texts.proofs.fit.Goals as goal

pub returns-then-is_some : goal.returns-then-is_some
returns-then-is_some c = grind (arith, common_steps, all_bounded c.args.d.now)
