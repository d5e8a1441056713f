-- By what the read answers.
use Rattle.std.proofs.Common.{◌<◌, subst, sym, refl, arith, rules}
use Rattle.runs.specs.Whole.{weight}
use Rattle.runs.proofs.Falls.{took_falls}
use Rattle.logger.proofs.Runs.{took_part}
use Rattle.logger.proofs.read_more.Goals as goal

pub returns-in-Ok-clause-falls : goal.returns-in-Ok-clause-falls
returns-in-Ok-clause-falls g c = λ p old text f. subst (λ x. weight x < weight p) (sym c.took.ensures) (took_falls p c.args.q old text c.args.n _ _ f)

pub returns-in-Ok-clause-took : goal.returns-in-Ok-clause-took
returns-in-Ok-clause-took g c =
    took_part c.args.q c.took.result c.args.n c.in-Ok.k c.args.buf.now c.read.new.buf _ _ c.requires (omega (arith, c.read.auto.buf)) c.in-Ok.ensures.bound.0 refl (search rules) c.took.ensures _ _ c.in-Ok.ensures.bytes.0 c.in-Ok.ensures.bytes.1
