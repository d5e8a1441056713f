-- The second pass, with room for all of it.
use mathlib.Core.Path.{sym, ap, subst}
use native.Mathlib.Omega.{arith}
use Rattle.utf16.proofs.Units.{Putting, Counting, put_starts, put_on, put_done, count_starts, count_on, count_fits, count_done}
use Rattle.utf16.proofs.recode.Goals as goal

pub loop-p-init : goal.loop-p-init
loop-p-init c =
    let s = c.args.s.now in
    subst (λ r. Putting s c.args.out.now r c.args.out.now 0 × Counting s r 0) (sym (ap (λ p. p.0.now) c.into_iter-p-iterator.ensures.into_iter_gives)) (put_starts s c.args.out.now, count_starts s)

pub overflow_add-replaced : goal.overflow_add-replaced
overflow_add-replaced c =
    record { fits = omega (arith, count_fits c.args.s.now _ c.loop-p.replaced c.loop-p.invariant.1 c.in-Some.p c.in-Some.ensures.steps.0, c.well_formed) }

pub loop-p-preserved : goal.loop-p-preserved
loop-p-preserved c =
    let step = c.in-Some.ensures.steps in
    (put_on c.loop-p.invariant.0 c.requires step.0 c.put_scalar-bytes.result c.put_scalar-bytes.new.out _ step.1 c.put_scalar-bytes.ensures.0 c.put_scalar-bytes.ensures.1, count_on c.args.s.now _ c.loop-p.replaced c.loop-p.invariant.1 c.in-Some.p step.0 _ step.1)

pub returns : goal.returns
returns c = record { bytes = put_done c.loop-p.invariant.0 c.requires c.in-None.ensures.steps; replaced = count_done _ _ _ c.loop-p.invariant.1 c.in-None.ensures.steps }
