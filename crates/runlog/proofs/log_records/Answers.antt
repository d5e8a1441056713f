-- The loop keeps what is read and put so far, and a tally that stands for its total; it ends where the room is used up or the rule stops.
use mathlib.Core.Path.{refl, sym, ◌∙◌, subst}
use native.Mathlib.Omega.{arith}
use lib.Ieee.{Float}
use Rattle.std.proofs.Common.{rules}
use Rattle.chemstation.proofs.Answers.{answered}
use Rattle.streams.specs.Next.{unscaled_of}
use Rattle.sums.specs.Sums.{plus}
use Rattle.tally.specs.Tally.{added_to}
use Rattle.tally.proofs.Laws.{StandsFor, starts, adds, totals}
use Rattle.tally.specs.declared.Tally.{Tally}
use Rattle.runlog.proofs.Logs.{logged_as, logged_lent, summed, line_some, no_room, logged_stops, logging_start, logging_more, logging_end}
use Rattle.runlog.proofs.log_records.Goals as goal

pub loop-own-init : goal.loop-own-init
loop-own-init c =
    (c.start-sum.result.far, logging_start _ _ _ _ _ c.requires, subst (λ (s : Tally). StandsFor s s.far) (sym c.start-sum.ensures) (starts _))

-- the total before the loop is the one that was given
pub returns-in-Err : goal.returns-in-Err
returns-in-Err c =
    let q = answered c.loop-own.cur c.args.last c.args.src.now c.loop-own.f _ _ c.next_record.ensures c.in-Err.is in
    logged_as c.start-sum.ensures (logged_lent refl refl (search rules) refl refl (logging_end _ _ _ _ _ _ _ _ _ _ _ (summed _ _ _ _ _ (c.total.ensures ∙ totals _ _ c.loop-own.invariant.2) c.loop-own.invariant.1) (logged_stops _ _ _ _ (omega arith) q)))

pub loop-own-preserved : goal.loop-own-preserved
loop-own-preserved c =
    let r = c.in-Ok.given.«record» in
    let t = c.loop-own.invariant.0 in
    let q = answered c.loop-own.cur c.args.last c.args.src.now c.loop-own.f _ _ c.next_record.ensures c.in-Ok.is in (
      plus t (unscaled_of r),
      logging_more _ _ _ _ _ _ _ _ _ _ _ _ _ _ c.loop-own.invariant.1 (omega arith) q c.put_record.ensures.put,
      subst (λ (s : Tally). StandsFor s (plus t (unscaled_of r))) (sym c.add-sum.ensures)
          (subst (λ (v : Float). StandsFor (added_to c.loop-own.sum v) (plus t (unscaled_of r))) (sym c.unscaled.ensures) (adds c.loop-own.sum t (unscaled_of r) c.loop-own.invariant.2)),
    )

pub overflow_add-f : goal.overflow_add-f
overflow_add-f c = omega (arith, (loop-own-preserved c).1.inside)

pub loop-own-smaller : goal.loop-own-smaller
loop-own-smaller c =
    omega (arith, c.put_record.ensures.put.put.next, c.put_record.ensures.put.put.same, c.put_record.ensures.put.put.fits, line_some c.in-Ok.given.«record»)

pub returns : goal.returns
returns c =
    logged_as c.start-sum.ensures (logged_lent refl refl (search rules) refl refl (logging_end _ _ _ _ _ _ _ _ _ _ _ (summed _ _ _ _ _ (c.total-2.ensures ∙ totals _ _ c.loop-own.invariant.2) c.loop-own.invariant.1) (no_room _ _ _ _ _ (omega arith))))
