-- The place fits and has room for a line; then by its phase.
use Rattle.std.proofs.Common.{refl, sym, lt-ltb}
use Rattle.places.specs.Machine.{step_of}
use Rattle.places.proofs.Steps.{then_step, else_step, phase_as, at_place, after_phase, step_as}
use Rattle.machine.proofs.step.Goals as goal

pub returns-then-not-in_bounds : goal.returns-then-not-in_bounds
unfolding step_of
returns-then-not-in_bounds c = else_step _ (sym c.if-not-in_bounds.ensures) record { answer = refl; buffer = refl; text = refl }

pub returns-then-out-p-lt70 : goal.returns-then-out-p-lt70
unfolding step_of
returns-then-out-p-lt70 c = then_step _ (sym c.if-not-in_bounds.ensures) (then_step _ (lt-ltb _ _ c.if-out-p-lt70.true) (c.write.ensures _ _))

pub returns-in-Digit : goal.returns-in-Digit
returns-in-Digit c =
    at_place c.args.p c.args.buf.now c.args.out.now (sym c.if-not-in_bounds.ensures) c.if-out-p-lt70.false (phase_as c.args.p _ c.args.buf.now c.args.out.now c.in-Digit.is (c.first.ensures _))

pub returns-in-Header : goal.returns-in-Header
returns-in-Header c =
    at_place c.args.p c.args.buf.now c.args.out.now (sym c.if-not-in_bounds.ensures) c.if-out-p-lt70.false (phase_as c.args.p _ c.args.buf.now c.args.out.now c.in-Header.is c.«open».ensures)

pub returns-in-Records : goal.returns-in-Records
returns-in-Records c =
    at_place c.args.p c.args.buf.now c.args.out.now (sym c.if-not-in_bounds.ensures) c.if-out-p-lt70.false (phase_as c.args.p _ c.args.buf.now c.args.out.now c.in-Records.is c.log_hand.ensures)

pub returns-in-Ended : goal.returns-in-Ended
returns-in-Ended c =
    at_place c.args.p c.args.buf.now c.args.out.now (sym c.if-not-in_bounds.ensures) c.if-out-p-lt70.false (step_as (sym (after_phase c.args.p c.args.buf.now c.args.out.now c.in-Ended.is)) (c.after.ensures _))
