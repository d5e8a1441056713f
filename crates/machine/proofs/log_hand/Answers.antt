-- The records at hand, and then by the answer.
use Rattle.std.proofs.Common.{refl, rules, arith}
use Rattle.places.specs.Machine.{logs_records}
use Rattle.places.proofs.Steps.{closing_as, step_out, too_many, logged_on, line_behind, taken_inside}
use Rattle.machine.proofs.log_hand.Goals as goal

pub overflow_add-left : goal.overflow_add-left
overflow_add-left c = omega (arith, taken_inside c.args.p c.args.buf.now _ _ _ _ _ _ c.log_records-w.ensures c.requires.0 c.requires.1)

pub returns-then-w-p : goal.returns-then-w-p
unfolding logs_records
returns-then-w-p c = too_many c.args.p c.args.st c.args.buf.now _ _ refl _ _ c.log_records-w.ensures (search rules) (omega (arith, c.if-w-p.true)) (c.write.ensures _ _)

pub go_on-requires : goal.go_on-requires
go_on-requires c = (
  taken_inside c.args.p c.args.buf.now _ _ _ _ _ _ c.log_records-w.ensures c.requires.0 c.requires.1,
  c.requires.1,
  line_behind c.args.p c.args.buf.now _ _ _ _ _ _ c.log_records-w.ensures c.requires.2 _ c.in-Err.is,
)

pub returns-in-Ok : goal.returns-in-Ok
unfolding logs_records
returns-in-Ok c =
    step_out (search rules)
    (logged_on c.args.p c.args.st c.args.buf.now _ _ refl _ _ c.log_records-w.ensures (omega (arith, c.if-w-p.false))
    (closing_as _ c.log_records-w.result.state _ _ _ _ c.in-Ok.is (c.write-in-Ok.ensures _ _)))

pub returns-in-Err : goal.returns-in-Err
unfolding logs_records
returns-in-Err c =
    step_out (search rules)
    (logged_on c.args.p c.args.st c.args.buf.now _ _ refl _ _ c.log_records-w.ensures (omega (arith, c.if-w-p.false))
    (closing_as _ c.log_records-w.result.state c.args.buf.now c.log_records-w.new.pen.out.now _ _ c.in-Err.is c.go_on.ensures))
