-- By the answer.
use Rattle.places.proofs.Steps.{go_as, go_refused}
use Rattle.machine.proofs.go_on.Goals as goal

pub returns-in-Finished : goal.returns-in-Finished
returns-in-Finished c = go_as c.args.p c.args.st c.args.buf.now c.args.out.now _ _ c.in-Finished.is (c.end.ensures _)

pub returns-in-Refused : goal.returns-in-Refused
returns-in-Refused c = go_refused c.args.p c.args.st c.args.buf.now c.args.out.now _ _ c.in-Refused.is (c.close.ensures _)
