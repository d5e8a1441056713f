-- By what closed the record loop.
use Rattle.std.proofs.Common.{arith}
use Rattle.std.proofs.lemmas.Grind.{common_steps}
use Rattle.places.proofs.Steps.{finished_so}
use Rattle.places.proofs.finished.Goals as goal

pub returns-in-Err-Finished : goal.returns-in-Err-Finished
returns-in-Err-Finished c = finished_so _ _ _ _ (grind (arith, common_steps)) c.log_records-w.ensures.closing

pub returns-in_default : goal.returns-in_default
returns-in_default c = finished_so _ _ _ _ (grind (arith, common_steps)) c.log_records-w.ensures.closing

pub returns-in_default-2 : goal.returns-in_default-2
returns-in_default-2 c = finished_so _ _ _ _ (grind (arith, common_steps)) c.log_records-w.ensures.closing
