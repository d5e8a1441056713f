-- The theorem.
use Rattle.runlog.proofs.Cuts.{one_log}
use Rattle.runlog.proofs.one_log.Goals as goal

pub returns : goal.returns
returns c = one_log
