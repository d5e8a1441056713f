-- The theorem.
use Rattle.places.specs.Machine.{started}
use Rattle.runs.proofs.Falls.{falls}
use Rattle.runs.proofs.Ends.{runs_end}
use Rattle.runs.proofs.Owes.{writes_log}
use Rattle.runs.proofs.There.{runs_there, empty_log}
use Rattle.runs.proofs.whole_runs.Goals as goal

pub returns : goal.returns
returns c = record { log = writes_log; empty = empty_log; there = λ mode buf out input. runs_there runs_end (started mode) buf out input; falls = falls; ends = runs_end }
