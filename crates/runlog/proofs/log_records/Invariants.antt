-- The loop keeps what is read and put so far, and a tally that stands for its total; it ends where the room is used up or the rule stops.
use Rattle.sums.specs.Sums.{AnyTotal}
use Rattle.tally.proofs.Laws.{StandsFor}
use Rattle.runlog.proofs.Logs.{Logging, room_of}
use Rattle.runlog.proofs.log_records.Given as goal

abbrev pub invariant-loop-own : goal.invariant-loop-own
invariant-loop-own l = (t : AnyTotal) × Logging l.last l.initial.cur l.src l.initial.own l.initial.sum.far l.own l.cur l.f l.count t × StandsFor l.sum t

abbrev pub decreases-loop-own : goal.decreases-loop-own
decreases-loop-own l = room_of l.own
