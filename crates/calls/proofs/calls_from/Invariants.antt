-- The loop keeps what is gathered so far, and what the calls that are left give behind it.
use Rattle.reader.specs.Columns.{held, AreTheSame, closing_of}
use Rattle.calls.proofs.CallLoop.{Going}
use Rattle.calls.proofs.calls_from.Given as goal

abbrev pub invariant-loop-call : goal.invariant-loop-call
invariant-loop-call l = record {
  same : AreTheSame l.initial.columns l.columns;
  going : Going l.calls l.initial.cur l.s (held l.initial.columns) (held l.columns) l.cur l.at l.rows (closing_of l.closing) l.call-index;
}
