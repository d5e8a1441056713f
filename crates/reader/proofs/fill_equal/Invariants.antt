-- The loop keeps that so many records are read and stand in the columns; it ends where the columns are full or the rule stops.
use lib.ListN.{length}
use Rattle.reader.specs.Columns.{held, Even, AreTheSame}
use Rattle.reader.proofs.ColumnLaws.{Going}
use Rattle.reader.proofs.fill_equal.Given as goal

abbrev pub invariant-loop-i : goal.invariant-loop-i
invariant-loop-i l =
    let old = held l.initial.columns in
    let n = length old.time in record {
      same : AreTheSame l.initial.columns l.columns;
      even : Even n old;
      going : Going n l.initial.cur l.s l.last old (held l.columns) l.cur l.at l.i;
    }
