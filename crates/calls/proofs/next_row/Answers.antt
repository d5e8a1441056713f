-- The record is row i.
use mathlib.Core.Path.{sym, ap, ◌∙◌}
use Rattle.streams.specs.Next.{answer_of}
use Rattle.reader.specs.Columns.{held}
use Rattle.calls.proofs.RowLaws.{given_row}
use Rattle.calls.proofs.next_row.Goals as goal

pub returns-in-Ok-clause-gives : goal.returns-in-Ok-clause-gives
returns-in-Ok-clause-gives c =
    let q = sym c.next_record.ensures ∙ ap answer_of c.in-Ok.is in
    rw (c.put.ensures.held, c.into.ensures) (given_row c.args.st c.args.s.now c.args.i (held c.args.columns.now) c.requires _ _ _ q)
