-- Each call answers as its function does.
use mathlib.Core.Path.{◌≡◌, ap, ◌∙◌}
use Prim.Native.Nat.{◌+◌, ◌-◌}
use native.Mathlib.Omega.{arith}
use Rattle.rules.specs.Calls.{fill}
use Rattle.reader.specs.Columns.{held}
use Rattle.calls.specs.MakeCalls.{call_of}
use Rattle.calls.proofs.RowLaws.{unequal_at, filled_part}
use Rattle.calls.proofs.one_call.Goals as goal

pub returns-in-FillUnequal-clause-gives : goal.returns-in-FillUnequal-clause-gives
returns-in-FillUnequal-clause-gives c =
    rw c.in-FillUnequal.is (unequal_at c.args.st c.args.s.now c.args.i _ (held c.args.columns.now) (c.fill_unequal.ensures _))

pub returns-in-Fill-clause-gives : goal.returns-in-Fill-clause-gives
returns-in-Fill-clause-gives c =
    let k = c.args.i + c.in-Fill.n - c.args.i in
    let same : call_of c.args.call ≡ fill k = ap call_of c.in-Fill.is ∙ ap fill (omega arith) in
    rw same (filled_part k c.args.st c.args.s.now c.args.i _ (held c.args.columns.now) _ (rw same at c.requires) c.fill_slices.ensures)
