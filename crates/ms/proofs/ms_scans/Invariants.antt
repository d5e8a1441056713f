-- What is read from the start is read from the next scan on, with so many scans left: an empty one changes nothing.
use mathlib.Core.Path.{◌≡◌}
use Prim.Native.Nat.{◌-◌, ◌*◌, ◌≤◌}
use lib.ListN.{length}
use Rattle.rules.specs.Rule.{read_at}
use Rattle.ms.specs.Ms.{ms_scans}
use Rattle.ms.proofs.ms_scans.Given as goal

abbrev pub invariant-loop-passed : goal.invariant-loop-passed
invariant-loop-passed l =
    (l.passed * 28 ≤ length l.s) × (read_at l.last (ms_scans (l.due.0 - l.passed)) (l.passed * 28) l.s ≡ read_at l.last (ms_scans l.due.0) 0 l.s)
