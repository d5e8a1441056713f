-- Two digits a byte.
use Rattle.std.proofs.Common.{◌≡◌, ◌+◌, ◌*◌}
use Rattle.replay.specs.Pens.{Stays}
use Rattle.replay.proofs.put_hex.Given as goal

abbrev pub invariant-loop-b : goal.invariant-loop-b
invariant-loop-b l = (l.own.at ≡ l.initial.own.at + 2 * l.b-index) × Stays l.initial.own l.own
