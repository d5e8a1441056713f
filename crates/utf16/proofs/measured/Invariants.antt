-- What has been passed has had room.
use Prim.Native.Nat.{◌-◌, ◌≤◌}
use Rattle.utf16.proofs.Units.{Passing}
use Rattle.utf16.proofs.measured.Given as goal

abbrev pub invariant-loop-p : goal.invariant-loop-p
invariant-loop-p l = Passing l.s l.p-iterator.0.now (l.room - l.left) × (l.left ≤ l.room)
