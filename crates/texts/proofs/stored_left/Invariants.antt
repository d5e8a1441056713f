-- Each turn takes the bytes of one text more from the room.
use Rattle.std.proofs.Common.{◌≡◌, ◌+◌, take}
use Rattle.std.specs.List.{sum}
use Rattle.texts.proofs.stored_left.Given as goal

abbrev pub invariant-loop-n : goal.invariant-loop-n
invariant-loop-n l = l.left + sum (take l.n-index l.lengths) ≡ l.room
