-- Each turn counts one text more.
use Rattle.std.proofs.Common.{◌≡◌, ◌≤◌, length}
use Rattle.texts.specs.Eight.{texts_in}
use Rattle.texts.proofs.Joins.{before}
use Rattle.texts.proofs.joined_length.Given as goal

abbrev pub invariant-loop-k : goal.invariant-loop-k
invariant-loop-k l = record { count : l.n ≡ length (before (texts_in l.d) l.k); room : l.n ≤ l.room }
