-- The second pass, with room for all of it.
use Rattle.utf16.proofs.Units.{Putting, Counting}
use Rattle.utf16.proofs.recode.Given as goal

abbrev pub invariant-loop-p : goal.invariant-loop-p
invariant-loop-p l = Putting l.s l.initial.out l.p-iterator.0.now l.out l.bytes × Counting l.s l.p-iterator.0.now l.replaced
