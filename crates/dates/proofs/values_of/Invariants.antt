-- The items are walked one after the other.
use Rattle.dates.proofs.Walk.{Walked}
use Rattle.dates.specs.Dates.{items_of}
use Rattle.dates.proofs.values_of.Given as goal

abbrev pub invariant-loop-item : goal.invariant-loop-item
invariant-loop-item l = Walked (items_of l.fn.form) l.t l.values.items l.rest l.item-index
