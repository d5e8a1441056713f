-- Each turn puts one text more.
use Rattle.texts.specs.Eight.{texts_in, replaced_in_each}
use Rattle.texts.proofs.Joins.{Laying}
use Rattle.texts.proofs.lay_out.Given as goal

abbrev pub invariant-loop-k : goal.invariant-loop-k
invariant-loop-k l = Laying (texts_in l.d) (replaced_in_each l.d) l.initial.out l.starts l.lengths l.replaced l.out l.n l.k
