-- Each turn finds one text more.
use Rattle.layouts.specs.Editions.{edition_number}
use Rattle.metadata.proofs.Gathers.{Gathered}
use Rattle.metadata.proofs.WholeHeader.describe.Given as goal

abbrev pub invariant-loop-k : goal.invariant-loop-k
invariant-loop-k l = Gathered (edition_number l.self.edition) l.self.bytes.now l.k l.text_starts l.text_lengths
