-- The theorems on any rules, together.
use Rattle.rules.specs.AnyRules.{AnyRules}
use Rattle.rules.proofs.Laws.{read_map}
use Rattle.rules.proofs.Last.{told_last, same_to_end}
use Rattle.rules.proofs.Demand.{demand}

pub any_rules : (S R : Type 0) → AnyRules S R
any_rules S R = record { demand = λ rule start. demand rule start; told_last = told_last; same_to_end = λ rule. same_to_end rule; mapped = λ f r last bs. read_map last f r bs }
