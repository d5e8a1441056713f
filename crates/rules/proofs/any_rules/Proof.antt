-- The theorems hold of any states and records, so of these.
use Prim.Native.Nat.{ℕ}
use mathlib.Core.List.{List}
use Rattle.rules.proofs.AnyRules.{any_rules}
use Rattle.rules.proofs.any_rules.Statement.{statement}
use Rattle.rules.proofs.any_rules.Tie as tie

returns : tie.Need-returns
returns c = any_rules (List ℕ) (List ℕ)

pub any_rules_spec : {M : Type 1} → statement M
any_rules_spec = tie.close (tie.spec returns)
