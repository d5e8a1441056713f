-- From the rule of a state's fields to the rule of its next record: what is read of the one is read of the other.
use mathlib.Core.Path.{◌≡◌, ap, ◌∙◌}
use mathlib.Core.Bool.{Bool}
use mathlib.Core.List.{List}
use Prim.Native.Nat.{ℕ}
use Rattle.rules.specs.Rule.{Rule, Read, read, map_read}
use Rattle.rules.specs.Calls.{Item}
use Rattle.rules.proofs.Laws.{read_map}
use Rattle.streams.specs.Told.{Told}
use Rattle.streams.specs.Next.{sum_of, stepped, rule_by}
use Rattle.streams.specs.declared.State.{State}
use Rattle.streams.specs.declared.Record.{Record}

-- what is answered where the fields tell x
abbrev pub answer : State → Read Told → Read (Item State Record)
answer st x = map_read (stepped (sum_of st)) x

module _ (st : State) (fields : Rule Told) (last : Bool) (s : List ℕ) where
  abbrev pub Answers : Read Told → Type 0
  Answers x = read last (rule_by st fields) s ≡ answer st x

  pub rule_reads : {x : Read Told} → read last fields s ≡ x → Answers x
  rule_reads e = read_map last (stepped (sum_of st)) fields s ∙ ap (answer st) e
