-- What Open answered, by the header that its rule reads: the state and the description are made of one reading.
use mathlib.Core.Path.{◌≡◌, ◌∙◌}
use mathlib.Core.Bool.{Bool}
use mathlib.Core.List.{List}
use Prim.Native.Nat.{ℕ}
use Rattle.rules.specs.Rule.{read, map_read}
use Rattle.rules.proofs.Laws.{read_map}
use Rattle.metadata.specs.Metadata.{open_rule}
use Rattle.opening.specs.Opening.{begins, start_read, says_read, OpensRun}
use Rattle.opening.specs.declared.OpenedRun.{OpenedRun}
use Rattle.std.specs.Prelude.{Result}
use Rattle.error.specs.declared.Stopped.{Stopped}

module _ {kind : ℕ} {last : Bool} {s : List ℕ} {r : Result OpenedRun Stopped} (o : OpensRun kind last s r) where
  pub state_by_lem : start_read r ≡ map_read (begins kind) (read last (open_rule kind) s)
  state_by_lem = o.state ∙ read_map last (begins kind) (open_rule kind) s

  pub says_by_lem : says_read r ≡ map_read (λ h. h.says) (read last (open_rule kind) s)
  says_by_lem = o.says ∙ read_map last (λ h. h.says) (open_rule kind) s
