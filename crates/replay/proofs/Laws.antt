-- What is opened lies within the bytes that were lent.
use mathlib.Core.Path.{◌≡◌, sym, ap, ◌∙◌}
use mathlib.Core.Bool.{Bool}
use mathlib.Core.List.{List}
use Prim.Native.Nat.{ℕ, ◌≤◌}
use lib.ListN.{length}
use Rattle.rules.proofs.Laws.{taken_within}
use Rattle.opening.specs.Opening.{start_rule, start_read, OpensRun}
use Rattle.std.specs.Prelude.{Result, Ok}
use Rattle.error.specs.declared.Stopped.{Stopped}
use Rattle.opening.specs.declared.OpenedRun.{OpenedRun}

pub opened_inside : (kind : ℕ) (last : Bool) (s : List ℕ) (r : Result OpenedRun Stopped) (run : OpenedRun) → OpensRun kind last s r → r ≡ Ok run → run.size ≤ length s
opened_inside kind last s r run o e = taken_within last (start_rule kind) s (sym o.state ∙ ap start_read e)
