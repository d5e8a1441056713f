-- Told that the bytes are the last, or that they are not: this reader's answers differ only where a due field ends past them.
use Rattle.std.specs.Prelude.{true, false, List, ℕ}
use Rattle.rules.specs.Rule.{ToldLast}
use Rattle.rules.specs.Calls.{read_up_to, SameToEnd}
use Rattle.chemstation.specs.Next.{rule}
use Rattle.modes.specs.Modes.{start_by}
use Rattle.streams.specs.declared.State.{State}
use Rattle.streams.specs.declared.Mode.{Mode}

pub record LastDiffers : Type 0 where
  -- Open, by either reading, and Next record: the answer is the same, or 14 or 'finished' for 'more bytes'
  pub opening : (mode : Mode) (kind : ℕ) (s : List ℕ) → ToldLast (start_by mode kind) s
  pub next : (st : State) (s : List ℕ) → ToldLast (rule st) s
  -- Fill columns: the same records, bytes and state, and a closing answer that differs as that of Next record
  pub fill : (n : ℕ) (st : State) (s : List ℕ) → SameToEnd (read_up_to rule false n st s) (read_up_to rule true n st s)
