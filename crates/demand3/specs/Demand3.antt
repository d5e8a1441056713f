-- Demand 3, whole: one theorem for all kinds, both readings, any byte strings F and G and any list of calls (docs/DEMAND-3.md sets its clauses beside document 01's).
use Rattle.std.specs.Prelude.{List, ℕ, ◌≤◌}
use Rattle.rules.specs.Rule.{Rule, map_rule}
use Rattle.rules.specs.Calls.{Call, asked, by_calls, by_rules, Demand}
use Rattle.common.specs.Bytes.{AreBytes}
use Rattle.chemstation.specs.Next.{rule}
use Rattle.whole.specs.Whole.{Whole, whole_rule, at_open, AllExact}
use Rattle.streams.specs.declared.Mode.{Mode}
use Rattle.modes.specs.Modes.{start_by}

-- 'the value that a stream's rules give, worked from the bytes alone in whole numbers never rounded, 0 at Open'
abbrev pub whole_start : Mode → ℕ → Rule Whole
whole_start mode kind = map_rule at_open (start_by mode kind)

pub record Demand3 (mode : Mode) (kind : ℕ) (cs : List Call) (F G : List ℕ) : Type 0 where
  -- R and Z are what the rules give; R begins S; unless Z is 'more bytes' S is R and Y is Z; and Z is 'more bytes' exactly when R is short and a due field ends past F
  pub calls : Demand rule (start_by mode kind) cs F G
  -- each unscaled intensity of R is the whole number that the bytes add up to
  pub exact : AllExact (by_calls rule (start_by mode kind) cs F).records (by_rules whole_rule (whole_start mode kind) (asked cs) F).records

-- of the reading and the kind nothing is assumed, of F and G that they are bytes, of the calls that they ask for a record
abbrev pub Demand3Holds : Type 0
Demand3Holds = (mode : Mode) (kind : ℕ) (cs : List Call) (F G : List ℕ) → AreBytes F → AreBytes G → 1 ≤ asked cs → Demand3 mode kind cs F G
