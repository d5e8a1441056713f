-- What holds of reading by any rules, whatever the states and the records are.
use Rattle.std.specs.Prelude.{◌≡◌, Bool, true, false, List, ℕ, ◌≤◌}
use Rattle.rules.specs.Rule.{Rule, read, ToldLast, map_rule, map_read}
use Rattle.rules.specs.Calls.{Item, Call, asked, read_up_to, SameToEnd, Demand}

pub record AnyRules (S R : Type 0) : Type 0 where
  -- demand 3, for every list of calls that asks for a record
  pub demand : (rule : S → Rule (Item S R)) (start : Rule S) (cs : List Call) (F G : List ℕ) → 1 ≤ asked cs → Demand rule start cs F G
  -- told last or not, one reading, and a reading of n records
  pub told_last : (r : Rule R) (bs : List ℕ) → ToldLast r bs
  pub same_to_end : (rule : S → Rule (Item S R)) (n : ℕ) (st : S) (bs : List ℕ) → SameToEnd (read_up_to rule false n st bs) (read_up_to rule true n st bs)
  -- one rule read with two meanings reads the same fields
  pub mapped : (f : S → R) (r : Rule S) (last : Bool) (bs : List ℕ) → read last (map_rule f r) bs ≡ map_read f (read last r bs)
