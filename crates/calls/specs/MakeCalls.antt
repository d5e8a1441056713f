-- The calls of demand 3, made by the code: which call is made, and what all of them answer.
use Rattle.std.specs.Prelude.{◌≡◌, cond, List, ◌++◌, map, ℕ, ◌≤◌, leb, length, take, drop, Option, Some, None, Result, Ok, Err}
use denote.Triple.Both.{Both}
use Rattle.rules.specs.Calls.{Answer, Reading, Result as Called, full, stopped, Call, next, fill, fill_unequal, asked, call, by_calls}
use Rattle.common.specs.Bytes.{AreBytes}
use Rattle.streams.specs.declared.State.{State}
use Rattle.streams.specs.declared.Record.{Record}
use Rattle.chemstation.specs.Next.{rule}
use Rattle.streams.specs.declared.Mode.{Mode}
use Rattle.modes.specs.Modes.{start_by}
use Rattle.reader.specs.Columns.{Held, equal_lengths, filled_with, columns_with, closing_of}
use Rattle.reader.specs.declared.Filled.{Filled}
use Rattle.demand3.specs.Demand3.{Demand3}
use Rattle.calls.specs.declared.Call.{Call as Made}
use Rattle.calls.specs.declared.Call.TheVariants as made
use Rattle.calls.specs.declared.Rows.{Rows}
use Rattle.calls.specs.declared.NoRoom.{NoRoom}
use Rattle.calls.specs.declared.NoRoom.TheVariants.{Unequal, Short}

abbrev pub call_of : Made → Call
call_of made.Next = next
call_of made.FillUnequal = fill_unequal
call_of (made.Fill n) = fill n

abbrev pub calls_of : List Made → List Call
calls_of l = map call_of l

-- ---- what the calls answer

-- N, the count of rows and Z; or why no call is made
pub data Outcome : Type 0 where
  rows : ℕ → ℕ → Answer → Outcome
  unequal : Outcome  -- the lengths of the lent columns differ
  short : Outcome  -- they are below N

abbrev pub outcome_of : Result Rows NoRoom → Outcome
outcome_of (Ok r) = rows r.asked r.count (closing_of r.closing)
outcome_of (Err Unequal) = unequal
outcome_of (Err Short) = short

-- one of three, by the lent columns: their lengths differ, they are shorter than N, or they have room for N rows
abbrev pub by_room : {A : Type 0} → List Call → Held → A → A → A → A
by_room cs old differ below fit = cond (equal_lengths old) (cond (leb (asked cs) (length old.time)) fit below) differ

-- the answer r and the lent columns c, by the calls cs on F, all told that their bytes are not the last
pub record Makes (mode : Mode) (kind : ℕ) (cs : List Call) (F : List ℕ) (r : Result Rows NoRoom) (c : Both Held Held) : Type 0 where
  -- N, the count of R's records, and Z
  pub answer :
      let x = by_calls rule (start_by mode kind) cs F in
      outcome_of r ≡ by_room cs c.entry unequal short (rows (asked cs) (length x.records) x.closing)
  -- the rows of R's records, in the order given; every place behind them keeps what it held
  pub columns :
      let x = by_calls rule (start_by mode kind) cs F in
      c.exit ≡ by_room cs c.entry c.entry c.entry (columns_with x.records c.entry)
  -- of this R and Z demand 3 holds, whatever bytes come behind F
  pub demand : (G : List ℕ) → AreBytes G → 1 ≤ asked cs → Demand3 mode kind cs F G

-- ---- what the other functions of the crate promise

-- N, if there is room for so many rows
abbrev pub asked_in : ℕ → ℕ → Option ℕ
asked_in room n = cond (leb n room) (Some n) None

-- Z so far: the answer of the first call that gave fewer than it asked for, and full where none did
abbrev pub or_else : Answer → Answer → Answer
or_else full later = later
or_else (stopped z) later = stopped z

-- the rows of records from row i on, and those before as they were
abbrev pub columns_from : ℕ → List Record → Held → Held
columns_from i rs old = record {
  time = take i old.time ++ filled_with (λ r. r.time) rs (drop i old.time);
  axis = take i old.axis ++ filled_with (λ r. r.axis) rs (drop i old.axis);
  unscaled = take i old.unscaled ++ filled_with (λ r. r.unscaled) rs (drop i old.unscaled);
  scaled = take i old.scaled ++ filled_with (λ r. r.scaled) rs (drop i old.scaled);
  minutes = take i old.minutes ++ filled_with (λ r. r.minutes) rs (drop i old.minutes);
  leftover = take i old.leftover ++ filled_with (λ r. r.leftover) rs (drop i old.leftover);
}

-- the answer r and the columns before and after, by what is read: as Fill columns, from row i on
pub record FilledFrom (i : ℕ) (x : Reading State Record) (r : Filled) (c : Both Held Held) : Type 0 where
  pub count : r.count ≡ length x.records
  pub consumed : r.consumed ≡ x.consumed
  pub state : r.state ≡ x.state
  pub closing : closing_of r.closing ≡ x.closing
  pub columns : c.exit ≡ columns_from i x.records c.entry

-- a call's answer r, and its rows in the columns c from row i on
abbrev pub Gives : Call → State → List ℕ → ℕ → Filled → Both Held Held → Type 0
Gives a st bs i r c = FilledFrom i (call rule a st bs) r c

-- N, R and Z: the answer r, and R's rows in the columns c
pub record ComesTo (x : Called Record) (n : ℕ) (r : Rows) (c : Both Held Held) : Type 0 where
  pub answer : outcome_of (Ok r) ≡ rows n (length x.records) x.closing
  pub columns : c.exit ≡ columns_with x.records c.entry
