-- Fill columns (document 01, and the two columns of a stored time): the lent columns, and what they hold afterwards.
use Rattle.std.specs.Prelude.{◌≡◌, Bool, cond, ◌&&◌, List, ◌++◌, map, ℕ, ◌≤◌, eqb, length, drop, slice_set, Float, Result, Ok, Err}
use Rattle.std.specs.Float.{binary64}
use Rattle.std.specs.Float.Ieee.{of_bits}
use Rattle.std.specs.Borrow.{MutBor}
use denote.Triple.Both.{Both}
use Rattle.rules.specs.Rule.{refused}
use Rattle.rules.specs.Calls.{Answer, full, stopped, Reading, nothing, read_up_to}
use Rattle.error.specs.Number.{stop_of}
use Rattle.chemstation.specs.Next.{rule}
use Rattle.streams.specs.declared.State.{State}
use Rattle.streams.specs.declared.Record.{Record}
use Rattle.streams.specs.declared.Record.TheVariants.{Trace, Mass, Spectrum}
use Rattle.error.specs.declared.Stopped.{Stopped}
use Rattle.reader.specs.declared.Row.{Row}
use Rattle.reader.specs.declared.Columns.{Columns}
use Rattle.reader.specs.declared.Filled.{Filled}

-- 'Kinds without an axis store 0.0'; 'kinds without a stored time write 0 in both'
abbrev pub row_of : Record → Row
row_of (Trace t u s) = record { time = t; axis = of_bits binary64 0; unscaled = u; scaled = s; minutes = 0; leftover = 0 }
row_of (Mass t m u s min left) = record { time = t; axis = m; unscaled = u; scaled = s; minutes = min; leftover = left }
row_of (Spectrum t w u s min left) = record { time = t; axis = w; unscaled = u; scaled = s; minutes = min; leftover = left }

-- what is held by 'four lent columns of doubles (time, axis, unscaled, scaled)', and 'two more u32 columns'
pub record Held : Type 0 where
  pub time : List Float
  pub axis : List Float
  pub unscaled : List Float
  pub scaled : List Float
  pub minutes : List ℕ
  pub leftover : List ℕ

abbrev pub columns : List Float → List Float → List Float → List Float → List ℕ → List ℕ → Held
columns t a u s m l = record { time = t; axis = a; unscaled = u; scaled = s; minutes = m; leftover = l }

-- a contract sees lent memory twice: as it was lent (`.entry`) and as it is given back (`.exit`)
abbrev pub Lent : Type 0 → Type 0
Lent A = Both (MutBor A) (MutBor A)

-- the six columns before and after, as one
abbrev pub lent_columns : Lent (List Float) → Lent (List Float) → Lent (List Float) → Lent (List Float) → Lent (List ℕ) → Lent (List ℕ) → Both Held Held
lent_columns t a u s m l = record {
  entry = columns t.entry.now a.entry.now u.entry.now s.entry.now m.entry.now l.entry.now;
  exit = columns t.exit.now a.exit.now u.exit.now s.exit.now m.exit.now l.exit.now;
}

-- what lent columns hold
abbrev pub held : Columns → Held
held c = columns c.time.now c.axis.now c.unscaled.now c.scaled.now c.minutes.now c.leftover.now

-- and before and after a call that they are lent to
abbrev pub lent : Lent Columns → Both Held Held
lent c = record { entry = held c.entry.now; exit = held c.exit.now }

-- a struct of lent columns holds the same slices as before, whatever stands in them
pub record AreTheSame (old new : Columns) : Type 0 where
  pub time : new.time.ghost_name ≡ old.time.ghost_name
  pub axis : new.axis.ghost_name ≡ old.axis.ghost_name
  pub unscaled : new.unscaled.ghost_name ≡ old.unscaled.ghost_name
  pub scaled : new.scaled.ghost_name ≡ old.scaled.ghost_name
  pub minutes : new.minutes.ghost_name ≡ old.minutes.ghost_name
  pub leftover : new.leftover.ghost_name ≡ old.leftover.ghost_name

abbrev pub all_equal : ℕ → ℕ → ℕ → ℕ → ℕ → ℕ → Bool
all_equal t a u s m l = eqb a t && (eqb u t && (eqb s t && (eqb m t && eqb l t)))

abbrev pub equal_lengths : Held → Bool
equal_lengths c = all_equal (length c.time) (length c.axis) (length c.unscaled) (length c.scaled) (length c.minutes) (length c.leftover)

-- columns of one length, n
pub record Even (n : ℕ) (c : Held) : Type 0 where
  pub time : length c.time ≡ n
  pub axis : length c.axis ≡ n
  pub unscaled : length c.unscaled ≡ n
  pub scaled : length c.scaled ≡ n
  pub minutes : length c.minutes ≡ n
  pub leftover : length c.leftover ≡ n

-- columns of one length, with room for n rows
abbrev pub Room : ℕ → Held → Type 0
Room n c = Even (length c.time) c × (n ≤ length c.time)

-- a row put at a place of all six
abbrev pub put_row : Held → ℕ → Row → Held
put_row c i r =
    columns (slice_set c.time i r.time) (slice_set c.axis i r.axis) (slice_set c.unscaled i r.unscaled) (slice_set c.scaled i r.scaled)
    (slice_set c.minutes i r.minutes) (slice_set c.leftover i r.leftover)

-- a column of any element type: a place for each record, and 'places from the count on keep what they held'
abbrev pub filled_with : {A : Type 0} → (Row → A) → List Record → List A → List A
filled_with f rs old = map (λ r. f (row_of r)) rs ++ drop (length rs) old

abbrev pub columns_with : List Record → Held → Held
columns_with rs old = record {
  time = filled_with (λ r. r.time) rs old.time;
  axis = filled_with (λ r. r.axis) rs old.axis;
  unscaled = filled_with (λ r. r.unscaled) rs old.unscaled;
  scaled = filled_with (λ r. r.scaled) rs old.scaled;
  minutes = filled_with (λ r. r.minutes) rs old.minutes;
  leftover = filled_with (λ r. r.leftover) rs old.leftover;
}

-- '15: lengths differ'; otherwise records until the columns are full
abbrev pub fill_of : State → List ℕ → Bool → Held → Reading State Record
fill_of st s last old = cond (equal_lengths old) (read_up_to rule last (length old.time) st s) (nothing st (stopped (refused 15)))

-- Ok: the columns are full
abbrev pub closing_of : Result (Unit {0}) Stopped → Answer
closing_of (Ok u) = full
closing_of (Err z) = stopped (stop_of z)

-- the answer r and the columns before and after, by what is read
pub record FilledBy (g : Reading State Record) (r : Filled) (old new : Held) : Type 0 where
  pub count : r.count ≡ length g.records
  pub consumed : r.consumed ≡ g.consumed
  pub state : r.state ≡ g.state
  pub closing : closing_of r.closing ≡ g.closing
  pub columns : new ≡ columns_with g.records old

-- Fill columns: the answer r and the lent columns c, from a state and the bytes
abbrev pub Fills : State → List ℕ → Bool → Filled → Both Held Held → Type 0
Fills st s last r c = FilledBy (fill_of st s last c.entry) r c.entry c.exit
