-- What the lent memory holds after each call, by the definitions of Open, Fetch a text, Fill columns, totals and run dates.
use Rattle.std.specs.Prelude.{◌≡◌, Bool, List, [], ◌∷◌, ℕ, length, ℤ, Float, Option, Some, None, Ok, Err}
use denote.Triple.Both.{Both}
use Rattle.rules.specs.Rule.{Read, got, stops, map_read}
use Rattle.rules.specs.Calls.{Reading}
use Rattle.metadata.specs.Metadata.{Header}
use Rattle.fetch.specs.Fetch.{Outcome, wrote, refuse, fetched, held_after}
use Rattle.texts.specs.Eight.{joined, Texts, texts_after}
use Rattle.metadata.specs.declared.ChemstationMetadata.{ChemstationMetadata}
use Rattle.streams.specs.declared.State.{State}
use Rattle.streams.specs.declared.Mode.{Mode}
use Rattle.streams.specs.declared.Mode.TheVariants.{Plain, Atlas}
use Rattle.streams.specs.declared.Record.{Record}
use Rattle.modes.specs.Modes.{begins_by}
use Rattle.reader.specs.Columns.{Held, Lent, columns_with, fill_of}
use Rattle.streams.specs.Next.{stored_of}
use Rattle.states.specs.State.{numbers_of, counts_of, reading_of, state_by}
use Rattle.error.specs.Number.{closing_number}
use Rattle.chemread.specs.Answers.{read_number, outcome_number, total_number, told_number}
use Rattle.volumes.specs.Volume.{Told, instant, no_date, refuse as refuse_date}
use Rattle.sums.specs.Sums.{AnyTotal}
use Rattle.chemread.specs.declared.LentRun.{LentRun}

-- ---- Open

-- memory for a header and a state with its reading
pub record Run : Type 0 where
  pub header : List ℕ
  pub corrections : List Float
  pub text_starts : List ℕ
  pub text_lengths : List ℕ
  pub numbers : List Float
  pub counts : List ℕ
  pub stored : ℕ
  pub reading : ℕ

abbrev pub lent_run : Lent (List ℕ) → Lent (List Float) → Lent (List ℕ) → Lent (List ℕ) → Lent (List Float) → Lent (List ℕ) → Lent ℕ → Lent ℕ → Both Run Run
lent_run h c s l x n t r = record {
  entry = record { header = h.entry.now; corrections = c.entry.now; text_starts = s.entry.now; text_lengths = l.entry.now; numbers = x.entry.now; counts = n.entry.now; stored = t.entry.now; reading = r.entry.now };
  exit = record { header = h.exit.now; corrections = c.exit.now; text_starts = s.exit.now; text_lengths = l.exit.now; numbers = x.exit.now; counts = n.exit.now; stored = t.exit.now; reading = r.exit.now };
}

-- what the memory that is lent for a run holds
abbrev pub held : LentRun → Run
held r = record { header = r.header.now; corrections = r.corrections.now; text_starts = r.text_starts.now; text_lengths = r.text_lengths.now; numbers = r.numbers.now; counts = r.counts.now; stored = r.stored_time.now; reading = r.reading.now }

-- and before and after a call that it is lent to
abbrev pub lent : Lent LentRun → Both Run Run
lent r = record { entry = held r.entry.now; exit = held r.exit.now }

-- it is the same memory as before, whatever stands in it
pub record AreTheSame (old new : LentRun) : Type 0 where
  pub header : new.header.ghost_name ≡ old.header.ghost_name
  pub corrections : new.corrections.ghost_name ≡ old.corrections.ghost_name
  pub text_starts : new.text_starts.ghost_name ≡ old.text_starts.ghost_name
  pub text_lengths : new.text_lengths.ghost_name ≡ old.text_lengths.ghost_name
  pub numbers : new.numbers.ghost_name ≡ old.numbers.ghost_name
  pub counts : new.counts.ghost_name ≡ old.counts.ghost_name
  pub stored_time : new.stored_time.ghost_name ≡ old.stored_time.ghost_name
  pub reading : new.reading.ghost_name ≡ old.reading.ghost_name

-- a reading as a number of the state
abbrev pub reading_number : Mode → ℕ
reading_number Plain = 0
reading_number Atlas = 1

abbrev pub header_of : ChemstationMetadata → List ℕ
header_of d = d.edition ∷ d.size ∷ d.sequence ∷ d.vial ∷ d.replicate ∷ []

abbrev pub corrections_of : ChemstationMetadata → List Float
corrections_of d = d.start_time ∷ d.end_time ∷ d.offset_correction ∷ d.mult_correction ∷ []

-- what a header says, and the rest as it was
abbrev pub with_header : ChemstationMetadata → Run → Run
with_header d old = record { header = header_of d; corrections = corrections_of d; text_starts = d.text_starts; text_lengths = d.text_lengths; numbers = old.numbers; counts = old.counts; stored = old.stored; reading = old.reading }

-- a state, and the rest as it was
abbrev pub with_state : State → Run → Run
with_state st old = record { header = old.header; corrections = old.corrections; text_starts = old.text_starts; text_lengths = old.text_lengths; numbers = numbers_of st; counts = counts_of st; stored = stored_of st; reading = reading_of st }

abbrev pub opened_as : ℕ → ChemstationMetadata → State → Run
opened_as reading d st = record {
  header = header_of d;
  corrections = corrections_of d;
  text_starts = d.text_starts;
  text_lengths = d.text_lengths;
  numbers = numbers_of st;
  counts = counts_of st;
  stored = stored_of st;
  reading = reading;
}

-- a header that was opened, with the state before the first record; or nothing is written
abbrev opened_by : Mode → ℕ → Read Header → Run → Run
opened_by mode kind (got x n) old = opened_as (reading_number mode) x.says (begins_by mode kind x)
opened_by mode kind (stops z) old = old

-- the answer r and the lent memory m, by what the rule of the reading reads
pub record OpensInto (mode : Mode) (kind : ℕ) (x : Read Header) (r : ℕ) (m : Both Run Run) : Type 0 where
  pub answer : r ≡ read_number x
  pub memory : m.exit ≡ opened_by mode kind x m.entry
  -- the numbers hold the state before the first record
  pub state : (h : Header) (n : ℕ) → x ≡ got h n → state_by m.exit.reading m.exit.numbers m.exit.counts m.exit.stored ≡ Some (begins_by mode kind h)

-- ---- Fetch a text

-- memory for a text, and its length in bytes
pub record Text : Type 0 where
  pub bytes : List ℕ
  pub size : ℕ

abbrev pub lent_text : Lent (List ℕ) → Lent ℕ → Both Text Text
lent_text b n = record { entry = record { bytes = b.entry.now; size = n.entry.now }; exit = record { bytes = b.exit.now; size = n.exit.now } }

abbrev pub size_after : Outcome → ℕ → ℕ
size_after (wrote n) old = n
size_after (refuse c) old = old

abbrev text_after : Read (List ℕ) → Text → Text
text_after x old = record { bytes = held_after old.bytes x; size = size_after (fetched (length old.bytes) x) old.size }

-- the answer r and the lent memory m, by what the rule reads
pub record FetchesInto (x : Read (List ℕ)) (r : ℕ) (m : Both Text Text) : Type 0 where
  pub answer : r ≡ outcome_number (fetched (length m.entry.bytes) x)
  pub memory : m.exit ≡ text_after x m.entry

-- ---- all texts at once

-- the answer r and the lent memory m, by what the rule reads
pub record TextsInto (x : Read (List (List ℕ))) (r : ℕ) (m : Both Texts Texts) : Type 0 where
  pub answer : r ≡ outcome_number (fetched (length m.entry.bytes) (map_read joined x))
  pub memory : m.exit ≡ texts_after m.entry x

-- ---- Fill columns

-- memory for a state, columns, and two numbers: records given, bytes consumed
pub record Filling : Type 0 where
  pub numbers : List Float
  pub counts : List ℕ
  pub stored : ℕ
  pub columns : Held
  pub given : List ℕ

abbrev pub lent_filling : Lent (List Float) → Lent (List ℕ) → Lent ℕ → Both Held Held → Lent (List ℕ) → Both Filling Filling
lent_filling x n t c g = record {
  entry = record { numbers = x.entry.now; counts = n.entry.now; stored = t.entry.now; columns = c.entry; given = g.entry.now };
  exit = record { numbers = x.exit.now; counts = n.exit.now; stored = t.exit.now; columns = c.exit; given = g.exit.now };
}

abbrev filled_by : Reading State Record → Held → Filling
filled_by g old = record {
  numbers = numbers_of g.state;
  counts = counts_of g.state;
  stored = stored_of g.state;
  columns = columns_with g.records old;
  given = length g.records ∷ g.consumed ∷ [];
}

-- without a state nothing is given, and the rest is as it was
abbrev filling_after : Option State → List ℕ → Bool → Filling → Filling
filling_after (Some st) s last old = filled_by (fill_of st s last old.columns) old.columns
filling_after None s last old = record { numbers = old.numbers; counts = old.counts; stored = old.stored; columns = old.columns; given = 0 ∷ 0 ∷ [] }

abbrev filling_number : Option State → List ℕ → Bool → Held → ℕ
filling_number (Some st) s last old = closing_number (fill_of st s last old).closing
filling_number None s last old = 1

-- the state that the numbers hold under a reading
abbrev kept_in : ℕ → Filling → Option State
kept_in reading f = state_by reading f.numbers f.counts f.stored

-- the answer r and the lent memory m, from the reading and the bytes s
pub record FillsInto (reading : ℕ) (s : List ℕ) (last : Bool) (r : ℕ) (m : Both Filling Filling) : Type 0 where
  pub answer : r ≡ filling_number (kept_in reading m.entry) s last m.entry.columns
  pub memory : m.exit ≡ filling_after (kept_in reading m.entry) s last m.entry
  -- under the same reading the numbers hold the state after the last record
  pub state : (st : State) → kept_in reading m.entry ≡ Some st → kept_in reading m.exit ≡ Some (fill_of st s last m.entry.columns).state

-- ---- the sum of a column

-- a sum that was given; else nothing is written
abbrev pub sum_after : AnyTotal → ℤ → ℤ
sum_after None old = old
sum_after (Some (Ok z)) old = z
sum_after (Some (Err c)) old = old

-- the answer r and the lent sum before and after, by what the values add up to on top of it
pub record SumsInto (t : AnyTotal) (r : ℕ) (old new : ℤ) : Type 0 where
  pub answer : r ≡ total_number t
  pub memory : new ≡ sum_after t old

-- ---- the run date

-- an instant that was told; else nothing is written
abbrev pub instant_after : Told → ℕ → ℕ
instant_after (instant i) old = i
instant_after no_date old = old
instant_after (refuse_date c) old = old

-- the answer r and the lent instant before and after
pub record DatesInto (t : Told) (r old new : ℕ) : Type 0 where
  pub answer : r ≡ told_number t
  pub memory : new ≡ instant_after t old
