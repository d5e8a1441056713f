-- The log of a file, read through a buffer: document 01, 'The log program', and request 1.
use Rattle.std.specs.Prelude.{ℕ, ◌≤◌, ◌<◌, ◌≡◌, true, false, cond, List, [], ◌∷◌, ◌++◌, eqb, ltb, pos, length, take, drop, Some, None, Ok}
use Rattle.rules.specs.Rule.{Rule, Stop, more_bytes, Read, got, stops, read}
use Rattle.rules.specs.Calls.{Item}
use Rattle.metadata.specs.Metadata.{Header}
use Rattle.chemstation.specs.Next.{rule}
use Rattle.streams.specs.declared.State.{State}
use Rattle.streams.specs.declared.Record.{Record}
use Rattle.streams.specs.declared.Mode.{Mode}
use Rattle.modes.specs.Modes.{open_by, begins_by}
use Rattle.sums.specs.Sums.{AnyTotal, total_from}
use Rattle.lines.specs.Lines.{header_line, total_line, end_line}
use Rattle.runlog.specs.Runs.{lines_of, unscaled}

-- what a rule reads of the bytes to the end of the file through a buffer of so many bytes: 'A full buffer is never taken as the last'
abbrev pub in_buffer : {A : Type 0} → ℕ → Rule A → List ℕ → Read A
in_buffer size r bs = cond (ltb (length bs) size) (read true r bs) (read false r (take size bs))

-- the records from a state and the bytes behind it on, and the answer that closes them: `m` where a full buffer 'still gives *more bytes*'
pub data Reads (size : ℕ) : State → List ℕ → List Record → Stop → Type 0 where
  one_more : {st : State} {bs : List ℕ} {x : Item State Record} {n : ℕ} {rs : List Record} {z : Stop} → in_buffer size (rule st) bs ≡ got x n → Reads size x.after (drop n bs) rs z → Reads size st bs (x.shows ∷ rs) z
  no_more : {st : State} {bs : List ℕ} {z : Stop} → in_buffer size (rule st) bs ≡ stops z → Reads size st bs [] z

abbrev pub header_text : Header → List ℕ
header_text h = header_line h.says.edition h.says.size

-- request 1: 'Kind 6 and a refused opening print no t line'
abbrev pub first_total : ℕ → AnyTotal
first_total kind = cond (eqb kind 6) None (Some (Ok (pos 0)))

-- the t line of the records, then e: 'just before `e`'
abbrev pub foot_text : AnyTotal → List Record → Stop → ℕ → List ℕ
foot_text t rs z count = total_line (total_from t (unscaled rs)) ++ end_line z count

-- h, the lines of the records, t, e
abbrev pub opened_text : ℕ → Header → List Record → Stop → List ℕ
opened_text kind h rs z = header_text h ++ (lines_of rs ++ foot_text (first_total kind) rs z (length rs))

-- by the reading that opens it: 'A refused opening prints only e'
pub data LogOf (mode : Mode) (size kind : ℕ) (F : List ℕ) : Stop → List ℕ → Type 0 where
  refused_run : {z : Stop} → in_buffer size (open_by mode kind) F ≡ stops z → LogOf mode size kind F z (end_line z 0)
  opened_run : {h : Header} {n : ℕ} {rs : List Record} {z : Stop} → in_buffer size (open_by mode kind) F ≡ got h n → Reads size (begins_by mode kind h) (drop n F) rs z →
      LogOf mode size kind F z (opened_text kind h rs z)

-- ---- what is so of every file, by either reading

-- how a log that closes with `m` begins another of the same file: its closing line stands alone, or both have one header, and its records begin the other's
pub data BeginsLog (kind : ℕ) (y : Stop) : List ℕ → List ℕ → Type 0 where
  no_header : (u : List ℕ) → BeginsLog kind y (end_line more_bytes 0) u
  same_records : (h : Header) (rs vs : List Record) →
      BeginsLog kind y (opened_text kind h rs more_bytes) (opened_text kind h (rs ++ vs) y)

pub record OneLog : Type 0 where
  -- it has a log, and one only
  pub there : (mode : Mode) (size kind : ℕ) (F : List ℕ) → (z : Stop) × (t : List ℕ) × LogOf mode size kind F z t
  pub one : (mode : Mode) (size kind : ℕ) (F : List ℕ) (y z : Stop) (t u : List ℕ) → LogOf mode size kind F y t → LogOf mode size kind F z u → t ≡ u
  -- a larger buffer gives the same log, unless it closes with `m`; then too the lines of all its records are the same
  pub larger : (mode : Mode) (size more kind : ℕ) (F : List ℕ) (z : Stop) (t : List ℕ) → size ≤ more → LogOf mode size kind F z t → ¬ (z ≡ more_bytes) → LogOf mode more kind F z t
  pub begins_so : (mode : Mode) (size more kind : ℕ) (F : List ℕ) (y : Stop) (t u : List ℕ) → size ≤ more → LogOf mode size kind F more_bytes t → LogOf mode more kind F y u → BeginsLog kind y t u
  -- in a buffer that is larger than the file all of it is at hand, told last: no log closes with `m`
  pub no_wait : (mode : Mode) (size kind : ℕ) (F : List ℕ) (z : Stop) (t : List ℕ) → length F < size → LogOf mode size kind F z t → ¬ (z ≡ more_bytes)
