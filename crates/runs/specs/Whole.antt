-- Whole runs of the machine: the text that it asks to be written is the log of its input, however this comes in parts; and it ends.
use Rattle.std.specs.Prelude.{ℕ, ◌+◌, ◌-◌, ◌*◌, ◌≤◌, ◌<◌, ◌≡◌, Bool, true, false, cond, List, [], ◌∷◌, ◌++◌, eqb, length, take}
use Rattle.rules.specs.Rule.{Stop, refused}
use Rattle.streams.specs.declared.Mode.{Mode}
use Rattle.digits.specs.Numbers.{kind_of}
use Rattle.lines.specs.Lines.{end_line}
use Rattle.lines.specs.Left.{ascii}
use Rattle.runlog.specs.Log.{LogOf}
use Rattle.places.specs.declared.Phase.{Phase}
use Rattle.places.specs.declared.Phase.TheVariants.{Digit, Header, Records, Ended, TooLong, Over}
use Rattle.places.specs.declared.Place.{Place}
use Rattle.places.specs.declared.Ask.{Ask}
use Rattle.places.specs.declared.Ask.TheVariants as ask
use Rattle.places.specs.Machine.{most, started, over, step_of, took_of, wrote_of}

-- by the reading of the program: 'Standard input: one kind digit, then the file'; 'No digit: `e 1 0`'
pub data LogOfInput (mode : Mode) (size : ℕ) : List ℕ → List ℕ → Type 0 where
  no_digit : LogOfInput mode size [] (end_line (refused 1) 0)
  a_digit : {digit : ℕ} {F : List ℕ} {z : Stop} {t : List ℕ} → LogOf mode size (kind_of digit) F z t → LogOfInput mode size (digit ∷ F) t

-- ---- a run

-- from a place and its memory on, with bytes of the input that have not come: the texts that it asks to be written, one behind the other, if each is written. It goes on where `wrote` and `took` lead
pub data Writes : Place → List ℕ → List ℕ → List ℕ → List ℕ → Type 0 where
  closed : {p : Place} {buf out input : List ℕ} → (step_of p buf out).answer ≡ ask.Closed → Writes p buf out input []
  written : {p : Place} {buf out input t : List ℕ} (q : Place) (n : ℕ) → (step_of p buf out).answer ≡ ask.Write q n → Writes (wrote_of q true) (step_of p buf out).buf (step_of p buf out).out input t →
      Writes p buf out input (take n (step_of p buf out).out ++ t)
  told : {p : Place} {buf out input t : List ℕ} (q : Place) (n : ℕ) → (step_of p buf out).answer ≡ ask.Tell q n → Writes (wrote_of q true) (step_of p buf out).buf (step_of p buf out).out input t → Writes p buf out input t
  -- a part of the input comes behind the first n bytes, none only at its end; what stands behind it then is anything
  taken : {p : Place} {buf out t : List ℕ} (q : Place) (n : ℕ) (part rest new : List ℕ) → (step_of p buf out).answer ≡ ask.Read q n → length part ≤ length buf - n → (part ≡ [] → rest ≡ []) →
      length new ≡ length buf → take (n + length part) new ≡ take n (step_of p buf out).buf ++ part → Writes (took_of q (length part) new) new (step_of p buf out).out rest t → Writes p buf out (part ++ rest) t

-- ---- the end

-- what is done before what
abbrev pub rank : Phase → ℕ
rank (Digit mode) = 9
rank (Header mode kind) = 7
rank (Records st) = 4
rank (Ended all due) = 3
rank TooLong = 2
rank Over = 1

-- a measure: the bytes that may still come, those at hand, whether text stands in the output buffer, whether the input has ended, and the phase
abbrev pub weight : Place → ℕ
weight p = 3 * (most + 1 - p.came) + (2 * (p.to - p.from) + (cond (eqb p.at 0) 0 1 + (cond p.last 0 1 + rank p.phase)))

-- what is asked for lies in the buffers, and the measure falls: at once, or by what a read answers, be it bytes, none, too many, or a failure
abbrev pub Falls : Place → List ℕ → List ℕ → Ask → Type 0
Falls p buf out (ask.Write q n) = (weight q < weight p) × (n ≤ length out)
Falls p buf out (ask.Tell q n) = (weight q < weight p) × (n ≤ length out)
Falls p buf out (ask.Read q n) = (weight q ≤ weight p) × (q.last ≡ false) × (3 ≤ rank q.phase) × (n < length buf)
Falls p buf out ask.Closed = Unit

-- every run from here ends, however its input comes, and whatever reads and writes answer
pub data Ends : Place → List ℕ → List ℕ → List ℕ → Type 0 where
  each_ends : {p : Place} {buf out input : List ℕ} → ((q : Place) (n : ℕ) (ok : Bool) → (step_of p buf out).answer ≡ ask.Write q n → Ends (wrote_of q ok) (step_of p buf out).buf (step_of p buf out).out input) →
      ((q : Place) (n : ℕ) (ok : Bool) → (step_of p buf out).answer ≡ ask.Tell q n → Ends (wrote_of q ok) (step_of p buf out).buf (step_of p buf out).out input) →
      ((q : Place) (n : ℕ) (part rest new : List ℕ) → (step_of p buf out).answer ≡ ask.Read q n → input ≡ part ++ rest → Ends (took_of q (length part) new) new (step_of p buf out).out rest) →
      ((q : Place) (n : ℕ) (new : List ℕ) → (step_of p buf out).answer ≡ ask.Read q n → Ends (over q) new (step_of p buf out).out input) → Ends p buf out input

-- ---- the theorem

pub record WholeRuns : Type 0 where
  -- for either reading and every input of fewer than 2^64 bytes, however it comes
  pub log : (mode : Mode) (buf out input t : List ℕ) → 1 ≤ length buf → 128 ≤ length out → length input ≤ most → Writes (started mode) buf out input t → LogOfInput mode (length buf) input t
  -- of an input without a digit it is these bytes
  pub empty : (mode : Mode) (size : ℕ) (t : List ℕ) → LogOfInput mode size [] t → t ≡ ascii "e 1 0\n"
  -- and there is such a run, whatever the input
  pub there : (mode : Mode) (buf out input : List ℕ) → (t : List ℕ) × Writes (started mode) buf out input t
  -- each step asks for what lies in the buffers, and lowers the measure
  pub falls : (p : Place) (buf out : List ℕ) → Falls p buf out (step_of p buf out).answer
  pub ends : (p : Place) (buf out input : List ℕ) → Ends p buf out input
