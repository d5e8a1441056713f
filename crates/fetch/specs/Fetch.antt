-- Fetch a text (FORMAT 4.5).
use Rattle.std.specs.Prelude.{Result, Ok, Err, ◌≡◌, true, cond, ◌&&◌, List, [], ℕ, ◌+◌, ◌-◌, ◌*◌, leb, length, get_or}
use Rattle.rules.specs.Rule.{Rule, gives, ◌>>=◌, ◌>>◌, Stop, refused, finished, more_bytes, Read, got, stops, read}
use Rattle.error.specs.Number.{number_of}
use Rattle.error.specs.declared.Refusal.{Refusal}
use Rattle.common.specs.Bytes.{part}
use Rattle.utf8.specs.Utf8.{encodes, Decoded, bad, text, decode}
use Rattle.trim.specs.WhiteSpace.{trim}
use Rattle.utf16.specs.Utf16.{units, utf8_of, unpaired}
use Rattle.written.specs.Written.{held}
use Rattle.layouts.specs.Table.{field_of}
use Rattle.agilent.specs.Header.{check, known}
use Rattle.metadata.specs.Metadata.{Header, open_rule}
use Rattle.pascal.specs.declared.TextField.{TextField}
use Rattle.pascal.specs.declared.TextField.TheVariants.{Absent, Pascal, PascalToEnd, Utf16}
use Rattle.utf16.specs.declared.Recoded.{Recoded}

-- the UTF-8 of the scalars without white space at both ends
abbrev pub trimmed_text : Decoded → List ℕ
trimmed_text bad = []
trimmed_text (text cs) = encodes (trim cs)

-- the UTF-8 of the text in a field
unfoldable pub text_of : TextField → List ℕ → List ℕ
text_of Absent h = []
text_of (Pascal start width) h = trimmed_text (decode (part (start + 1) (get_or h start 0) h))
text_of (PascalToEnd start) h = trimmed_text (decode (part (start + 1) (get_or h start 0) h))
text_of (Utf16 start) h = utf8_of (part (start + 1) (2 * get_or h start 0) h)

-- 'by number 1 to 8 .. 1, then 16: another text number. Then as Open'
unfoldable pub fetch_rule : ℕ → ℕ → Rule (List ℕ)
fetch_rule kind number = do
  check (known kind) 1
  check (leb 1 number && leb number 8) 16
  x ← open_rule kind
  gives (text_of (field_of (number - 1) x.says.edition) x.bytes)

-- a byte count, or a refusal by its number
pub data Outcome : Type 0 where
  wrote : ℕ → Outcome
  refuse : ℕ → Outcome

-- 'finished' and 'more bytes' are not said: no rule of a header ends, and the bytes are the last
abbrev pub number_of_stop : Stop → ℕ
number_of_stop (refused c) = c
number_of_stop finished = 0
number_of_stop more_bytes = 14

-- '15: the text is longer than the lent buffer'
abbrev pub fetched : ℕ → Read (List ℕ) → Outcome
fetched room (got t n) = cond (leb (length t) room) (wrote (length t)) (refuse 15)
fetched room (stops z) = refuse (number_of_stop z)

-- 'A refusal writes nothing. Success writes the text as UTF-8 from the start .. and leaves the rest unchanged'
abbrev pub held_after : List ℕ → Read (List ℕ) → List ℕ
held_after old (got t n) = held old t
held_after old (stops z) = old

abbrev pub outcome_of : Result Recoded Refusal → Outcome
outcome_of (Ok t) = wrote t.bytes
outcome_of (Err r) = refuse (number_of r)

-- the answer r, and the lent buffer before and after, by what the rule reads
pub record Fetches (r : Result Recoded Refusal) (old new : List ℕ) (x : Read (List ℕ)) : Type 0 where
  pub answer : outcome_of r ≡ fetched (length old) x
  pub buffer : new ≡ held_after old x

-- ---- Units that were replaced (FORMAT 4.5).

-- 'how many units it replaced .. an old-edition text reports 0'; a text that the edition lacks has none
unfoldable pub replaced_in : TextField → List ℕ → ℕ
replaced_in Absent h = 0
replaced_in (Pascal start width) h = 0
replaced_in (PascalToEnd start) h = 0
replaced_in (Utf16 start) h = unpaired (units (part (start + 1) (2 * get_or h start 0) h))

-- in the text of a number, by the header that Open reads
abbrev pub replaced_by : ℕ → Read Header → ℕ
replaced_by number (got x n) = replaced_in (field_of (number - 1) x.says.edition) x.bytes
replaced_by number (stops z) = 0

-- 'Fetch passes the number on .. A refusal passes 0'
abbrev pub passed_on : Outcome → ℕ → ℕ
passed_on (wrote n) count = count
passed_on (refuse c) count = 0

-- the number in Fetch's answer
abbrev pub replaced_of : Result Recoded Refusal → ℕ
replaced_of (Ok t) = t.replaced
replaced_of (Err r) = 0

-- it, by the lent buffer before and the bytes of the file
unfoldable pub passed : ℕ → ℕ → List ℕ → List ℕ → ℕ
passed kind number old s = passed_on (fetched (length old) (read true (fetch_rule kind number) s)) (replaced_by number (read true (open_rule kind) s))
