-- What a header says, and the checks on it: document 01, 'Header' and 'Open' (FORMAT 4.3 to 4.6).
use Rattle.std.specs.Prelude.{cond, List, [], ◌∷◌, map, ℕ, leb, ltb, eqb, length, take, Float, Option, Some, None, Result, Ok, Err}
use Rattle.std.specs.Float.{binary32, binary64}
use Rattle.std.specs.Float.Ieee.{sub, div, of_int, of_bits}
use Rattle.rules.specs.Rule.{Rule, gives, refuses, ◌>>=◌, ◌>>◌, map_rule, Read, got, stops}
use Rattle.error.specs.Number.{stop_of}
use Rattle.common.specs.Bytes.{be, signed, part}
use Rattle.floats.specs.Doubles.{double, minutes, scan_count_of}
use Rattle.layouts.specs.Table.{Entry, look, minima, texts, offsets, multipliers, clocks}
use Rattle.agilent.specs.Header.{check, header_rule}
use Rattle.pascal.specs.Texts.{Place, text_rule}
use Rattle.pascal.specs.declared.TextField.{TextField}
use Rattle.pascal.specs.declared.TextField.TheVariants.{Absent}
use Rattle.layouts.specs.declared.Clock.{Clock}
use Rattle.layouts.specs.declared.Clock.TheVariants.{Nowhere, Whole, Single}
use Rattle.metadata.specs.declared.ChemstationMetadata.{ChemstationMetadata}
use Rattle.error.specs.declared.Stopped.{Stopped}
use Rattle.metadata.specs.declared.OpenedHeader.{OpenedHeader}

-- ---- texts

abbrev pub starts_of : List Place → List ℕ
starts_of ps = map (λ p. p.start) ps

abbrev pub lengths_of : List Place → List ℕ
lengths_of ps = map (λ p. p.bytes) ps

-- 'each text in the order listed below'
unfoldable pub texts_rule : ℕ → List ℕ → List (List (Entry TextField)) → Rule (List Place)
texts_rule e h [] = gives []
texts_rule e h (t ∷ ts) = do
  p ← text_rule (look Absent t e) h
  ps ← texts_rule e h ts
  gives (p ∷ ps)

-- ---- numbers

-- a stored double, BE
abbrev pub double_at : ℕ → Float → List ℕ → Float
double_at at other h = cond (eqb at 0) other (of_bits binary64 (be (part at 8 h)))

abbrev pub time_at : Clock → ℕ → List ℕ → Float
time_at Nowhere at h = double 0
time_at Whole at h = minutes (of_int binary64 (signed be (part at 4 h)))
time_at Single at h = minutes (of_bits binary32 (be (part at 4 h)))

-- ---- the description

-- what a header h of edition e says, whose texts have these starts and lengths
unfoldable pub described_by : ℕ → List ℕ → List ℕ → List ℕ → ChemstationMetadata
described_by e h starts lengths = record {
  edition = e;
  size = length h;
  sequence = be (part 252 2 h);
  vial = be (part 254 2 h);
  replicate = be (part 256 2 h);
  start_time = time_at (look Nowhere clocks e) 282 h;
  end_time = time_at (look Nowhere clocks e) 286 h;
  offset_correction = double_at (look 0 offsets e) (double 0) h;
  mult_correction = double_at (look 0 multipliers e) (double 1) h;
  text_starts = starts;
  text_lengths = lengths;
}

-- 'Then each text in the order listed below': what a header h of edition e says that passed the checks before the texts
abbrev pub described_rule : ℕ → List ℕ → Rule ChemstationMetadata
described_rule e h = map_rule (λ ps. described_by e h (starts_of ps) (lengths_of ps)) (texts_rule e h texts)

-- '5: edition unknown. 6: size below the edition's minimum. Then each text ..'; 'Edition: u32 at 248'
unfoldable pub metadata_rule : List ℕ → Rule ChemstationMetadata
metadata_rule h = do
  check (ltb 0 (look 0 minima (be (part 248 4 h)))) 5
  check (leb (look 0 minima (be (part 248 4 h))) (length h)) 6
  described_rule (be (part 248 4 h)) h

-- ---- kind 6

-- 'Step (u16 at 4122 / u16 at 4124) / 60'
abbrev pub step_of : List ℕ → Float
step_of h = div binary64 (div binary64 (double (be (part 4122 2 h))) (double (be (part 4124 2 h)))) (double 60)

-- '(end − start) / step'
unfoldable pub quotient_of : ChemstationMetadata → List ℕ → Float
quotient_of d h = div binary64 (sub binary64 d.end_time d.start_time) (step_of h)

-- '10, scan quotient 2^53 or more'
abbrev pub count_rule : Option ℕ → Rule ℕ
count_rule None = refuses 10
count_rule (Some n) = gives n

-- 'Kind 6 then: 9, size below 4,126; 10, ..': the scans of an array
unfoldable pub array_scans : ChemstationMetadata → List ℕ → Rule ℕ
array_scans d h = do
  check (leb 4126 (length h)) 9
  count_rule (scan_count_of (quotient_of d h))

-- ---- Open, as far as the header goes

-- the header's bytes, what it says, the scans due (0 where the kind has none), and the minutes a record of an array
pub record Header : Type 0 where
  pub bytes : List ℕ
  pub says : ChemstationMetadata
  pub scans : ℕ
  pub step : Float

-- 'Scans due (MS, DAD, UV): u32 at 278'; FID and MWD have none
abbrev pub scans_at : ℕ → List ℕ → ℕ
scans_at kind h = cond (eqb kind 1) 0 (cond (eqb kind 3) 0 (be (part 278 4 h)))

abbrev pub scans_rule : ℕ → ChemstationMetadata → List ℕ → Rule ℕ
scans_rule kind d h = cond (eqb kind 6) (array_scans d h) (gives (scans_at kind h))

-- only an array's header has one: 0 for the other kinds
abbrev pub step_by : ℕ → List ℕ → Float
step_by kind h = cond (eqb kind 6) (step_of h) (double 0)

-- 'Kind 6 then: ..': what is left of the rule where a header h says d
abbrev pub after_description : ℕ → List ℕ → ChemstationMetadata → Rule Header
after_description kind h d = map_rule (λ n. record { bytes = h; says = d; scans = n; step = step_by kind h }) (scans_rule kind d h)

-- '5: .. Kind 6 then: ..': what is left of it where the header's bytes h are there
abbrev pub after_bytes : ℕ → List ℕ → Rule Header
after_bytes kind h = metadata_rule h >>= after_description kind h

-- 'All of the above, in that order. 5: ..'
unfoldable pub open_rule : ℕ → Rule Header
open_rule kind = header_rule kind >>= after_bytes kind

-- ---- Open's answer

-- what an answer says of the bytes s: a header at their start, or why there is none
abbrev pub header_read : List ℕ → Result OpenedHeader Stopped → Read Header
header_read s (Ok o) = got (record { bytes = take o.metadata.size s; says = o.metadata; scans = o.scans; step = o.time_step }) o.metadata.size
header_read s (Err z) = stops (stop_of z)
