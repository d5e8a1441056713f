-- Open (document 01): the header, and the state before the first record (FORMAT 5).
use Rattle.std.specs.Prelude.{◌≡◌, Bool, true, false, cond, ◌&&◌, ◌||◌, List, [], ◌∷◌, ℕ, eqb, Float, Result, Ok, Err}
use Rattle.std.specs.Float.{binary64}
use Rattle.std.specs.Float.Ieee.{sub, div}
use Rattle.rules.specs.Rule.{Rule, map_rule, Read, got, stops, read}
use Rattle.error.specs.Number.{stop_of}
use Rattle.error.specs.declared.Stopped.{Stopped}
use Rattle.common.specs.Bytes.{part}
use Rattle.metadata.specs.Metadata.{Header, open_rule}
use Rattle.metadata.specs.declared.ChemstationMetadata.{ChemstationMetadata}
use Rattle.floats.specs.Doubles.{double}
use Rattle.streams.specs.declared.ChemstationArrayRecordType.{ChemstationArrayRecordType}
use Rattle.streams.specs.declared.ChemstationArrayRecordType.TheVariants.{Float32Array, Float64Array}
use Rattle.streams.specs.declared.Scans.{Scans}
use Rattle.streams.specs.declared.State.{State}
use Rattle.streams.specs.declared.State.TheVariants.{Fid, Ms, Mwd, Dad, Uv, Array}
use Rattle.opening.specs.declared.OpenedRun.{OpenedRun}

-- ---- the state before the first record

-- 0.2, rounded to a double
abbrev pub fifth : Float
fifth = div binary64 (double 1) (double 5)

abbrev pub same_bytes : List ℕ → List ℕ → Bool
same_bytes [] [] = true
same_bytes [] (b ∷ bs) = false
same_bytes (a ∷ r) [] = false
same_bytes (a ∷ r) (b ∷ bs) = eqb a b && same_bytes r bs

-- 'LE f64 if bytes 348 to 351 are `G\0C\0` or 3090 to 3103 are "Mustang" with a zero after each letter, else LE f32'
abbrev pub record_type : List ℕ → ChemstationArrayRecordType
record_type h =
    cond (same_bytes (part 348 4 h) (71 ∷ 0 ∷ 67 ∷ 0 ∷ []) || same_bytes (part 3090 14 h) (77 ∷ 0 ∷ 117 ∷ 0 ∷ 115 ∷ 0 ∷ 116 ∷ 0 ∷ 97 ∷ 0 ∷ 110 ∷ 0 ∷ 103 ∷ 0 ∷ []))
    Float64Array Float32Array

-- FID: 'Time begins at start − 0.2 and grows by 0.2 a record'
abbrev pub fid_begins : ChemstationMetadata → State
fid_begins d = Fid (record {
  cur_time = sub binary64 d.start_time fifth;
  cur_delta = double 0;
  cur_intensity = double 0;
  time_step = fifth;
  mult_correction = d.mult_correction;
  offset_correction = d.offset_correction;
})

abbrev pub ms_begins : Scans → State
ms_begins scans = Ms (record { n_scans_left = scans; n_mzs_left = record { 0 = 0 }; cur_time = double 0; cur_intensity = double 0; stored_time = 0 })

-- MWD: 'Time as FID'
abbrev pub mwd_begins : ChemstationMetadata → State
mwd_begins d = Mwd (record {
  n_wvs_left = record { 0 = 0 };
  cur_time = sub binary64 d.start_time fifth;
  cur_intensity = double 0;
  time_step = fifth;
  mult_correction = d.mult_correction;
  offset_correction = d.offset_correction;
})

abbrev pub dad_begins : Scans → State
dad_begins scans = Dad (record {
  n_scans_left = scans;
  n_bytes_left = record { 0 = 0 };
  cur_time = double 0;
  cur_intensity = double 0;
  cur_wv = double 0;
  wv_step = double 0;
  stored_time = 0;
})

abbrev pub uv_begins : Scans → Float → State
uv_begins scans mult = Uv (record {
  n_scans_left = scans;
  n_wvs_left = record { 0 = 0 };
  cur_time = double 0;
  cur_intensity = double 0;
  cur_wv = double 0;
  wv_step = double 0;
  mult_correction = mult;
  stored_time = 0;
})

-- array: 'Time begins at start'
abbrev pub array_begins : Header → State
array_begins x = Array (record {
  record_type = record_type x.bytes;
  n_scans_left = record { 0 = x.scans };
  cur_time = x.says.start_time;
  cur_intensity = double 0;
  time_step = x.step;
  mult_correction = x.says.mult_correction;
})

-- by the kind; Open has refused any other
unfoldable pub begins : ℕ → Header → State
begins kind x =
    cond (eqb kind 1) (fid_begins x.says)
    (cond (eqb kind 2) (ms_begins (record { 0 = x.scans }))
    (cond (eqb kind 3) (mwd_begins x.says)
    (cond (eqb kind 4) (dad_begins (record { 0 = x.scans }))
    (cond (eqb kind 5) (uv_begins (record { 0 = x.scans }) x.says.mult_correction)
    (array_begins x)))))

-- ---- Open

-- the rule of opening: the state before the first record
abbrev pub start_rule : ℕ → Rule State
start_rule kind = map_rule (begins kind) (open_rule kind)

-- the same fields, for what the header says
abbrev pub says_rule : ℕ → Rule ChemstationMetadata
says_rule kind = map_rule (λ h. h.says) (open_rule kind)

-- what an answer says: the state and the header's size, or why there is none. 'A refusal returns no state', nor a description
abbrev pub start_read : Result OpenedRun Stopped → Read State
start_read (Ok o) = got o.state o.size
start_read (Err z) = stops (stop_of z)

abbrev pub says_read : Result OpenedRun Stopped → Read ChemstationMetadata
says_read (Ok o) = got o.metadata o.size
says_read (Err z) = stops (stop_of z)

-- an answer r to the bytes s, told whether they are the last
pub record OpensRun (kind : ℕ) (last : Bool) (s : List ℕ) (r : Result OpenedRun Stopped) : Type 0 where
  pub state : start_read r ≡ read last (start_rule kind) s
  pub says : says_read r ≡ read last (says_rule kind) s
