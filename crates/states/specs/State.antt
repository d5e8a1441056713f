-- A state as numbers that the caller keeps: six doubles, four counts, a stored time and the reading.
use Rattle.std.specs.Prelude.{◌≡◌, cond, List, [], ◌∷◌, ℕ, eqb, get_or, Float, Option, Some, None}
use Rattle.std.specs.Float.{binary64, nan}
use Rattle.std.specs.Float.Ieee.{of_bits}
use Rattle.streams.specs.Next.{stored_of, atlas_of}
use Rattle.streams.specs.declared.ChemstationDadState.{ChemstationDadState}
use Rattle.streams.specs.declared.ChemstationUvState.{ChemstationUvState}
use Rattle.streams.specs.declared.ChemstationArrayRecordType.{ChemstationArrayRecordType}
use Rattle.streams.specs.declared.ChemstationArrayRecordType.TheVariants.{Float32Array, Float64Array}
use Rattle.streams.specs.declared.State.{State}
use Rattle.streams.specs.declared.State.TheVariants.{Fid, Ms, Mwd, Dad, Uv, Array, AtlasDad, AtlasUv}

-- what a place holds that the kind has no number for
abbrev unused : Float
unused = of_bits binary64 0

-- the numbers and counts of DAD and UV, the same under either reading
abbrev pub dad_numbers : ChemstationDadState → List Float
dad_numbers d = d.cur_time ∷ d.cur_intensity ∷ d.cur_wv ∷ d.wv_step ∷ unused ∷ unused ∷ []

abbrev pub uv_numbers : ChemstationUvState → List Float
uv_numbers u = u.cur_time ∷ u.cur_intensity ∷ u.cur_wv ∷ u.wv_step ∷ u.mult_correction ∷ unused ∷ []

abbrev pub dad_counts : ChemstationDadState → List ℕ
dad_counts d = 4 ∷ d.n_scans_left.0 ∷ d.n_bytes_left.0 ∷ 0 ∷ []

abbrev pub uv_counts : ChemstationUvState → List ℕ
uv_counts u = 5 ∷ u.n_scans_left.0 ∷ u.n_wvs_left.0 ∷ 0 ∷ []

-- time, intensity, slope or wavelength, step, multiplier, offset; 0 where the kind has no such number
abbrev pub numbers_of : State → List Float
numbers_of (Fid f) = f.cur_time ∷ f.cur_intensity ∷ f.cur_delta ∷ f.time_step ∷ f.mult_correction ∷ f.offset_correction ∷ []
numbers_of (Ms m) = m.cur_time ∷ m.cur_intensity ∷ unused ∷ unused ∷ unused ∷ unused ∷ []
numbers_of (Mwd m) = m.cur_time ∷ m.cur_intensity ∷ unused ∷ m.time_step ∷ m.mult_correction ∷ m.offset_correction ∷ []
numbers_of (Dad d) = dad_numbers d
numbers_of (Uv u) = uv_numbers u
numbers_of (Array a) = a.cur_time ∷ a.cur_intensity ∷ unused ∷ a.time_step ∷ a.mult_correction ∷ unused ∷ []
numbers_of (AtlasDad d) = dad_numbers d
numbers_of (AtlasUv u) = uv_numbers u

abbrev pub type_number : ChemstationArrayRecordType → ℕ
type_number Float32Array = 0
type_number Float64Array = 1

-- kind, scans due, points or bytes due, record type; 0 where the kind has no such count
abbrev pub counts_of : State → List ℕ
counts_of (Fid f) = 1 ∷ 0 ∷ 0 ∷ 0 ∷ []
counts_of (Ms m) = 2 ∷ m.n_scans_left.0 ∷ m.n_mzs_left.0 ∷ 0 ∷ []
counts_of (Mwd m) = 3 ∷ 0 ∷ m.n_wvs_left.0 ∷ 0 ∷ []
counts_of (Dad d) = dad_counts d
counts_of (Uv u) = uv_counts u
counts_of (Array a) = 6 ∷ a.n_scans_left.0 ∷ 0 ∷ type_number a.record_type ∷ []
counts_of (AtlasDad d) = dad_counts d
counts_of (AtlasUv u) = uv_counts u

-- 0 plain, 1 atlas: the kind and the other numbers are the same under both
abbrev pub reading_of : State → ℕ
reading_of (Fid f) = 0
reading_of (Ms m) = 0
reading_of (Mwd m) = 0
reading_of (Dad d) = 0
reading_of (Uv u) = 0
reading_of (Array a) = 0
reading_of (AtlasDad d) = 1
reading_of (AtlasUv u) = 1

-- ---- taken back

abbrev pub type_at : ℕ → ChemstationArrayRecordType
type_at n = cond (eqb n 0) Float32Array Float64Array

-- the last argument of get_or stands for what lies behind a list's end, where nothing is looked up
abbrev number_at : List Float → ℕ → Float
number_at x i = get_or x i nan

abbrev count_at : List ℕ → ℕ → ℕ
count_at n i = get_or n i 0

abbrev pub fid_from : List Float → State
fid_from x = Fid (record {
  cur_time = number_at x 0;
  cur_delta = number_at x 2;
  cur_intensity = number_at x 1;
  time_step = number_at x 3;
  mult_correction = number_at x 4;
  offset_correction = number_at x 5;
})

abbrev pub ms_from : List Float → List ℕ → ℕ → State
ms_from x n stored = Ms (record {
  n_scans_left = record { 0 = count_at n 1 };
  n_mzs_left = record { 0 = count_at n 2 };
  cur_time = number_at x 0;
  cur_intensity = number_at x 1;
  stored_time = stored;
})

abbrev pub mwd_from : List Float → List ℕ → State
mwd_from x n = Mwd (record {
  n_wvs_left = record { 0 = count_at n 2 };
  cur_time = number_at x 0;
  cur_intensity = number_at x 1;
  time_step = number_at x 3;
  mult_correction = number_at x 4;
  offset_correction = number_at x 5;
})

abbrev pub dad_from : List Float → List ℕ → ℕ → State
dad_from x n stored = Dad (record {
  n_scans_left = record { 0 = count_at n 1 };
  n_bytes_left = record { 0 = count_at n 2 };
  cur_time = number_at x 0;
  cur_intensity = number_at x 1;
  cur_wv = number_at x 2;
  wv_step = number_at x 3;
  stored_time = stored;
})

abbrev pub uv_from : List Float → List ℕ → ℕ → State
uv_from x n stored = Uv (record {
  n_scans_left = record { 0 = count_at n 1 };
  n_wvs_left = record { 0 = count_at n 2 };
  cur_time = number_at x 0;
  cur_intensity = number_at x 1;
  cur_wv = number_at x 2;
  wv_step = number_at x 3;
  mult_correction = number_at x 4;
  stored_time = stored;
})

abbrev pub array_from : List Float → List ℕ → State
array_from x n = Array (record {
  record_type = type_at (count_at n 3);
  n_scans_left = record { 0 = count_at n 1 };
  cur_time = number_at x 0;
  cur_intensity = number_at x 1;
  time_step = number_at x 3;
  mult_correction = number_at x 4;
})

abbrev pub kept_as : ℕ → List Float → List ℕ → ℕ → Option State
kept_as kind x n stored =
    cond (eqb kind 1) (Some (fid_from x))
    (cond (eqb kind 2) (Some (ms_from x n stored))
    (cond (eqb kind 3) (Some (mwd_from x n))
    (cond (eqb kind 4) (Some (dad_from x n stored))
    (cond (eqb kind 5) (Some (uv_from x n stored))
    (cond (eqb kind 6) (Some (array_from x n))
    None)))))

-- the state that the numbers hold under the plain reading: none of a kind that is not 1 to 6
unfoldable pub state_of : List Float → List ℕ → ℕ → Option State
state_of x n stored = kept_as (count_at n 0) x n stored

-- the atlas reading at the place of a plain state: a kind without that reading has no such state
abbrev pub atlas_state : State → Option State
atlas_state st = cond (eqb (reading_of (atlas_of st)) 1) (Some (atlas_of st)) None

abbrev pub atlas_kept : Option State → Option State
atlas_kept (Some st) = atlas_state st
atlas_kept None = None

-- the state that the numbers hold under a reading: none of a reading that is not 0 or 1
unfoldable pub state_by : ℕ → List Float → List ℕ → ℕ → Option State
state_by reading x n stored = cond (eqb reading 0) (state_of x n stored) (cond (eqb reading 1) (atlas_kept (state_of x n stored)) None)

-- a state that is stored and taken back is the same
abbrev pub KeepsStates : Type 0
KeepsStates = (st : State) → state_by (reading_of st) (numbers_of st) (counts_of st) (stored_of st) ≡ Some st
