-- DAD (FORMAT 5.4): the fields of a record, in their order, each check as soon as its field is read.
use Rattle.std.specs.Prelude.{cond, List, [], ◌∷◌, ◌++◌, ℕ, ◌-◌, eqb}
use Rattle.std.specs.Float.{binary64}
use Rattle.std.specs.Float.Ieee.{add, div}
use Rattle.rules.specs.Rule.{Rule, ends, ◌>>=◌, ◌>>◌, skip, map_rule}
use Rattle.common.specs.Bytes.{le}
use Rattle.common.specs.Fields.{u16, u32}
use Rattle.floats.specs.Doubles.{double, minutes}
use Rattle.streams.specs.Changes.{Change, clears}
use Rattle.streams.specs.Told.{Made, Told, told, whole_minutes, leftover, delta, change_of}
use Rattle.streams.specs.Scanning.{Scanning, scanning}
use Rattle.streams.specs.declared.ChemstationDadState.{ChemstationDadState}
use Rattle.streams.specs.declared.Bytes.{Bytes}
use Rattle.streams.specs.declared.Scans.{Scans}
use Rattle.streams.specs.declared.Delta.{Delta}
use Rattle.streams.specs.declared.Delta.TheVariants.{By, Absolute}
use Rattle.streams.specs.declared.State.TheVariants.{Dad}
use Rattle.streams.specs.declared.Record.TheVariants.{Spectrum}

-- 'bytes due falls by 2, or by 6 for an absolute, not below 0'
abbrev pub width_of : Delta → ℕ
width_of (By v) = 2
width_of (Absolute z) = 6

-- 'Time / 60000, wavelength / 20, scaled value / 2000': a state that stands at a point, and its delta
abbrev pub dad_made : ChemstationDadState → Delta → Made
dad_made st d = record {
  shows = λ y. Spectrum (minutes st.cur_time) (div binary64 st.cur_wv (double 20)) y (div binary64 y (double 2000)) (whole_minutes st.stored_time) (leftover st.stored_time);
  then = λ s. Dad (record {
    n_scans_left = st.n_scans_left;
    n_bytes_left = record { 0 = st.n_bytes_left.0 - width_of d };
    cur_time = st.cur_time;
    cur_intensity = s.value;
    cur_wv = st.cur_wv;
    wv_step = st.wv_step;
    stored_time = st.stored_time;
  });
}

unfoldable pub dad_point : ChemstationDadState → List Change → Rule Told
dad_point st first = map_rule (λ d. told (dad_made st d) (first ++ (change_of d ∷ []))) (delta le)

-- a scan at its first point: 'scans − 1'. The value is cleared by the rule (`clears`); what stands here for it is not looked at
abbrev pub dad_begun : Scans → Bytes → ℕ → ℕ → ℕ → ChemstationDadState
dad_begun scans bytes time start step = record {
  n_scans_left = record { 0 = scans.0 - 1 };
  n_bytes_left = bytes;
  cur_time = double time;
  cur_intensity = double 0;
  cur_wv = double start;
  wv_step = double step;
  stored_time = time;
}

-- 'u16 type, not 67 is finished; u16 length minus 22, not below 0, is bytes due; u32 time; u16 start, end, step; 8 bytes; none due is finished; value 0'
unfoldable pub dad_scan : Scans → Rule Told
dad_scan scans = do
  type ← u16 le
  cond (eqb type 67)
      (do
        size ← u16 le
        time ← u32 le
        start ← u16 le
        end ← u16 le
        step ← u16 le
        skip 8
        cond (eqb (size - 22) 0) ends (dad_point (dad_begun scans (record { 0 = size - 22 }) time start step) (clears ∷ [])))
      ends

-- 'Otherwise wavelength += step'
abbrev pub dad_onward : ChemstationDadState → ChemstationDadState
dad_onward st = record {
  n_scans_left = st.n_scans_left;
  n_bytes_left = st.n_bytes_left;
  cur_time = st.cur_time;
  cur_intensity = st.cur_intensity;
  cur_wv = add binary64 st.cur_wv st.wv_step;
  wv_step = st.wv_step;
  stored_time = st.stored_time;
}

-- 'No scans due: finished. With no bytes due: ..'
abbrev pub dad_scanning : ChemstationDadState → Scanning
dad_scanning st = record { done = eqb st.n_scans_left.0 0; due = st.n_bytes_left.0; scan = dad_scan st.n_scans_left; point = dad_point (dad_onward st) [] }

abbrev pub dad_rule : ChemstationDadState → Rule Told
dad_rule st = scanning (dad_scanning st)
