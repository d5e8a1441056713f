-- UV (FORMAT 5.5): the fields of a record, in their order, each check as soon as its field is read.
use Rattle.std.specs.Prelude.{cond, List, [], ◌∷◌, ◌++◌, ℕ, ◌+◌, ◌-◌, ◌/◌, eqb, ltb}
use Rattle.std.specs.Float.{binary64}
use Rattle.std.specs.Float.Ieee.{add, sub, mul}
use Rattle.rules.specs.Rule.{Rule, refuses, ◌>>=◌, ◌>>◌, skip, map_rule}
use Rattle.common.specs.Bytes.{le}
use Rattle.common.specs.Fields.{u16, u32}
use Rattle.floats.specs.Doubles.{double, minutes}
use Rattle.streams.specs.Changes.{Change, clears}
use Rattle.streams.specs.Told.{Made, Told, told, twentieths, whole_minutes, leftover, delta, change_of}
use Rattle.streams.specs.Scanning.{Scanning, scanning}
use Rattle.streams.specs.declared.ChemstationUvState.{ChemstationUvState}
use Rattle.streams.specs.declared.Scans.{Scans}
use Rattle.streams.specs.declared.State.TheVariants.{Uv}
use Rattle.streams.specs.declared.Record.TheVariants.{Spectrum}

-- 'Each point adds the step'; 'Scaled: value × multiplier, no offset': a state before a point, and the scans that are due after it
abbrev pub uv_made : ChemstationUvState → Scans → Made
uv_made st scans =
    let here = add binary64 st.cur_wv st.wv_step in
    record {
      shows = λ y. Spectrum st.cur_time here y (mul binary64 y st.mult_correction) (whole_minutes st.stored_time) (leftover st.stored_time);
      then = λ s. Uv (record {
        n_scans_left = scans;
        n_wvs_left = record { 0 = st.n_wvs_left.0 - 1 };
        cur_time = st.cur_time;
        cur_intensity = s.value;
        cur_wv = here;
        wv_step = st.wv_step;
        mult_correction = st.mult_correction;
        stored_time = st.stored_time;
      });
    }

unfoldable pub uv_point : ChemstationUvState → Scans → List Change → Rule Told
uv_point st scans first = map_rule (λ d. told (uv_made st scans) (first ++ (change_of d ∷ []))) (delta le)

-- a scan before its first point: 'u32 time / 60000 ..; points (end − start)/step rounded down, plus 1; step / 20; wavelength start / 20 − that'. The value is cleared by the rule (`clears`)
abbrev pub uv_begun : ChemstationUvState → ℕ → ℕ → ℕ → ℕ → ChemstationUvState
uv_begun st time start end step = record {
  n_scans_left = st.n_scans_left;
  n_wvs_left = record { 0 = (end - start) / step + 1 };
  cur_time = minutes (double time);
  cur_intensity = double 0;
  cur_wv = sub binary64 (twentieths start) (twentieths step);
  wv_step = twentieths step;
  mult_correction = st.mult_correction;
  stored_time = time;
}

-- '4 bytes, u32 time .., u16 start, end, step; ..; value 0; 8 bytes'; '12: UV start above end. 13: UV step 0'
unfoldable pub uv_scan : ChemstationUvState → Rule Told
uv_scan st = do
  skip 4
  time ← u32 le
  start ← u16 le
  end ← u16 le
  cond (ltb end start) (refuses 12)
      (do
        step ← u16 le
        cond (eqb step 0) (refuses 13)
            (do
              skip 8
              uv_point (uv_begun st time start end step) st.n_scans_left (clears ∷ [])))

-- 'A scan is debited when one point was due before the call, so one-point scans never are'
abbrev pub uv_left : ChemstationUvState → Scans
uv_left st = record { 0 = cond (eqb st.n_wvs_left.0 1) (st.n_scans_left.0 - 1) st.n_scans_left.0 }

-- 'No scans due: finished. With no points due: ..'
abbrev pub uv_scanning : ChemstationUvState → Scanning
uv_scanning st = record { done = eqb st.n_scans_left.0 0; due = st.n_wvs_left.0; scan = uv_scan st; point = uv_point st (uv_left st) [] }

abbrev pub uv_rule : ChemstationUvState → Rule Told
uv_rule st = scanning (uv_scanning st)
