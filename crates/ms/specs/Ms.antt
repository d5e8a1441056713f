-- MS (FORMAT 5.3): the fields of a record, in their order, each check as soon as its field is read.
use Rattle.std.specs.Prelude.{cond, [], ◌∷◌, ℕ, zero, suc, ◌-◌, ◌*◌, ◌/◌, ◌%◌, ◌^◌, eqb, ltb, pos, Float}
use Rattle.rules.specs.Rule.{Rule, gives, refuses, ends, ◌>>=◌, ◌>>◌, skip}
use Rattle.common.specs.Bytes.{be}
use Rattle.common.specs.Fields.{u16, u32}
use Rattle.floats.specs.Doubles.{double, minutes}
use Rattle.streams.specs.Changes.{Change, becomes}
use Rattle.streams.specs.Told.{Made, Told, told, twentieths, whole_minutes, leftover}
use Rattle.streams.specs.Scanning.{Scanning, scanning}
use Rattle.streams.specs.declared.ChemstationMsState.{ChemstationMsState}
use Rattle.streams.specs.declared.Scans.{Scans}
use Rattle.streams.specs.declared.Points.{Points}
use Rattle.streams.specs.declared.State.TheVariants.{Ms}
use Rattle.streams.specs.declared.Record.TheVariants.{Mass}

-- 'u16 / 20 is m/z'; 'Scaled equals unscaled': the scans and points due after a point, its time, in minutes and as stored, and its m/z in twentieths
abbrev pub ms_made : Scans → Points → Float → ℕ → ℕ → Made
ms_made scans points time stored m = record {
  shows = λ y. Mass time (twentieths m) y y (whole_minutes stored) (leftover stored);
  then = λ s. Ms (record { n_scans_left = scans; n_mzs_left = points; cur_time = time; cur_intensity = s.value; stored_time = stored });
}

-- 'u16 r gives (r mod 16384) × 8^(r / 16384 rounded down)'
abbrev pub ms_value : ℕ → Change
ms_value r = becomes (pos (r % 16384 * 8 ^ (r / 16384)))

-- 'After a scan's last point, 10 footer bytes belong to that same record and the scan is debited'
unfoldable pub ms_point : Scans → Points → Float → ℕ → Rule Told
ms_point scans points time stored = do
  m ← u16 be
  r ← u16 be
  cond (eqb points.0 1)
      (skip 10 >> gives (told (ms_made (record { 0 = scans.0 - 1 }) (record { 0 = 0 }) time stored m) (ms_value r ∷ [])))
      (gives (told (ms_made scans (record { 0 = points.0 - 1 }) time stored m) (ms_value r ∷ [])))

-- 'u16 c, points (c − 14)/2 rounded down, u32 time / 60000, 12 bytes. No points: 10 footer bytes, one scan fewer, finished at none, else again'
unfoldable pub ms_scans : ℕ → Rule Told
ms_scans zero = ends
ms_scans (suc scans) = do
  c ← u16 be
  cond (ltb c 14) (refuses 11)
      (do
        time ← u32 be
        skip 12
        cond (eqb ((c - 14) / 2) 0)
            (skip 10 >> ms_scans scans)
            (ms_point (record { 0 = suc scans }) (record { 0 = (c - 14) / 2 }) (minutes (double time)) time))

-- 'No scans due: finished. With no points due: ..'
abbrev pub ms_scanning : ChemstationMsState → Scanning
ms_scanning st = record {
  done = eqb st.n_scans_left.0 0;
  due = st.n_mzs_left.0;
  scan = ms_scans st.n_scans_left.0;
  point = ms_point st.n_scans_left st.n_mzs_left st.cur_time st.stored_time;
}

abbrev pub ms_rule : ChemstationMsState → Rule Told
ms_rule st = scanning (ms_scanning st)
