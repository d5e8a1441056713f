-- FID (FORMAT 5.1): the fields of a record, in their order.
use Rattle.std.specs.Prelude.{cond, [], ◌∷◌, pos}
use Rattle.std.specs.Float.{binary64}
use Rattle.std.specs.Float.Ieee.{add}
use Rattle.rules.specs.Rule.{Rule, gives, ◌>>=◌, may_end}
use Rattle.common.specs.Bytes.{be}
use Rattle.common.specs.Fields.{u16, i16, i32}
use Rattle.streams.specs.Changes.{slopes, restarts}
use Rattle.streams.specs.Told.{Made, Told, told, corrected, is_int}
use Rattle.streams.specs.declared.ChemstationFidState.{ChemstationFidState}
use Rattle.streams.specs.declared.State.TheVariants.{Fid}
use Rattle.streams.specs.declared.Record.TheVariants.{Trace}

-- 'Time .. grows by 0.2 a record'
abbrev pub fid_made : ChemstationFidState → Made
fid_made st =
    let time = add binary64 st.cur_time st.time_step in
    record {
      shows = λ y. Trace time y (corrected st.mult_correction st.offset_correction y);
      then = λ s. Fid (record {
        cur_time = time;
        cur_delta = s.slope;
        cur_intensity = s.value;
        time_step = st.time_step;
        mult_correction = st.mult_correction;
        offset_correction = st.offset_correction;
      });
    }

-- 'i16 v. If 32767: i32 high, u16 low, value high × 65534 + low, slope 0. Else slope += v, value += slope'
unfoldable pub fid_rule : ChemstationFidState → Rule Told
fid_rule st = may_end do
  v ← i16 be
  cond (is_int v (pos 32767))
      (do
        high ← i32 be
        low ← u16 be
        gives (told (fid_made st) (restarts high low ∷ [])))
      (gives (told (fid_made st) (slopes v ∷ [])))
