-- MWD (FORMAT 5.2): the fields of a record, in their order.
use Rattle.std.specs.Prelude.{cond, [], ◌∷◌, ◌-◌, ◌%◌, eqb}
use Rattle.std.specs.Float.{binary64}
use Rattle.std.specs.Float.Ieee.{add}
use Rattle.rules.specs.Rule.{Rule, ends, ◌>>=◌, may_end, map_rule}
use Rattle.common.specs.Bytes.{be}
use Rattle.common.specs.Fields.{u16}
use Rattle.streams.specs.Told.{Made, Told, told, corrected, delta, change_of}
use Rattle.streams.specs.declared.ChemstationMwdState.{ChemstationMwdState}
use Rattle.streams.specs.declared.Points.{Points}
use Rattle.streams.specs.declared.State.TheVariants.{Mwd}
use Rattle.streams.specs.declared.Record.TheVariants.{Trace}

-- 'Time as FID'; 'Scaled as FID'; 'The value runs on over groups'
abbrev pub mwd_made : ChemstationMwdState → Points → Made
mwd_made st points =
    let time = add binary64 st.cur_time st.time_step in
    record {
      shows = λ y. Trace time y (corrected st.mult_correction st.offset_correction y);
      then = λ s. Mwd (record {
        n_wvs_left = points;
        cur_time = time;
        cur_intensity = s.value;
        time_step = st.time_step;
        mult_correction = st.mult_correction;
        offset_correction = st.offset_correction;
      });
    }

unfoldable pub mwd_point : ChemstationMwdState → Points → Rule Told
mwd_point st points = map_rule (λ d. told (mwd_made st (record { 0 = points.0 - 1 })) (change_of d ∷ [])) (delta be)

-- 'With no points due, a u16 whose low 12 bits count points; 0 is finished'
unfoldable pub mwd_rule : ChemstationMwdState → Rule Told
mwd_rule st =
    let points = st.n_wvs_left in
    may_end (cond (eqb points.0 0)
    (do
      group ← u16 be
      cond (eqb (group % 4096) 0) ends (mwd_point st (record { 0 = group % 4096 })))
    (mwd_point st points))
