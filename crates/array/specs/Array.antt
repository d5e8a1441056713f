-- Array (FORMAT 5.6): a record is one stored number.
use Rattle.std.specs.Prelude.{cond, [], ◌-◌, eqb, Float}
use Rattle.std.specs.Float.{binary32, binary64}
use Rattle.std.specs.Float.Ieee.{add, mul, of_bits}
use Rattle.rules.specs.Rule.{Rule, ends, bytes_as, map_rule}
use Rattle.common.specs.Bytes.{le}
use Rattle.streams.specs.Told.{Made, Told, told}
use Rattle.streams.specs.declared.ChemstationArrayState.{ChemstationArrayState}
use Rattle.streams.specs.declared.ChemstationArrayRecordType.{ChemstationArrayRecordType}
use Rattle.streams.specs.declared.ChemstationArrayRecordType.TheVariants.{Float32Array, Float64Array}
use Rattle.streams.specs.declared.State.TheVariants.{Array}
use Rattle.streams.specs.declared.Record.TheVariants.{Trace}

-- 'Time .. grows before each record. Unscaled is the stored number; scaled × multiplier'; 'each record is one scan fewer'
abbrev pub array_made : ChemstationArrayState → Float → Made
array_made st x =
    let time = add binary64 st.cur_time st.time_step in
    record {
      shows = λ y. Trace time x (mul binary64 x st.mult_correction);
      then = λ s. Array (record {
        record_type = st.record_type;
        n_scans_left = record { 0 = st.n_scans_left.0 - 1 };
        cur_time = time;
        cur_intensity = x;
        time_step = st.time_step;
        mult_correction = st.mult_correction;
      });
    }

-- 'LE f64 if .., else LE f32 widened'
abbrev pub stored : ChemstationArrayRecordType → Rule Float
stored Float64Array = bytes_as 8 λ b. of_bits binary64 (le b)
stored Float32Array = bytes_as 4 λ b. of_bits binary32 (le b)

unfoldable pub array_rule : ChemstationArrayState → Rule Told
array_rule st = cond (eqb st.n_scans_left.0 0) ends (map_rule (λ x. told (array_made st x) []) (stored st.record_type))
