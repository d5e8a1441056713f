-- Exact readings from any state before its first record: what demand 3's clause on exactness is proved from, and no part of it.
use Rattle.std.specs.Prelude.{◌≡◌, Bool, List, ℕ}
use Rattle.rules.specs.Calls.{read_up_to}
use Rattle.common.specs.Bytes.{AreBytes}
use Rattle.floats.specs.Doubles.{double}
use Rattle.floats.specs.Wholes.{flat, doubles}
use Rattle.streams.specs.Next.{sum_of}
use Rattle.chemstation.specs.Next.{rule}
use Rattle.streams.specs.declared.State.{State}
use Rattle.streams.specs.declared.State.TheVariants.{Fid, Ms, Mwd, Dad, Uv, Array, AtlasDad, AtlasUv}
use Rattle.whole.specs.Whole.{whole_rule, at_open, AllExact}

-- points or bytes due
abbrev pub due_of : State → ℕ
due_of (Fid st) = 0
due_of (Ms st) = st.n_mzs_left.0
due_of (Mwd st) = st.n_wvs_left.0
due_of (Dad st) = st.n_bytes_left.0
due_of (Uv st) = st.n_wvs_left.0
due_of (Array st) = 0
due_of (AtlasDad st) = st.n_bytes_left.0
due_of (AtlasUv st) = st.n_wvs_left.0

-- 'At Open each .. value, slope .. and count for which no start is given below is 0'
pub record Begins (st : State) : Type 0 where
  pub sum : sum_of st ≡ flat doubles (double 0)
  pub due : due_of st ≡ 0

-- the records of a reading, and those of the same reading in whole numbers
abbrev pub ExactReadings : Type 0
ExactReadings = (st : State) → Begins st → (last : Bool) (n : ℕ) (bs : List ℕ) → AreBytes bs →
    AllExact (read_up_to rule last n st bs).records (read_up_to whole_rule last n (at_open st) bs).records
