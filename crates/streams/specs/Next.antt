-- What Next record answers, by a state and the rule of its fields.
use Rattle.std.specs.Prelude.{ℕ, Float, Result, Ok, Err}
use Rattle.rules.specs.Rule.{Rule, map_rule, Read, got, stops}
use Rattle.rules.specs.Calls.{Item}
use Rattle.error.specs.Number.{stop_of}
use Rattle.floats.specs.Wholes.{Sum, flat, doubles}
use Rattle.streams.specs.Changes.{after}
use Rattle.streams.specs.Told.{Made, Told}
use Rattle.streams.specs.declared.State.{State}
use Rattle.streams.specs.declared.State.TheVariants.{Fid, Ms, Mwd, Dad, Uv, Array, AtlasDad, AtlasUv}
use Rattle.streams.specs.declared.Record.{Record}
use Rattle.streams.specs.declared.Record.TheVariants.{Trace, Mass, Spectrum}
use Rattle.error.specs.declared.Stopped.{Stopped}
use Rattle.streams.specs.declared.Given.{Given}

-- the value that runs on, and its slope: only FID has one
abbrev pub sum_of : State → Sum Float
sum_of (Fid st) = record { slope = st.cur_delta; value = st.cur_intensity }
sum_of (Ms st) = flat doubles st.cur_intensity
sum_of (Mwd st) = flat doubles st.cur_intensity
sum_of (Dad st) = flat doubles st.cur_intensity
sum_of (Uv st) = flat doubles st.cur_intensity
sum_of (Array st) = flat doubles st.cur_intensity
sum_of (AtlasDad st) = flat doubles st.cur_intensity
sum_of (AtlasUv st) = flat doubles st.cur_intensity

-- in doubles: the record and the state that a state's value makes with what the fields tell
abbrev pub item_of : Made → Sum Float → Item State Record
item_of m s = record { shows = m.shows s.value; after = m.then s }

abbrev pub stepped : Sum Float → Told → Item State Record
stepped s t = item_of t.makes (after doubles s t.does)

-- the rule of a state's next record, by the rule of its fields
abbrev pub rule_by : State → Rule Told → Rule (Item State Record)
rule_by st fields = map_rule (stepped (sum_of st)) fields

-- a record's unscaled intensity
abbrev pub unscaled_of : Record → Float
unscaled_of (Trace t u s) = u
unscaled_of (Mass t m u s min left) = u
unscaled_of (Spectrum t w u s min left) = u

-- the stored time of the scan, in milliseconds; 0 where the kind has none
abbrev pub stored_of : State → ℕ
stored_of (Fid st) = 0
stored_of (Ms st) = st.stored_time
stored_of (Mwd st) = 0
stored_of (Dad st) = st.stored_time
stored_of (Uv st) = st.stored_time
stored_of (Array st) = 0
stored_of (AtlasDad st) = st.stored_time
stored_of (AtlasUv st) = st.stored_time

-- request 5: the state of the atlas reading at the place of a plain one; a kind without such a reading keeps its own
abbrev pub atlas_of : State → State
atlas_of (Fid st) = Fid st
atlas_of (Ms st) = Ms st
atlas_of (Mwd st) = Mwd st
atlas_of (Dad st) = AtlasDad st
atlas_of (Uv st) = AtlasUv st
atlas_of (Array st) = Array st
atlas_of (AtlasDad st) = AtlasDad st
atlas_of (AtlasUv st) = AtlasUv st

-- what an answer says
abbrev pub answer_of : Result Given Stopped → Read (Item State Record)
answer_of (Ok g) = got (record { shows = g.«record»; after = g.state }) g.bytes
answer_of (Err z) = stops (stop_of z)
