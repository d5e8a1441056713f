-- The atlas reading of DAD and UV (request 5; FORMAT 5.7): the fields of a record are those of the plain reading; what differs is when a scan is spent, and when DAD ends.
use Rattle.std.specs.Prelude.{Bool, cond, ◌&&◌, ℕ, ◌-◌, eqb, Option, Some, None}
use Rattle.rules.specs.Rule.{Rule, map_rule}
use Rattle.rules.specs.Calls.{Item}
use Rattle.streams.specs.Told.{Told}
use Rattle.streams.specs.declared.ChemstationDadState.{ChemstationDadState}
use Rattle.streams.specs.declared.ChemstationUvState.{ChemstationUvState}
use Rattle.streams.specs.declared.Scans.{Scans}
use Rattle.streams.specs.declared.State.{State}
use Rattle.streams.specs.declared.State.TheVariants.{Fid, Ms, Mwd, Dad, Uv, Array, AtlasDad, AtlasUv}
use Rattle.streams.specs.declared.Record.{Record}
use Rattle.dad.specs.Dad.{dad_rule}
use Rattle.uv.specs.Uv.{uv_rule}

-- 'a scan is spent when its last point has been given': the scans due after a point, by those before it and by the bytes or points that are then due of its scan
abbrev pub spent : ℕ → ℕ → ℕ
spent scans due = cond (eqb due 0) (scans - 1) scans

-- a state after a point, so many scans having been due before it
abbrev pub dad_spent : ℕ → ChemstationDadState → ChemstationDadState
dad_spent scans st = record {
  n_scans_left = record { 0 = spent scans st.n_bytes_left.0 };
  n_bytes_left = st.n_bytes_left;
  cur_time = st.cur_time;
  cur_intensity = st.cur_intensity;
  cur_wv = st.cur_wv;
  wv_step = st.wv_step;
  stored_time = st.stored_time;
}

abbrev pub uv_spent : ℕ → ChemstationUvState → ChemstationUvState
uv_spent scans st = record {
  n_scans_left = record { 0 = spent scans st.n_wvs_left.0 };
  n_wvs_left = st.n_wvs_left;
  cur_time = st.cur_time;
  cur_intensity = st.cur_intensity;
  cur_wv = st.cur_wv;
  wv_step = st.wv_step;
  mult_correction = st.mult_correction;
  stored_time = st.stored_time;
}

-- the state after a point, by the one that the plain rule makes and the scans due before the point: what the plain rule did to these is not looked at
abbrev pub atlas_after : ℕ → State → State
atlas_after scans (Dad st) = AtlasDad (dad_spent scans st)
atlas_after scans (Uv st) = AtlasUv (uv_spent scans st)
-- no point of DAD or UV leads to another kind
atlas_after scans (Fid st) = Fid st
atlas_after scans (Ms st) = Ms st
atlas_after scans (Mwd st) = Mwd st
atlas_after scans (Array st) = Array st
atlas_after scans (AtlasDad st) = AtlasDad st
atlas_after scans (AtlasUv st) = AtlasUv st

-- what the fields of a point tell: the same record, and that state
abbrev pub atlas_told : ℕ → Told → Told
atlas_told scans t = record { does = t.does; makes = record { shows = t.makes.shows; then = λ s. atlas_after scans (t.makes.then s) } }

abbrev pub atlas_item : ℕ → Item State Record → Item State Record
atlas_item scans x = record { shows = x.shows; after = atlas_after scans x.after }

-- 'DAD then ends when no scans and no bytes are due'
abbrev pub dad_done : ChemstationDadState → Bool
dad_done st = eqb st.n_scans_left.0 0 && eqb st.n_bytes_left.0 0

-- the state that the plain rule is asked with: it ends where no scans are due, and goes on where one is
abbrev pub scan_due : ChemstationDadState → ChemstationDadState
scan_due st = record {
  n_scans_left = record { 0 = cond (dad_done st) 0 1 };
  n_bytes_left = st.n_bytes_left;
  cur_time = st.cur_time;
  cur_intensity = st.cur_intensity;
  cur_wv = st.cur_wv;
  wv_step = st.wv_step;
  stored_time = st.stored_time;
}

-- '.. or as before at another type or a scan without points'
abbrev pub atlas_dad_rule : ChemstationDadState → Rule Told
atlas_dad_rule st = map_rule (atlas_told st.n_scans_left.0) (dad_rule (scan_due st))

-- UV ends as before: 'No scans due: finished'
abbrev pub atlas_uv_rule : ChemstationUvState → Rule Told
atlas_uv_rule st = map_rule (atlas_told st.n_scans_left.0) (uv_rule st)

-- ---- what the code asks for: a state's reading, and the plain state at its place

-- the scans due before a point, of an atlas state
abbrev pub debit_of : State → Option Scans
debit_of (AtlasDad st) = Some st.n_scans_left
debit_of (AtlasUv st) = Some st.n_scans_left
debit_of (Fid st) = None
debit_of (Ms st) = None
debit_of (Mwd st) = None
debit_of (Dad st) = None
debit_of (Uv st) = None
debit_of (Array st) = None

-- the state that the plain rule is asked with
abbrev pub plain_of : State → State
plain_of (AtlasDad st) = Dad (scan_due st)
plain_of (AtlasUv st) = Uv st
plain_of (Fid st) = Fid st
plain_of (Ms st) = Ms st
plain_of (Mwd st) = Mwd st
plain_of (Dad st) = Dad st
plain_of (Uv st) = Uv st
plain_of (Array st) = Array st

-- the scans due after a point, by those that the plain rule leaves and by what is then due
abbrev pub scans_by : Option Scans → Scans → ℕ → Scans
scans_by None scans due = scans
scans_by (Some before) scans due = record { 0 = spent before.0 due }

-- a state after a point of the plain rule, and a record with it, as the reading has them
abbrev pub after_by : Option Scans → State → State
after_by None st = st
after_by (Some before) st = atlas_after before.0 st

abbrev pub item_by : Option Scans → Item State Record → Item State Record
item_by debit x = record { shows = x.shows; after = after_by debit x.after }
