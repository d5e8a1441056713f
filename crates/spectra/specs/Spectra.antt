-- Request 5: the atlas reading beside the plain one, of the same file; and what its end says.
use Rattle.std.specs.Prelude.{◌≡◌, ◌⊎◌, Bool, List, ℕ, ◌-◌, ◌≤◌, ◌<◌, length, take}
use Rattle.rules.specs.Rule.{refused, finished, Read, got, stops, read, map_read}
use Rattle.rules.specs.Calls.{Item, stopped, Result, result_of, opening, read_up_to}
use Rattle.chemstation.specs.Next.{rule}
use Rattle.streams.specs.declared.ChemstationDadState.{ChemstationDadState}
use Rattle.streams.specs.declared.ChemstationUvState.{ChemstationUvState}
use Rattle.streams.specs.declared.State.TheVariants.{Fid, Ms, Mwd, Dad, Uv, Array, AtlasDad, AtlasUv}
use Rattle.streams.specs.declared.State.{State}
use Rattle.streams.specs.declared.Record.{Record}
use Rattle.streams.specs.declared.Mode.{Mode}
use Rattle.streams.specs.declared.Mode.TheVariants.{Plain, Atlas}
use Rattle.streams.specs.Next.{atlas_of}
use Rattle.opening.specs.Opening.{start_rule}
use Rattle.modes.specs.Modes.{start_by}

-- ---- from Open on

-- at most n records of a file by a reading, told whether its bytes are the last, and what closes them
abbrev pub records_by : Mode → ℕ → Bool → ℕ → List ℕ → Result Record
records_by mode kind last n F = opening F (λ st bs. result_of (read_up_to rule last n st bs)) (read last (start_by mode kind) F)

-- the records of x begin those of y; and unless x ends there, the two are one
pub record BeginsSo (x y : Result Record) : Type 0 where
  pub records : x.records ≡ take (length x.records) y.records
  pub onward : ¬ (x.closing ≡ stopped finished) → y ≡ x

-- ---- every state

-- a record and the bytes that it took, or the answer: whatever state stands behind it
abbrev pub shown : Read (Item State Record) → Read Record
shown x = map_read (λ i. i.shows) x

-- a DAD state with other scans due
abbrev pub dad_with : ℕ → ChemstationDadState → ChemstationDadState
dad_with n st = record { n_scans_left = record { 0 = n }; n_bytes_left = st.n_bytes_left; cur_time = st.cur_time; cur_intensity = st.cur_intensity; cur_wv = st.cur_wv; wv_step = st.wv_step; stored_time = st.stored_time }

-- 'a scan is spent when its last point has been given': the scans due before a point and behind it, by what is then due of its scan
pub record Spends (before behind due : ℕ) : Type 0 where
  pub last : due ≡ 0 → behind ≡ before - 1
  pub within : ¬ (due ≡ 0) → behind ≡ before

-- the state behind a point is of the atlas reading, and so many scans having been due before it, has spent its scan
abbrev pub DadSpends : ℕ → State → Type 0
DadSpends k (Fid st) = ⊥
DadSpends k (Ms st) = ⊥
DadSpends k (Mwd st) = ⊥
DadSpends k (Dad st) = ⊥
DadSpends k (Uv st) = ⊥
DadSpends k (Array st) = ⊥
DadSpends k (AtlasDad st) = Spends k st.n_scans_left.0 st.n_bytes_left.0
DadSpends k (AtlasUv st) = ⊥

abbrev pub UvSpends : ℕ → State → Type 0
UvSpends k (Fid st) = ⊥
UvSpends k (Ms st) = ⊥
UvSpends k (Mwd st) = ⊥
UvSpends k (Dad st) = ⊥
UvSpends k (Uv st) = ⊥
UvSpends k (Array st) = ⊥
UvSpends k (AtlasDad st) = ⊥
UvSpends k (AtlasUv st) = Spends k st.n_scans_left.0 st.n_wvs_left.0

-- ---- the theorem

pub record WholeSpectra : Type 0 where
  -- '18, after refusal 1, where an atlas reading is opened for another kind': of any bytes, so before any is due; of DAD and UV Open's answer, its state under the atlas reading
  pub no_kind : (kind : ℕ) (last : Bool) (F : List ℕ) → ¬ ((1 ≤ kind) × (kind ≤ 6)) → read last (start_by Atlas kind) F ≡ stops (refused 1)
  pub no_atlas : (kind : ℕ) (last : Bool) (F : List ℕ) → (kind ≡ 1) ⊎ ((kind ≡ 2) ⊎ ((kind ≡ 3) ⊎ (kind ≡ 6))) → read last (start_by Atlas kind) F ≡ stops (refused 18)
  pub opened : (kind : ℕ) (last : Bool) (F : List ℕ) → (kind ≡ 4) ⊎ (kind ≡ 5) → read last (start_by Atlas kind) F ≡ map_read atlas_of (read last (start_rule kind) F)
  pub plainly : (kind : ℕ) → start_by Plain kind ≡ start_rule kind
  -- 'a DAD run ends after one point of its last scan'
  pub dad : (last : Bool) (n : ℕ) (F : List ℕ) → BeginsSo (records_by Plain 4 last n F) (records_by Atlas 4 last n F)
  -- 'UV runs of one wavelength never run out of scans'
  pub uv : (last : Bool) (n : ℕ) (F : List ℕ) → BeginsSo (records_by Atlas 5 last n F) (records_by Plain 5 last n F)
  -- with scans or bytes due the next record, or the answer, is that of the plain reading with any scans due
  pub dad_next : (st : ChemstationDadState) (k : ℕ) (last : Bool) (s : List ℕ) → 0 < k → ¬ ((st.n_scans_left.0 ≡ 0) × (st.n_bytes_left.0 ≡ 0)) →
      shown (read last (rule (Dad (dad_with k st))) s) ≡ shown (read last (rule (AtlasDad st)) s)
  pub uv_next : (st : ChemstationUvState) (last : Bool) (s : List ℕ) → shown (read last (rule (Uv st)) s) ≡ shown (read last (rule (AtlasUv st)) s)
  -- and behind a record, of every state, the reading is the same and the scan is spent with its last point
  pub dad_spends : (st : ChemstationDadState) (last : Bool) (s : List ℕ) (x : Item State Record) (n : ℕ) → read last (rule (AtlasDad st)) s ≡ got x n → DadSpends st.n_scans_left.0 x.after
  pub uv_spends : (st : ChemstationUvState) (last : Bool) (s : List ℕ) (x : Item State Record) (n : ℕ) → read last (rule (AtlasUv st)) s ≡ got x n → UvSpends st.n_scans_left.0 x.after
  -- 'DAD then ends when no scans and no bytes are due', whatever follows
  pub dad_over : (st : ChemstationDadState) (last : Bool) (s : List ℕ) → st.n_scans_left.0 ≡ 0 → st.n_bytes_left.0 ≡ 0 → read last (rule (AtlasDad st)) s ≡ stops finished
  -- where the atlas reading of DAD ends, no bytes of a scan are due; where that of UV does, no scans are
  pub dad_ends : (st : ChemstationDadState) (last : Bool) (s : List ℕ) → read last (rule (AtlasDad st)) s ≡ stops finished → st.n_bytes_left.0 ≡ 0
  pub uv_ends : (st : ChemstationUvState) (last : Bool) (s : List ℕ) → read last (rule (AtlasUv st)) s ≡ stops finished → st.n_scans_left.0 ≡ 0
