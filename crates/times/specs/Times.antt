-- Request 2: the stored time of a record's scan, in whole minutes and the milliseconds left over; and the columns that have them.
use Rattle.std.specs.Prelude.{◌≡◌, Bool, true, false, cond, List, [], ◌∷◌, ◌++◌, map, ℕ, zero, suc, ◌+◌, ◌-◌, ◌*◌, ◌/◌, ◌^◌, ◌<◌, eqb, pos, length, drop, replicate, Float}
use Rattle.std.specs.Float.{binary64}
use Rattle.std.specs.Float.Ieee.{div}
use Rattle.rules.specs.Rule.{refused, got, read}
use Rattle.rules.specs.Calls.{Item, stopped, nothing, read_up_to, Call, by_calls}
use Rattle.common.specs.Bytes.{be, le, part}
use Rattle.floats.specs.Doubles.{double}
use Rattle.floats.specs.Wholes.{IsWhole}
use Rattle.metadata.specs.Metadata.{Header}
use Rattle.streams.specs.Next.{stored_of}
use Rattle.streams.specs.declared.State.{State}
use Rattle.streams.specs.declared.State.TheVariants.{Fid, Ms, Mwd, Dad, Uv, Array, AtlasDad, AtlasUv}
use Rattle.streams.specs.declared.Record.{Record}
use Rattle.streams.specs.declared.Record.TheVariants.{Trace, Mass, Spectrum}
use Rattle.chemstation.specs.Next.{rule}
use Rattle.opening.specs.Opening.{ms_begins}
use Rattle.streams.specs.declared.Mode.{Mode}
use Rattle.modes.specs.Modes.{begins_by, start_by}
use denote.Triple.Both.{Both}
use Rattle.reader.specs.Columns.{row_of, Held, columns, columns_with, fill_of, Fills}
use Rattle.reader.specs.declared.Filled.{Filled}
use Rattle.reader.specs.declared.Row.{Row}

-- ---- the stored time of the scan that the next point belongs to, in milliseconds

-- MS: 'No points: ..one scan fewer, .. else again': behind the empty scans, of 28 bytes each; so many scans are due
abbrev pub ms_time : ℕ → List ℕ → ℕ
ms_time zero s = 0
ms_time (suc scans) s = cond (eqb ((be (part 0 2 s) - 14) / 2) 0) (ms_time scans (drop 28 s)) (be (part 2 4 s))

-- within a scan the time that the state holds; at the start of one the u32 in its head; 0 for a kind that stores none
abbrev pub scan_time : State → List ℕ → ℕ
scan_time (Fid st) s = 0
scan_time (Ms st) s = cond (eqb st.n_mzs_left.0 0) (ms_time st.n_scans_left.0 s) st.stored_time
scan_time (Mwd st) s = 0
scan_time (Dad st) s = cond (eqb st.n_bytes_left.0 0) (le (part 4 4 s)) st.stored_time
scan_time (Uv st) s = cond (eqb st.n_wvs_left.0 0) (le (part 4 4 s)) st.stored_time
scan_time (Array st) s = 0
scan_time (AtlasDad st) s = cond (eqb st.n_bytes_left.0 0) (le (part 4 4 s)) st.stored_time
scan_time (AtlasUv st) s = cond (eqb st.n_wvs_left.0 0) (le (part 4 4 s)) st.stored_time

-- 'MS, DAD and UV'
abbrev pub stores : State → Bool
stores (Fid st) = false
stores (Ms st) = true
stores (Mwd st) = false
stores (Dad st) = true
stores (Uv st) = true
stores (Array st) = false
stores (AtlasDad st) = true
stores (AtlasUv st) = true

-- ---- the double time beside it

-- a stored time in minutes: '/ 60000', rounded once
abbrev pub in_minutes : ℕ → Float
in_minutes ms = div binary64 (double ms) (double 60000)

-- within a scan the double that the state holds, of DAD / 60000, whatever stored time it holds; at the start of one the u32 in its head; not looked at for other kinds
abbrev pub scan_minutes : State → List ℕ → Float
scan_minutes (Fid st) s = double 0
scan_minutes (Ms st) s = cond (eqb st.n_mzs_left.0 0) (in_minutes (ms_time st.n_scans_left.0 s)) st.cur_time
scan_minutes (Mwd st) s = double 0
scan_minutes (Dad st) s = cond (eqb st.n_bytes_left.0 0) (in_minutes (le (part 4 4 s))) (div binary64 st.cur_time (double 60000))
scan_minutes (Uv st) s = cond (eqb st.n_wvs_left.0 0) (in_minutes (le (part 4 4 s))) st.cur_time
scan_minutes (Array st) s = double 0
scan_minutes (AtlasDad st) s = cond (eqb st.n_bytes_left.0 0) (in_minutes (le (part 4 4 s))) (div binary64 st.cur_time (double 60000))
scan_minutes (AtlasUv st) s = cond (eqb st.n_wvs_left.0 0) (in_minutes (le (part 4 4 s))) st.cur_time

abbrev pub HasTime : Record → Float → Type 0
HasTime (Trace t u s) x = Unit
HasTime (Mass t m u s min left) x = t ≡ x
HasTime (Spectrum t w u s min left) x = t ≡ x

-- ---- what a record carries

-- 'the leftover below 60,000 and minutes × 60,000 + leftover equal to it'
pub record Splits (min left ms : ℕ) : Type 0 where
  pub sum : min * 60000 + left ≡ ms
  pub below : left < 60000

-- a record of a kind that stores a time, or of one that does not
abbrev pub Carries : Bool → Record → ℕ → Type 0
Carries true (Trace t u s) ms = ⊥
Carries true (Mass t m u s min left) ms = Splits min left ms
Carries true (Spectrum t w u s min left) ms = Splits min left ms
Carries false (Trace t u s) ms = Unit
Carries false (Mass t m u s min left) ms = ⊥
Carries false (Spectrum t w u s min left) ms = ⊥

-- and its row of the two columns
abbrev pub CarriesRow : Bool → Row → ℕ → Type 0
CarriesRow true r ms = Splits r.minutes r.leftover ms
CarriesRow false r ms = (r.minutes ≡ 0) × (r.leftover ≡ 0)

-- a record from a state and bytes: what it carries, its double, and what the state after it holds
pub record Stamped (st : State) (s : List ℕ) (x : Item State Record) : Type 0 where
  pub carries : Carries (stores st) x.shows (scan_time st s)
  pub shows : HasTime x.shows (scan_minutes st s)
  pub holds : stored_of x.after ≡ scan_time st s
  pub kind : stores x.after ≡ stores st

-- ---- the two together

-- a record's double is its stored time / 60000, rounded once
abbrev pub Timed : Record → Type 0
Timed (Trace t u s) = Unit
Timed (Mass t m u s min left) = t ≡ in_minutes (min * 60000 + left)
Timed (Spectrum t w u s min left) = t ≡ in_minutes (min * 60000 + left)

-- a state whose double is its stored time; DAD holds milliseconds
abbrev pub Agrees : State → Type 0
Agrees (Fid st) = Unit
Agrees (Ms st) = st.cur_time ≡ in_minutes st.stored_time
Agrees (Mwd st) = Unit
Agrees (Dad st) = st.cur_time ≡ double st.stored_time
Agrees (Uv st) = st.cur_time ≡ in_minutes st.stored_time
Agrees (Array st) = Unit
Agrees (AtlasDad st) = st.cur_time ≡ double st.stored_time
Agrees (AtlasUv st) = st.cur_time ≡ in_minutes st.stored_time

abbrev pub All : (Record → Type 0) → List Record → Type 0
All P [] = Unit
All P (r ∷ rs) = P r × All P rs

-- ---- the length check

-- all six of one length
pub record OneLength (c : Held) : Type 0 where
  pub axis : length c.axis ≡ length c.time
  pub unscaled : length c.unscaled ≡ length c.time
  pub scaled : length c.scaled ≡ length c.time
  pub minutes : length c.minutes ≡ length c.time
  pub leftover : length c.leftover ≡ length c.time

-- ---- a run to look at

-- two MS scans, the first without points: one minute; then two points at 125,001 milliseconds
unfoldable pub shown_run : List ℕ
shown_run = (0 ∷ 14 ∷ 0 ∷ 0 ∷ 234 ∷ 96 ∷ replicate 22 0) ++ (0 ∷ 18 ∷ 0 ∷ 1 ∷ 232 ∷ 73 ∷ (replicate 12 0 ++ (0 ∷ 0 ∷ 0 ∷ 1 ∷ 0 ∷ 0 ∷ 0 ∷ 2 ∷ replicate 10 0)))

-- its records, in columns of three places that held 7
abbrev pub shown_columns : Held
shown_columns = columns_with (read_up_to rule true 3 (ms_begins (record { 0 = 2 })) shown_run).records (columns [] [] [] [] (7 ∷ 7 ∷ 7 ∷ []) (7 ∷ 7 ∷ 7 ∷ []))

-- ---- the theorem

pub record StoredTimes : Type 0 where
  -- every record, from every state
  pub next : (st : State) (last : Bool) (s : List ℕ) (x : Item State Record) (n : ℕ) → read last (rule st) s ≡ got x n → Stamped st s x
  -- Open sets the integer to 0, and the double with it, by either reading; a record keeps the two together, told last or not
  pub opens : (mode : Mode) (kind : ℕ) (x : Header) → (stored_of (begins_by mode kind x) ≡ 0) × Agrees (begins_by mode kind x)
  pub keeps : (st : State) (last : Bool) (s : List ℕ) (x : Item State Record) (n : ℕ) → read last (rule st) s ≡ got x n → Agrees st → Timed x.shows × Agrees x.after
  -- what the contract of Fill columns says of its answer and its columns is what stands below of `fill_of` and `columns_with`
  pub fills : (st : State) (s : List ℕ) (last : Bool) (r : Filled) (c : Both Held Held) → Fills st s last r c →
      let g = fill_of st s last c.entry in
      (r.count ≡ length g.records) × ((r.state ≡ g.state) × (c.exit ≡ columns_with g.records c.entry))
  -- so from Open on, whatever the calls that are told that their bytes are not the last, and in one reading told either
  pub calls : (mode : Mode) (kind : ℕ) (cs : List Call) (F : List ℕ) → All Timed (by_calls rule (start_by mode kind) cs F).records
  pub reads : (mode : Mode) (kind : ℕ) (x : Header) (last : Bool) (n : ℕ) (s : List ℕ) → All Timed (read_up_to rule last n (begins_by mode kind x) s).records
  -- a u32 is a double without rounding, so that the division's is the one
  pub exact : (ms : ℕ) → ms < 2 ^ 32 → IsWhole binary64 (double ms) (pos ms)
  -- what a record carries stands in its row, and the rows stand in the two columns
  pub columns : (rs : List Record) (old : Held) →
      ((columns_with rs old).minutes ≡ map (λ r. (row_of r).minutes) rs ++ drop (length rs) old.minutes) × ((columns_with rs old).leftover ≡ map (λ r. (row_of r).leftover) rs ++ drop (length rs) old.leftover)
  pub rows : (b : Bool) (r : Record) (ms : ℕ) → Carries b r ms → CarriesRow b (row_of r) ms
  -- 'kinds without a stored time write 0 in both', up to the count
  pub zeros : (st : State) → stores st ≡ false → (last : Bool) (n : ℕ) (s : List ℕ) (old : Held) →
      let rs = (read_up_to rule last n st s).records in
      ((columns_with rs old).minutes ≡ replicate (length rs) 0 ++ drop (length rs) old.minutes) × ((columns_with rs old).leftover ≡ replicate (length rs) 0 ++ drop (length rs) old.leftover)
  -- 'under the same length check as the others': one, over all six; where it fails nothing is written
  pub equal : (st : State) (s : List ℕ) (last : Bool) (c : Held) → OneLength c → fill_of st s last c ≡ read_up_to rule last (length c.time) st s
  pub unequal : (st : State) (s : List ℕ) (last : Bool) (c : Held) → ¬ OneLength c → fill_of st s last c ≡ nothing st (stopped (refused 15))
  pub unwritten : (c : Held) → columns_with [] c ≡ c
  -- 2 minutes and 5,001 milliseconds, twice, and the third place as it was
  pub shown : (shown_columns.minutes ≡ 2 ∷ 2 ∷ 7 ∷ []) × (shown_columns.leftover ≡ 5001 ∷ 5001 ∷ 7 ∷ [])
