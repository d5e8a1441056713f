-- What every record of a kind keeps: its value in doubles is the added-up value while the deltas are few; and in MS, DAD and UV they are.
use mathlib.Core.Path.{◌≡◌, refl, sym, ap, ◌∙◌}
use mathlib.Core.List.{List, [], ◌∷◌, ◌++◌, foldl, foldl-append}
use Prim.Native.Nat.{ℕ, zero, suc, ◌+◌, ◌-◌, ◌*◌, ◌/◌, ◌%◌, ◌^◌, ◌≤◌, ◌<◌}
use native.Mathlib.Nat.{le_trans, pow-le-pow_right, mul-le-mul, div-le_self}
use native.Mathlib.Omega.{arith}
use lib.IntN.{ℤ, pos, negsuc}
use lib.Dec.{eqb, ltb}
use lib.Ieee.{Float, binary64}
use borrow.Author.Tests.{eqb-false}
use Rattle.rules.specs.Rule.{map_rule}
use Rattle.common.proofs.Sizes.{Order, be_below, le_below}
use Rattle.common.proofs.Every.{Every, at_gives, at_refuses, at_ends, every_then, every_cond, every_may_end, any, unsigned, twos_complement}
use Rattle.floats.specs.Doubles.{double}
use Rattle.floats.specs.Wholes.{IsWhole, Sum, flat, doubles, wholes}
use Rattle.floats.proofs.Running.{sloping_step, sloping_within, restart}
use Rattle.streams.specs.Changes.{Change, clears, slopes, restarts, changed, after}
use Rattle.streams.specs.Told.{Made, Told, told, is_int, delta, change_of}
use Rattle.dad.specs.Dad.{width_of}
use Rattle.chemstation.specs.Next.{fields}
use Rattle.streams.specs.Next.{sum_of, unscaled_of}
use Rattle.fid.specs.Fid.{fid_made, fid_rule}
use Rattle.ms.specs.Ms.{ms_made, ms_value, ms_point, ms_scans, ms_scanning, ms_rule}
use Rattle.mwd.specs.Mwd.{mwd_point, mwd_rule}
use Rattle.dad.specs.Dad.{dad_point, dad_begun, dad_scan, dad_onward, dad_scanning, dad_rule}
use Rattle.uv.specs.Uv.{uv_point, uv_begun, uv_scan, uv_left, uv_scanning, uv_rule}
use Rattle.array.specs.Array.{array_made, stored, array_rule}
use Rattle.atlas.specs.Atlas.{atlas_after, atlas_told, scan_due}
use Rattle.streams.specs.Next.{stepped}
use Rattle.whole.specs.Whole.{deltas_after, summed, Within}
use Rattle.whole.specs.Readings.{due_of, Begins}
use Rattle.streams.specs.declared.ChemstationFidState.{ChemstationFidState}
use Rattle.streams.specs.declared.ChemstationMsState.{ChemstationMsState}
use Rattle.streams.specs.declared.ChemstationMwdState.{ChemstationMwdState}
use Rattle.streams.specs.declared.ChemstationDadState.{ChemstationDadState}
use Rattle.streams.specs.declared.ChemstationUvState.{ChemstationUvState}
use Rattle.streams.specs.declared.ChemstationArrayState.{ChemstationArrayState}
use Rattle.streams.specs.declared.ChemstationArrayRecordType.{ChemstationArrayRecordType}
use Rattle.streams.specs.declared.ChemstationArrayRecordType.TheVariants.{Float32Array, Float64Array}
use Rattle.streams.specs.Scanning.{Scanning, scanning}
use Rattle.streams.specs.declared.Scans.{Scans}
use Rattle.streams.specs.declared.Points.{Points}
use Rattle.streams.specs.declared.Delta.{Delta}
use Rattle.streams.specs.declared.Delta.TheVariants.{By, Absolute}
use Rattle.streams.specs.declared.State.{State}
use Rattle.streams.specs.declared.State.TheVariants.{Fid, Ms, Mwd, Dad, Uv, Array, AtlasDad, AtlasUv}
use Rattle.whole.proofs.Adding.{Adds, Fair, AllFair, all_fair, adds_start, adds_all, Slopes, slopes_start}

-- a state's value, the added-up value and its deltas
abbrev pub Holds : State → Sum ℤ → ℕ → Type 0
Holds (Fid st) w n = Slopes (sum_of (Fid st)) w n
Holds (Ms st) w n = Adds (sum_of (Ms st)) w n × (n ≤ 0)
Holds (Mwd st) w n = Adds (sum_of (Mwd st)) w n
Holds (Dad st) w n = Adds (sum_of (Dad st)) w n × (2 * n + due_of (Dad st) ≤ 65536)
Holds (Uv st) w n = Adds (sum_of (Uv st)) w n × (n + due_of (Uv st) ≤ 65536)
Holds (Array st) w n = Unit
Holds (AtlasDad st) w n = Adds (sum_of (AtlasDad st)) w n × (2 * n + due_of (AtlasDad st) ≤ 65536)
Holds (AtlasUv st) w n = Adds (sum_of (AtlasUv st)) w n × (n + due_of (AtlasUv st) ≤ 65536)

pub holds_exact : (st : State) (w : Sum ℤ) (n : ℕ) → Holds st w n → Within st n → IsWhole binary64 (sum_of st).value w.value
holds_exact (Fid st) w n h l = h.exact (sloping_within (2 ^ 47) n (omega arith) (omega arith))
holds_exact (Ms st) w n h l = h.0.exact (omega (arith, h.1))
holds_exact (Mwd st) w n h l = h.exact (omega arith)
holds_exact (Dad st) w n h l = h.0.exact (omega (arith, h.1))
holds_exact (Uv st) w n h l = h.0.exact (omega (arith, h.1))
holds_exact (Array st) w n h l = absurd l
holds_exact (AtlasDad st) w n h l = h.0.exact (omega (arith, h.1))
holds_exact (AtlasUv st) w n h l = h.0.exact (omega (arith, h.1))

pub begins_holds : (st : State) → Begins st → Holds st (flat wholes (pos 0)) 0
begins_holds (Fid st) b = slopes_start b.sum
begins_holds (Ms st) b = (adds_start b.sum, omega arith)
begins_holds (Mwd st) b = adds_start b.sum
begins_holds (Dad st) b = (adds_start b.sum, omega (arith, b.due))
begins_holds (Uv st) b = (adds_start b.sum, omega (arith, b.due))
begins_holds (Array st) b = tt
begins_holds (AtlasDad st) b = (adds_start b.sum, omega (arith, b.due))
begins_holds (AtlasUv st) b = (adds_start b.sum, omega (arith, b.due))

abbrev bare_dad : ChemstationDadState → ChemstationDadState
bare_dad st = record { n_scans_left = st.n_scans_left; n_bytes_left = st.n_bytes_left; cur_time = st.cur_time; cur_intensity = double 0; cur_wv = st.cur_wv; wv_step = st.wv_step; stored_time = st.stored_time }

abbrev bare_uv : ChemstationUvState → ChemstationUvState
bare_uv st = record { n_scans_left = st.n_scans_left; n_wvs_left = st.n_wvs_left; cur_time = st.cur_time; cur_intensity = double 0; cur_wv = st.cur_wv; wv_step = st.wv_step; mult_correction = st.mult_correction; stored_time = st.stored_time }

-- a state whose value and slope are 0
abbrev pub bare : State → State
bare (Fid st) = Fid (record { cur_time = st.cur_time; cur_delta = double 0; cur_intensity = double 0; time_step = st.time_step; mult_correction = st.mult_correction; offset_correction = st.offset_correction })
bare (Ms st) = Ms (record { n_scans_left = st.n_scans_left; n_mzs_left = st.n_mzs_left; cur_time = st.cur_time; cur_intensity = double 0; stored_time = st.stored_time })
bare (Mwd st) = Mwd (record { n_wvs_left = st.n_wvs_left; cur_time = st.cur_time; cur_intensity = double 0; time_step = st.time_step; mult_correction = st.mult_correction; offset_correction = st.offset_correction })
bare (Dad st) = Dad (bare_dad st)
bare (Uv st) = Uv (bare_uv st)
bare (Array st) = Array (record { record_type = st.record_type; n_scans_left = st.n_scans_left; cur_time = st.cur_time; cur_intensity = double 0; time_step = st.time_step; mult_correction = st.mult_correction })
bare (AtlasDad st) = AtlasDad (bare_dad st)
bare (AtlasUv st) = AtlasUv (bare_uv st)

-- no field turns on them
pub bare_fields : (st : State) → fields st ≡ fields (bare st)
unfolding dad_point uv_point uv_scan
bare_fields (Fid st) = unfold fid_rule in refl
bare_fields (Ms st) = refl
bare_fields (Mwd st) = unfold mwd_rule mwd_point in refl
bare_fields (Dad st) = refl
bare_fields (Uv st) = refl
bare_fields (Array st) = unfold array_rule in refl
bare_fields (AtlasDad st) = refl
bare_fields (AtlasUv st) = refl

-- an i16 or an i32
delta_fair : {order : List ℕ → ℕ} → Order order → Every (λ d. Fair (change_of d)) (delta order)
unfolding delta
delta_fair o = every_then (twos_complement o 2) λ v f. every_cond (is_int v (negsuc 32767)) (λ t. every_then (twos_complement o 4) λ z g. at_gives g) (λ t. at_gives f)

-- 16383 × 8 ^ 3 is below 2 ^ 31
mass_fair : (r : ℕ) → r < 65536 → Fair (ms_value r)
mass_fair r h =
    let q : r / 16384 ≤ 3 = omega arith in
    let p : 8 ^ (r / 16384) ≤ 8 ^ 3 = pow-le-pow_right (omega arith) q in
    let m : r % 16384 ≤ 16384 = omega arith in
    le_trans (mul-le-mul m p) (omega arith)

-- a delta takes 2 of the bytes due, or the last one; an absolute value starts the count anew
dad_few : (d : Delta) (n bytes : ℕ) → ¬ (bytes ≡ 0) → 2 * n + bytes ≤ 65536 → 2 * deltas_after n (change_of d) + (bytes - width_of d) ≤ 65536
dad_few (By v) n bytes z h = omega arith
dad_few (Absolute v) n bytes z h = omega arith

-- and a point due
uv_few : (d : Delta) (n points : ℕ) → ¬ (points ≡ 0) → n + points ≤ 65536 → deltas_after n (change_of d) + (points - 1) ≤ 65536
uv_few (By v) n points z h = omega arith
uv_few (Absolute v) n points z h = omega arith

module _ (s : Sum Float) (w : Sum ℤ) (n : ℕ) where
  -- what a record that is told keeps: the kind in both readings, the added-up value, that it is shown, and that no later field turns on it
  pub record Keeps (t : Told) : Type 0 where
    pub kind : (m : ℕ) → Within (summed w n t).after.state m → Within (stepped s t).after m
    pub holds : Holds (stepped s t).after (summed w n t).after.sum (summed w n t).after.deltas
    pub shown : Within (stepped s t).after (summed w n t).shows.deltas → unscaled_of (stepped s t).shows ≡ (sum_of (stepped s t).after).value
    pub same : bare (stepped s t).after ≡ bare (summed w n t).after.state

-- ---- the atlas reading: what a point of the plain one keeps, it keeps

module _ (k : ℕ) where
  plain_within : (x : State) (m : ℕ) → Within (atlas_after k x) m → Within x m
  plain_within (Fid st) m i = i
  plain_within (Ms st) m i = i
  plain_within (Mwd st) m i = i
  plain_within (Dad st) m i = i
  plain_within (Uv st) m i = i
  plain_within (Array st) m i = i
  plain_within (AtlasDad st) m i = i
  plain_within (AtlasUv st) m i = i

  atlas_within : (x : State) (m : ℕ) → Within x m → Within (atlas_after k x) m
  atlas_within (Fid st) m i = i
  atlas_within (Ms st) m i = i
  atlas_within (Mwd st) m i = i
  atlas_within (Dad st) m i = i
  atlas_within (Uv st) m i = i
  atlas_within (Array st) m i = i
  atlas_within (AtlasDad st) m i = i
  atlas_within (AtlasUv st) m i = i

  atlas_holds : (x : State) (w : Sum ℤ) (n : ℕ) → Holds x w n → Holds (atlas_after k x) w n
  atlas_holds (Fid st) w n h = h
  atlas_holds (Ms st) w n h = h
  atlas_holds (Mwd st) w n h = h
  atlas_holds (Dad st) w n h = h
  atlas_holds (Uv st) w n h = h
  atlas_holds (Array st) w n h = h
  atlas_holds (AtlasDad st) w n h = h
  atlas_holds (AtlasUv st) w n h = h

  atlas_sum : (x : State) → sum_of x ≡ sum_of (atlas_after k x)
  atlas_sum (Fid st) = refl
  atlas_sum (Ms st) = refl
  atlas_sum (Mwd st) = refl
  atlas_sum (Dad st) = refl
  atlas_sum (Uv st) = refl
  atlas_sum (Array st) = refl
  atlas_sum (AtlasDad st) = refl
  atlas_sum (AtlasUv st) = refl

  atlas_bare : (x : State) → bare (atlas_after k x) ≡ atlas_after k (bare x)
  atlas_bare (Fid st) = refl
  atlas_bare (Ms st) = refl
  atlas_bare (Mwd st) = refl
  atlas_bare (Dad st) = refl
  atlas_bare (Uv st) = refl
  atlas_bare (Array st) = refl
  atlas_bare (AtlasDad st) = refl
  atlas_bare (AtlasUv st) = refl

  atlas_keeps : {s : Sum Float} {w : Sum ℤ} {n : ℕ} {t : Told} → Keeps s w n t → Keeps s w n (atlas_told k t)
  atlas_keeps {s} {w} {n} {t} p =
      let x = (stepped s t).after in
      let y = (summed w n t).after in
      record {
        kind = λ m i. atlas_within x m (p.kind m (plain_within y.state m i));
        holds = atlas_holds x y.sum y.deltas p.holds;
        shown = λ i. p.shown (plain_within x y.deltas i) ∙ ap (λ v. v.value) (atlas_sum x);
        same = atlas_bare x ∙ ap (atlas_after k) p.same ∙ sym (atlas_bare y.state);
      }

-- records that come in scans
every_scanning : {P : Told → Type 0} (f : Scanning) → Every P f.scan → (¬ (f.due ≡ 0) → Every P f.point) → Every P (scanning f)
unfolding scanning
every_scanning f new within = every_cond f.done (λ t. at_ends) (λ t. every_cond (eqb f.due 0) (λ t. new) (λ t. within (eqb-false f.due 0 t)))

module _ {s : Sum Float} {w : Sum ℤ} {n : ℕ} where
  fid_keeps : (st : ChemstationFidState) → Slopes s w n → Every (Keeps s w n) (fid_rule st)
  unfolding fid_rule
  fid_keeps st h =
      every_may_end (every_then (twos_complement be_below 2) λ v f. every_cond (is_int v (pos 32767))
      (λ t. every_then (twos_complement be_below 4) λ high g. every_then (unsigned be_below 2) λ low l. at_gives (kept (restarts high low) (restart high low g l)))
      (λ t. at_gives (kept (slopes v) (sloping_step v f h))))
    where
      kept : (c : Change) → Slopes (changed doubles s c) (changed wholes w c) (deltas_after n c) → Keeps s w n (told (fid_made st) (c ∷ []))
      kept c h = record { kind = λ m i. i; holds = h; shown = λ i. refl; same = refl }

  ms_point_lem : (scans : Scans) (points : Points) (time : Float) (stored : ℕ) → Adds s w n → Every (Keeps s w n) (ms_point scans points time stored)
  unfolding ms_point
  ms_point_lem scans points time stored h =
      every_then any λ m _. every_then (unsigned be_below 2) λ r l. every_cond (eqb points.0 1)
      (λ t. every_then any λ _ _. at_gives (kept _ _ m r l))
      (λ t. at_gives (kept _ _ m r l))
    where
      kept : (scans : Scans) (points : Points) (m r : ℕ) → r < 65536 → Keeps s w n (told (ms_made scans points time stored m) (ms_value r ∷ []))
      kept scans points m r l = record { kind = λ m i. i; holds = (adds_all (ms_value r ∷ []) s w n (mass_fair r l, tt) h, omega arith); shown = λ i. refl; same = refl }

  ms_scans_lem : (scans : ℕ) → Adds s w n → Every (Keeps s w n) (ms_scans scans)
  unfolding ms_scans
  ms_scans_lem zero h = at_ends
  ms_scans_lem (suc scans) h =
      every_then any λ c _. every_cond (ltb c 14) (λ t. at_refuses)
      (λ t. every_then any λ time _. every_then any λ _ _. every_cond (eqb ((c - 14) / 2) 0) (λ t. every_then any λ _ _. ms_scans_lem scans h) (λ t. ms_point_lem _ _ _ _ h))

  ms_keeps : (st : ChemstationMsState) → Adds s w n → Every (Keeps s w n) (ms_rule st)
  ms_keeps st h = every_scanning (ms_scanning st) (ms_scans_lem st.n_scans_left.0 h) (λ z. ms_point_lem _ _ _ _ h)

  -- a point of MWD, DAD or UV
  point : {order : List ℕ → ℕ} (m : Delta → Made) (first : List Change) → Order order → AllFair first → Adds s w n →
      ((d : Delta) → let cs = first ++ (change_of d ∷ []) in Adds (after doubles s cs) (after wholes w cs) (foldl deltas_after n cs) → Keeps s w n (told (m d) cs)) →
      Every (Keeps s w n) (map_rule (λ d. told (m d) (first ++ (change_of d ∷ []))) (delta order))
  point m first o a h g = every_then (delta_fair o) λ d f. at_gives (g d (adds_all (first ++ (change_of d ∷ [])) s w n (all_fair first (change_of d) a f) h))

  mwd_keeps : (st : ChemstationMwdState) → Adds s w n → Every (Keeps s w n) (mwd_rule st)
  unfolding mwd_rule mwd_point
  mwd_keeps st h = every_may_end (every_cond (eqb st.n_wvs_left.0 0) (λ t. every_then any λ group _. every_cond (eqb (group % 4096) 0) (λ t. at_ends) (λ t. here _)) (λ t. here _))
    where
      here : (points : Points) → Every (Keeps s w n) (mwd_point st points)
      here points = point _ [] be_below tt h λ d r. record { kind = λ m i. i; holds = r; shown = λ i. refl; same = refl }

  dad_point_lem : (st : ChemstationDadState) (first : List Change) → AllFair first → Adds s w n → ¬ (st.n_bytes_left.0 ≡ 0) → 2 * foldl deltas_after n first + st.n_bytes_left.0 ≤ 65536 →
      Every (Keeps s w n) (dad_point st first)
  unfolding dad_point
  dad_point_lem st first a h z l =
      point _ first le_below a h
      λ d r. record { kind = λ m i. i; holds = (r, rw (foldl-append deltas_after n first (change_of d ∷ [])) (dad_few d (foldl deltas_after n first) st.n_bytes_left.0 z l)); shown = λ i. refl; same = refl }

  dad_keeps : (st : ChemstationDadState) → Adds s w n → 2 * n + st.n_bytes_left.0 ≤ 65536 → Every (Keeps s w n) (dad_rule st)
  unfolding dad_scan
  dad_keeps st h l =
      every_scanning (dad_scanning st)
      (every_then any λ type _. every_cond (eqb type 67)
      (λ t. every_then (unsigned le_below 2) λ size b. every_then any λ time _. every_then any λ start _. every_then any λ end _. every_then any λ step _. every_then any λ _ _.
      every_cond (eqb (size - 22) 0) (λ t. at_ends) (λ t. dad_point_lem (dad_begun st.n_scans_left (record { 0 = size - 22 }) time start step) (clears ∷ []) (tt, tt) h (eqb-false (size - 22) 0 t) (omega arith)))
      (λ t. at_ends))
      (λ z. dad_point_lem (dad_onward st) [] tt h z l)

  uv_point_lem : (st : ChemstationUvState) (scans : Scans) (first : List Change) → AllFair first → Adds s w n → ¬ (st.n_wvs_left.0 ≡ 0) → foldl deltas_after n first + st.n_wvs_left.0 ≤ 65536 →
      Every (Keeps s w n) (uv_point st scans first)
  unfolding uv_point uv_scan
  uv_point_lem st scans first a h z l =
      point _ first le_below a h
      λ d r. record { kind = λ m i. i; holds = (r, rw (foldl-append deltas_after n first (change_of d ∷ [])) (uv_few d (foldl deltas_after n first) st.n_wvs_left.0 z l)); shown = λ i. refl; same = refl }

  uv_keeps : (st : ChemstationUvState) → Adds s w n → n + st.n_wvs_left.0 ≤ 65536 → Every (Keeps s w n) (uv_rule st)
  unfolding uv_scan
  uv_keeps st h l =
      every_scanning (uv_scanning st)
      (every_then any λ _ _. every_then any λ time _. every_then any λ start _. every_then (unsigned le_below 2) λ end b. every_cond (ltb end start) (λ t. at_refuses)
      (λ t. every_then any λ step _. every_cond (eqb step 0) (λ t. at_refuses)
      (λ t. every_then any λ _ _. uv_point_lem (uv_begun st time start end step) st.n_scans_left (clears ∷ []) (tt, tt) h (λ z. omega arith) (omega (arith, div-le_self (end - start) step)))))
      (λ z. uv_point_lem st (uv_left st) [] tt h z l)

  array_keeps : (st : ChemstationArrayState) → Every (Keeps s w n) (array_rule st)
  unfolding array_rule
  array_keeps st = every_cond (eqb st.n_scans_left.0 0) (λ t. at_ends) (λ t. here st.record_type)
    where
      kept : (x : Float) → Keeps s w n (told (array_made st x) [])
      kept x = record { kind = λ m i. i; holds = tt; shown = λ i. absurd i; same = refl }

      here : (r : ChemstationArrayRecordType) → Every (Keeps s w n) (map_rule (λ x. told (array_made st x) []) (stored r))
      here Float64Array = every_then any λ x _. at_gives (kept x)
      here Float32Array = every_then any λ x _. at_gives (kept x)

pub keeps : (st : State) (w : Sum ℤ) (n : ℕ) → Holds st w n → Every (Keeps (sum_of st) w n) (fields st)
keeps (Fid st) w n h = fid_keeps st h
keeps (Ms st) w n h = ms_keeps st h.0
keeps (Mwd st) w n h = mwd_keeps st h
keeps (Dad st) w n h = dad_keeps st h.0 h.1
keeps (Uv st) w n h = uv_keeps st h.0 h.1
keeps (Array st) w n h = array_keeps st
keeps (AtlasDad st) w n h = every_then (dad_keeps (scan_due st) h.0 h.1) λ x p. at_gives (atlas_keeps _ p)
keeps (AtlasUv st) w n h = every_then (uv_keeps st h.0 h.1) λ x p. at_gives (atlas_keeps _ p)
