-- DAD and UV states of the two readings at the same place: they differ in the scans due alone, and read the same fields.
use mathlib.Core.Path.{◌≡◌, refl, sym, ap, ap₂, subst}
use mathlib.Core.Bool.{Bool, true, false, cond}
use mathlib.Core.Logic.{inl, inr}
use mathlib.Core.List.{List, [], ◌∷◌, ◌++◌}
use Prim.Native.Nat.{ℕ, zero, suc, ◌+◌, ◌-◌, ◌/◌, ◌≤◌, ◌<◌}
use native.Mathlib.Omega.{arith}
use lib.Dec.{eqb, ltb}
use lib.Ieee.{Float}
use borrow.Author.Tests.{eq-eqb, ne_eqb, eqb-true, eqb-false}
use Rattle.rules.specs.Rule.{ends, Read, got, stops, read, ◌>>=◌, map_rule}
use Rattle.rules.specs.Calls.{Item}
use Rattle.common.specs.Bytes.{le}
use Rattle.floats.specs.Wholes.{Sum, doubles}
use Rattle.streams.specs.Changes.{Change, clears, after}
use Rattle.streams.specs.Told.{Told, told, delta, change_of}
use Rattle.streams.specs.Scanning.{scanning}
use Rattle.streams.specs.Next.{sum_of, stepped}
use Rattle.streams.specs.declared.ChemstationDadState.{ChemstationDadState}
use Rattle.streams.specs.declared.ChemstationUvState.{ChemstationUvState}
use Rattle.streams.specs.declared.Scans.{Scans}
use Rattle.streams.specs.declared.Delta.{Delta}
use Rattle.streams.specs.declared.State.{State}
use Rattle.streams.specs.declared.State.TheVariants.{Fid, Ms, Mwd, Dad, Uv, Array, AtlasDad, AtlasUv}
use Rattle.streams.specs.declared.Record.{Record}
use Rattle.dad.specs.Dad.{width_of, dad_made, dad_point, dad_begun, dad_scan, dad_onward, dad_rule}
use Rattle.uv.specs.Uv.{uv_made, uv_point, uv_begun, uv_scan, uv_left, uv_rule}
use Rattle.atlas.specs.Atlas.{spent, dad_done, atlas_told, atlas_dad_rule, atlas_uv_rule}
use Rattle.chemstation.specs.Next.{fields, rule}
use Rattle.spectra.specs.Spectra.{dad_with}
use Rattle.spectra.proofs.Alike.{Alike, both_field, both_refuse, both_end, Matches, alike_reads, alike_mapped, alike_both, alike_cond}
use Rattle.spectra.proofs.Begins.{Twin, Steps}

-- ---- states

-- within a scan the plain reading has debited it, and the atlas reading has not
abbrev owed : ChemstationDadState → ℕ
owed p = cond (eqb p.n_bytes_left.0 0) p.n_scans_left.0 (p.n_scans_left.0 + 1)

abbrev uv_with : ℕ → ChemstationUvState → ChemstationUvState
uv_with n st = record { n_scans_left = record { 0 = n }; n_wvs_left = st.n_wvs_left; cur_time = st.cur_time; cur_intensity = st.cur_intensity; cur_wv = st.cur_wv; wv_step = st.wv_step; mult_correction = st.mult_correction; stored_time = st.stored_time }

-- a plain state and the atlas one at its place
abbrev pub DadTwins : State → State → Type 0
DadTwins (Dad p) y = y ≡ AtlasDad (dad_with (owed p) p)
DadTwins (Fid st) y = ⊥
DadTwins (Ms st) y = ⊥
DadTwins (Mwd st) y = ⊥
DadTwins (Uv st) y = ⊥
DadTwins (Array st) y = ⊥
DadTwins (AtlasDad st) y = ⊥
DadTwins (AtlasUv st) y = ⊥

-- the atlas reading of UV has no more scans due
abbrev pub UvTwins : State → State → Type 0
UvTwins (Uv p) y = (k : ℕ) × ((k ≤ p.n_scans_left.0) × (y ≡ AtlasUv (uv_with k p)))
UvTwins (Fid st) y = ⊥
UvTwins (Ms st) y = ⊥
UvTwins (Mwd st) y = ⊥
UvTwins (Dad st) y = ⊥
UvTwins (Array st) y = ⊥
UvTwins (AtlasDad st) y = ⊥
UvTwins (AtlasUv st) y = ⊥

-- ---- what is told of them

module _ (R : State → State → Type 0) where
  pub record ToldTwins (t u : Told) : Type 0 where
    pub does : t.does ≡ u.does
    pub shows : t.makes.shows ≡ u.makes.shows
    pub then : (s : Sum Float) → R (t.makes.then s) (u.makes.then s)

  items : (v : Sum Float) (t u : Told) → ToldTwins t u → Twin R (stepped v t) (stepped v u)
  items v t u q =
      let w = after doubles v t.does in
      let z = after doubles v u.does in
      let same : w ≡ z = ap (after doubles v) q.does in (
        ap₂ (λ f x. f x.value) q.shows same,
        subst (λ x. R (t.makes.then w) (u.makes.then x)) same (q.then w),
      )

  -- the next records of states whose fields tell so
  pub alike_next : (x y : State) → sum_of x ≡ sum_of y → Alike ToldTwins (fields x) (fields y) → (last : Bool) (bs : List ℕ) → Matches (Twin R) (read last (rule x) bs) (read last (rule y) bs)
  alike_next x y e p last bs = alike_reads (Twin R) last (alike_both (stepped (sum_of x)) (stepped (sum_of y)) p λ t u q. subst (λ v. Twin R (stepped (sum_of x) t) (stepped v u)) e (items (sum_of x) t u q)) bs

-- ---- DAD

spent_so : (k i due : ℕ) → k ≡ i + 1 → spent k due ≡ cond (eqb due 0) i (i + 1)
spent_so k i due e = ap₂ (cond (eqb due 0)) (omega arith) e

-- the state after a point
abbrev dad_after : ChemstationDadState → Delta → Float → ChemstationDadState
dad_after p d x = record { n_scans_left = p.n_scans_left; n_bytes_left = record { 0 = p.n_bytes_left.0 - width_of d }; cur_time = p.cur_time; cur_intensity = x; cur_wv = p.cur_wv; wv_step = p.wv_step; stored_time = p.stored_time }

-- the other state differs in its scans
dad_point_lem : (k n : ℕ) (p : ChemstationDadState) (first : List Change) → k ≡ p.n_scans_left.0 + 1 → Alike (ToldTwins DadTwins) (dad_point p first) (map_rule (atlas_told k) (dad_point (dad_with n p) first))
unfolding dad_point
dad_point_lem k n p first h =
    alike_mapped (λ d. told (dad_made p d) (first ++ (change_of d ∷ []))) (λ d. told (dad_made (dad_with n p) d) (first ++ (change_of d ∷ []))) (atlas_told k) (delta le)
    λ d. record { does = refl; shows = refl; then = λ s. ap (λ n. AtlasDad (dad_with n (dad_after p d s.value))) (spent_so k p.n_scans_left.0 (p.n_bytes_left.0 - width_of d) h) }

dad_scan_lem : (k : ℕ) (i j : Scans) → k ≡ i.0 → 0 < k → Alike (ToldTwins DadTwins) (dad_scan i) (map_rule (atlas_told k) (dad_scan j))
unfolding dad_scan ◌>>=◌
dad_scan_lem k i j e h =
    both_field λ type. alike_cond (eqb (le type) 67) _ _ _
    (both_field λ size. both_field λ time. both_field λ start. both_field λ end. both_field λ step. both_field λ _.
    alike_cond (eqb (le size - 22) 0) _ _ _ both_end (dad_point_lem k (j.0 - 1) (dad_begun i (record { 0 = le size - 22 }) (le time) (le start) (le step)) (clears ∷ []) (omega arith)))
    both_end

module _ (p : ChemstationDadState) (h : 0 < p.n_scans_left.0) where
  abbrev a : ChemstationDadState
  a = dad_with (owed p) p

  dad_inside : (b : Bool) → eqb p.n_bytes_left.0 0 ≡ b →
      Alike (ToldTwins DadTwins) (cond b (dad_scan p.n_scans_left) (dad_point (dad_onward p) [])) (map_rule (atlas_told (cond b p.n_scans_left.0 (p.n_scans_left.0 + 1))) (cond b (dad_scan (record { 0 = 1 })) (dad_point (dad_onward (dad_with 1 p)) [])))
  dad_inside true e = dad_scan_lem p.n_scans_left.0 p.n_scans_left (record { 0 = 1 }) refl h
  dad_inside false e = dad_point_lem (p.n_scans_left.0 + 1) 1 (dad_onward p) [] refl

  some_owed : (b : Bool) → 0 < cond b p.n_scans_left.0 (p.n_scans_left.0 + 1)
  some_owed true = h
  some_owed false = omega arith

  not_done : dad_done a ≡ false
  not_done = rw (ne_eqb (owed p) 0 (λ e. omega (arith, some_owed (eqb p.n_bytes_left.0 0)))) refl

  dad_alike : Alike (ToldTwins DadTwins) (dad_rule p) (atlas_dad_rule a)
  unfolding scanning
  dad_alike = rw (not_done, ne_eqb p.n_scans_left.0 0 (λ e. omega arith)) (dad_inside (eqb p.n_bytes_left.0 0) refl)

-- the other way round
flip_items : (R : State → State → Type 0) (x y : Read (Item State Record)) → Matches (Twin R) x y → Matches (Twin (λ b a. R a b)) y x
flip_items R (got i n) (got j m) p = ((sym p.0.0, p.0.1), sym p.1)
flip_items R (got i n) (stops z) p = p
flip_items R (stops w) (got j m) p = p
flip_items R (stops w) (stops z) p = sym p

-- a plain reading ends, or the atlas reading reads alike
pub dad_step : (last : Bool) (x y : State) (bs : List ℕ) → DadTwins x y → Steps DadTwins (read last (rule x) bs) (read last (rule y) bs)
unfolding scanning read ◌>>=◌
dad_step last (Dad p) y bs h = subst (λ y. Steps DadTwins (read last (rule (Dad p)) bs) (read last (rule y) bs)) (sym h) (go p.n_scans_left.0 refl)
  where
    go : (n : ℕ) → p.n_scans_left.0 ≡ n → Steps DadTwins (read last (rule (Dad p)) bs) (read last (rule (AtlasDad (dad_with (owed p) p))) bs)
    go zero e = inl (rw (eq-eqb p.n_scans_left.0 0 e) refl)
    go (suc n) e = inr (alike_next DadTwins (Dad p) (AtlasDad (dad_with (owed p) p)) refl (dad_alike p (omega arith)) last bs)
dad_step last (Fid st) y bs h = absurd h
dad_step last (Ms st) y bs h = absurd h
dad_step last (Mwd st) y bs h = absurd h
dad_step last (Uv st) y bs h = absurd h
dad_step last (Array st) y bs h = absurd h
dad_step last (AtlasDad st) y bs h = absurd h
dad_step last (AtlasUv st) y bs h = absurd h

-- ---- UV

spent_le : (k due m : ℕ) → k ≤ m → spent k due ≤ m
spent_le k due m h = go (eqb due 0)
  where
    go : (b : Bool) → cond b (k - 1) k ≤ m
    go true = omega arith
    go false = h

-- a scan that the plain reading debits is debited
left_le : (k m points : ℕ) → ¬ (points ≡ 0) → k ≤ m → spent k (points - 1) ≤ cond (eqb points 1) (m - 1) m
left_le k m points z h = go (eqb points 1) refl
  where
    go : (b : Bool) → eqb points 1 ≡ b → spent k (points - 1) ≤ cond b (m - 1) m
    go true e = rw (eq-eqb (points - 1) 0 (omega (arith, eqb-true points 1 e))) (omega arith)
    go false e = rw (ne_eqb (points - 1) 0 (λ q. omega (arith, eqb-false points 1 e))) h

uv_point_lem : (k n : ℕ) (p : ChemstationUvState) (scans other : Scans) (first : List Change) → spent k (p.n_wvs_left.0 - 1) ≤ scans.0 → Alike (ToldTwins UvTwins) (uv_point p scans first) (map_rule (atlas_told k) (uv_point (uv_with n p) other first))
unfolding uv_point
uv_point_lem k n p scans other first h =
    alike_mapped (λ d. told (uv_made p scans) (first ++ (change_of d ∷ []))) (λ d. told (uv_made (uv_with n p) other) (first ++ (change_of d ∷ []))) (atlas_told k) (delta le)
    λ d. record { does = refl; shows = refl; then = λ s. (spent k (p.n_wvs_left.0 - 1), (h, refl)) }

uv_scan_lem : (k n : ℕ) (p : ChemstationUvState) → k ≤ p.n_scans_left.0 → Alike (ToldTwins UvTwins) (uv_scan p) (map_rule (atlas_told k) (uv_scan (uv_with n p)))
unfolding uv_scan ◌>>=◌
uv_scan_lem k n p h =
    both_field λ _. both_field λ time. both_field λ start. both_field λ end. alike_cond (ltb (le end) (le start)) _ _ _ both_refuse
    (both_field λ step. alike_cond (eqb (le step) 0) _ _ _ both_refuse
    (both_field λ _. uv_point_lem k n (uv_begun p (le time) (le start) (le end) (le step)) p.n_scans_left (record { 0 = n }) (clears ∷ []) (spent_le k ((le end - le start) / le step + 1 - 1) p.n_scans_left.0 h)))

module _ (k : ℕ) (p : ChemstationUvState) (some : 0 < k) (h : k ≤ p.n_scans_left.0) where
  uv_inside : (b : Bool) → eqb p.n_wvs_left.0 0 ≡ b →
      Alike (ToldTwins UvTwins) (cond b (uv_scan p) (uv_point p (uv_left p) [])) (map_rule (atlas_told k) (cond b (uv_scan (uv_with k p)) (uv_point (uv_with k p) (uv_left (uv_with k p)) [])))
  uv_inside true e = uv_scan_lem k k p h
  uv_inside false e = uv_point_lem k k p (uv_left p) (uv_left (uv_with k p)) [] (left_le k p.n_scans_left.0 p.n_wvs_left.0 (eqb-false p.n_wvs_left.0 0 e) h)

  uv_alike : Alike (ToldTwins UvTwins) (uv_rule p) (atlas_uv_rule (uv_with k p))
  unfolding scanning
  uv_alike = rw (ne_eqb k 0 (λ e. omega arith), ne_eqb p.n_scans_left.0 0 (λ e. omega arith)) (uv_inside (eqb p.n_wvs_left.0 0) refl)

-- the atlas reading ends, or the plain one reads alike
abbrev pub AtlasFirst : State → State → Type 0
AtlasFirst y x = UvTwins x y

pub uv_step : (last : Bool) (y x : State) (bs : List ℕ) → AtlasFirst y x → Steps AtlasFirst (read last (rule y) bs) (read last (rule x) bs)
unfolding scanning read ◌>>=◌
uv_step last y (Uv p) bs h = subst (λ y. Steps AtlasFirst (read last (rule y) bs) (read last (rule (Uv p)) bs)) (sym h.1.1) (go h.0 h.1.0)
  where
    flips : (k : ℕ) → Matches (Twin UvTwins) (read last (rule (Uv p)) bs) (read last (rule (AtlasUv (uv_with k p))) bs) → Matches (Twin AtlasFirst) (read last (rule (AtlasUv (uv_with k p))) bs) (read last (rule (Uv p)) bs)
    flips k m = flip_items UvTwins (read last (rule (Uv p)) bs) (read last (rule (AtlasUv (uv_with k p))) bs) m

    go : (k : ℕ) → k ≤ p.n_scans_left.0 → Steps AtlasFirst (read last (rule (AtlasUv (uv_with k p))) bs) (read last (rule (Uv p)) bs)
    go zero l = inl refl
    go (suc k) l = inr (flips (suc k) (alike_next UvTwins (Uv p) (AtlasUv (uv_with (suc k) p)) refl (uv_alike (suc k) p (omega arith) l) last bs))
uv_step last y (Fid st) bs h = absurd h
uv_step last y (Ms st) bs h = absurd h
uv_step last y (Mwd st) bs h = absurd h
uv_step last y (Dad st) bs h = absurd h
uv_step last y (Array st) bs h = absurd h
uv_step last y (AtlasDad st) bs h = absurd h
uv_step last y (AtlasUv st) bs h = absurd h
