-- The next record of the atlas reading is that of the plain one at the same place, whatever scans are due.
use mathlib.Core.Path.{◌≡◌, refl, ap, ap₂, subst}
use mathlib.Core.Bool.{Bool, true, false, cond, ◌&&◌}
use mathlib.Core.List.{List, [], ◌∷◌, ◌++◌}
use Prim.Native.Nat.{ℕ, ◌-◌, ◌<◌}
use native.Mathlib.Omega.{arith}
use lib.Dec.{eqb}
use lib.Ieee.{Float}
use borrow.Author.Tests.{ne_eqb, eqb-true}
use Rattle.rules.specs.Rule.{Rule, gives, field, refuses, ends, Read, got, stops, read, ◌>>=◌, map_rule}
use Rattle.rules.specs.Calls.{Item}
use Rattle.common.specs.Bytes.{le}
use Rattle.floats.specs.Wholes.{Sum, doubles}
use Rattle.streams.specs.Changes.{Change, clears, after}
use Rattle.streams.specs.Told.{Told, told, delta, change_of}
use Rattle.streams.specs.Scanning.{scanning}
use Rattle.streams.specs.Next.{sum_of, stepped}
use Rattle.streams.specs.declared.ChemstationDadState.{ChemstationDadState}
use Rattle.streams.specs.declared.ChemstationUvState.{ChemstationUvState}
use Rattle.streams.specs.declared.Scans.{Scans}
use Rattle.streams.specs.declared.State.{State}
use Rattle.streams.specs.declared.State.TheVariants.{Dad, Uv, AtlasDad, AtlasUv}
use Rattle.streams.specs.declared.Record.{Record}
use Rattle.dad.specs.Dad.{dad_made, dad_point, dad_begun, dad_scan, dad_onward, dad_rule}
use Rattle.uv.specs.Uv.{uv_rule}
use Rattle.atlas.specs.Atlas.{dad_done, atlas_told, atlas_dad_rule}
use Rattle.chemstation.specs.Next.{fields, rule}
use Rattle.spectra.specs.Spectra.{shown, dad_with}
use Rattle.spectra.proofs.Alike.{Alike, both_give, both_field, both_refuse, both_end, Matches, alike_reads, alike_mapped, alike_both, alike_cond}

pub record Same (t u : Told) : Type 0 where
  pub does : t.does ≡ u.does
  pub shows : t.makes.shows ≡ u.makes.shows

abbrev Shows : Item State Record → Item State Record → Type 0
Shows x y = x.shows ≡ y.shows

items : (v : Sum Float) (t u : Told) → Same t u → Shows (stepped v t) (stepped v u)
items v t u q = ap₂ (λ f x. f x.value) q.shows (ap (after doubles v) q.does)

shown_so : (x y : Read (Item State Record)) → Matches Shows x y → shown x ≡ shown y
shown_so (got i n) (got j m) p = ap₂ got p.0 p.1
shown_so (got i n) (stops z) p = absurd p
shown_so (stops w) (got j m) p = absurd p
shown_so (stops w) (stops z) p = ap stops p

by_fields : (x y : State) → sum_of x ≡ sum_of y → Alike Same (fields x) (fields y) → (last : Bool) (s : List ℕ) → shown (read last (rule x) s) ≡ shown (read last (rule y) s)
by_fields x y e p last s =
    shown_so (read last (rule x) s) (read last (rule y) s)
    (alike_reads Shows last (alike_both (stepped (sum_of x)) (stepped (sum_of y)) p λ t u q. subst (λ v. Shows (stepped (sum_of x) t) (stepped v u)) e (items (sum_of x) t u q)) s)

-- ---- DAD

same_point : (k n : ℕ) (p : ChemstationDadState) (first : List Change) → Alike Same (dad_point p first) (map_rule (atlas_told k) (dad_point (dad_with n p) first))
unfolding dad_point
same_point k n p first =
    alike_mapped (λ d. told (dad_made p d) (first ++ (change_of d ∷ []))) (λ d. told (dad_made (dad_with n p) d) (first ++ (change_of d ∷ []))) (atlas_told k) (delta le)
    λ d. record { does = refl; shows = refl }

same_scan : (k : ℕ) (i j : Scans) → Alike Same (dad_scan i) (map_rule (atlas_told k) (dad_scan j))
unfolding dad_scan ◌>>=◌
same_scan k i j =
    both_field λ type. alike_cond (eqb (le type) 67) _ _ _
    (both_field λ size. both_field λ time. both_field λ start. both_field λ end. both_field λ step. both_field λ _.
    alike_cond (eqb (le size - 22) 0) _ _ _ both_end (same_point k (j.0 - 1) (dad_begun i (record { 0 = le size - 22 }) (le time) (le start) (le step)) (clears ∷ [])))
    both_end

same_inside : (m k : ℕ) (st : ChemstationDadState) (b : Bool) → Alike Same (cond b (dad_scan (record { 0 = k })) (dad_point (dad_onward (dad_with k st)) [])) (map_rule (atlas_told m) (cond b (dad_scan (record { 0 = 1 })) (dad_point (dad_onward (dad_with 1 st)) [])))
same_inside m k st true = same_scan m (record { 0 = k }) (record { 0 = 1 })
same_inside m k st false = same_point m 1 (dad_onward (dad_with k st)) []

same_alike : (k : ℕ) (st : ChemstationDadState) → 0 < k → dad_done st ≡ false → Alike Same (dad_rule (dad_with k st)) (atlas_dad_rule st)
unfolding scanning
same_alike k st h d = rw (d, ne_eqb k 0 (λ e. omega arith)) (same_inside st.n_scans_left.0 k st (eqb st.n_bytes_left.0 0))

going : (st : ChemstationDadState) → ¬ ((st.n_scans_left.0 ≡ 0) × (st.n_bytes_left.0 ≡ 0)) → dad_done st ≡ false
going st h = go (eqb st.n_scans_left.0 0) (eqb st.n_bytes_left.0 0) refl refl
  where
    go : (a b : Bool) → eqb st.n_scans_left.0 0 ≡ a → eqb st.n_bytes_left.0 0 ≡ b → (a && b) ≡ false
    go true true p q = absurd (h (eqb-true st.n_scans_left.0 0 p, eqb-true st.n_bytes_left.0 0 q))
    go true false p q = refl
    go false true p q = refl
    go false false p q = refl

pub dad_next : (st : ChemstationDadState) (k : ℕ) (last : Bool) (s : List ℕ) → 0 < k → ¬ ((st.n_scans_left.0 ≡ 0) × (st.n_bytes_left.0 ≡ 0)) →
    shown (read last (rule (Dad (dad_with k st))) s) ≡ shown (read last (rule (AtlasDad st)) s)
dad_next st k last s h g = by_fields (Dad (dad_with k st)) (AtlasDad st) refl (same_alike k st h (going st g)) last s

-- ---- UV

once : (k : ℕ) (r : Rule Told) → Alike Same r (map_rule (atlas_told k) r)
unfolding ◌>>=◌
once k (gives a) = both_give (record { does = refl; shows = refl })
once k (field may w f) = both_field λ bs. once k (f bs)
once k (refuses c) = both_refuse
once k ends = both_end

pub uv_next : (st : ChemstationUvState) (last : Bool) (s : List ℕ) → shown (read last (rule (Uv st)) s) ≡ shown (read last (rule (AtlasUv st)) s)
uv_next st last s = by_fields (Uv st) (AtlasUv st) refl (once st.n_scans_left.0 (uv_rule st)) last s
