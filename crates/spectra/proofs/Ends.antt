-- Where a reading does not end; and the theorem of two readings from Open on.
use mathlib.Core.Path.{◌≡◌, refl, ap, subst}
use mathlib.Core.Bool.{Bool, true, false, cond, ◌&&◌}
use mathlib.Core.List.{List, [], ◌∷◌, ◌++◌}
use Prim.Native.Nat.{ℕ, zero, suc, ◌+◌}
use native.Mathlib.Nat.{le_refl}
use native.Mathlib.Omega.{arith}
use lib.Dec.{eqb, ltb}
use lib.IntN.{negsuc}
use lib.ListN.{take, drop}
use borrow.Author.Tests.{eq-eqb, ne_eqb}
use Rattle.rules.specs.Rule.{Rule, gives, field, refuses, refused, finished, more_bytes, lacks, Read, got, stops, taking, read, ◌>>=◌, map_rule, map_read}
use Rattle.rules.specs.Calls.{Result, result_of, opening, read_up_to}
use Rattle.rules.proofs.Laws.{by_fit, read_fits, read_past, read_map}
use Rattle.common.specs.Bytes.{le, signed}
use Rattle.metadata.specs.Metadata.{Header, open_rule}
use Rattle.streams.specs.Changes.{Change, clears}
use Rattle.streams.specs.Told.{told, is_int, delta, change_of}
use Rattle.streams.specs.Next.{sum_of, stepped, atlas_of}
use Rattle.streams.specs.Scanning.{scanning}
use Rattle.streams.specs.declared.ChemstationDadState.{ChemstationDadState}
use Rattle.streams.specs.declared.ChemstationUvState.{ChemstationUvState}
use Rattle.streams.specs.declared.State.TheVariants.{AtlasDad, AtlasUv}
use Rattle.streams.specs.declared.Scans.{Scans}
use Rattle.streams.specs.declared.Record.{Record}
use Rattle.streams.specs.declared.Mode.{Mode}
use Rattle.streams.specs.declared.Mode.TheVariants.{Plain, Atlas}
use Rattle.dad.specs.Dad.{dad_made, dad_point, dad_onward}
use Rattle.uv.specs.Uv.{uv_made, uv_point, uv_begun, uv_scan, uv_left}
use Rattle.atlas.specs.Atlas.{atlas_told, dad_done, atlas_dad_rule, atlas_uv_rule}
use Rattle.chemstation.specs.Next.{rule}
use Rattle.opening.specs.Opening.{begins}
use Rattle.modes.specs.Modes.{open_by, begins_by}
use Rattle.spectra.specs.Spectra.{records_by, BeginsSo, dad_with}
use Rattle.spectra.proofs.Begins.{same_begins, begins_so}
use Rattle.spectra.proofs.Twins.{DadTwins, AtlasFirst, dad_step, uv_step}

-- ---- rules without an end

pub data Endless {A : Type 0} : Rule A → Type 0 where
  no_end : {a : A} → Endless (gives a)
  refusal : {c : ℕ} → Endless (refuses c)
  onward : {w : ℕ} {k : List ℕ → Rule A} → ((bs : List ℕ) → Endless (k bs)) → Endless (field false w k)

endless_cond : {A : Type 0} (b : Bool) {x y : Rule A} → Endless x → Endless y → Endless (cond b x y)
endless_cond true p q = p
endless_cond false p q = q

endless_map : {A B : Type 0} (f : A → B) {r : Rule A} → Endless r → Endless (map_rule f r)
unfolding ◌>>=◌
endless_map f no_end = no_end
endless_map f refusal = refusal
endless_map f (onward h) = onward λ bs. endless_map f (h bs)

abbrev Goes : {A : Type 0} → Read A → Type 0
Goes (got a n) = Unit
Goes (stops finished) = ⊥
Goes (stops (refused c)) = Unit
Goes (stops more_bytes) = Unit

goes_taking : {A : Type 0} (w : ℕ) (x : Read A) → Goes x → Goes (taking w x)
goes_taking w (got a n) g = tt
goes_taking w (stops finished) g = g
goes_taking w (stops (refused c)) g = tt
goes_taking w (stops more_bytes) g = tt

cut_goes : (A : Type 0) (last : Bool) (bs : List ℕ) → Goes {A = A} (stops (lacks last false bs))
cut_goes A true bs = tt
cut_goes A false bs = tt

goes : {A : Type 0} {r : Rule A} (last : Bool) → Endless r → (bs : List ℕ) → Goes (read last r bs)
goes last no_end bs = unfold read in tt
goes last refusal bs = unfold read in tt
goes {A} last (onward {w = w} {k = k} h) bs =
    by_fit w bs
    (λ f. rw (read_fits last false w k bs f) (goes_taking w (read last (k (take w bs)) (drop w bs)) (goes last (h (take w bs)) (drop w bs))))
    (λ f. rw (read_past last false w k bs f) (cut_goes A last bs))

delta_goes : Endless (delta le)
unfolding delta ◌>>=◌
delta_goes = onward λ bs. endless_cond (is_int (signed le bs) (negsuc 32767)) (onward λ _. no_end) no_end

-- ---- the ends

finished_no : {A : Type 0} (x : Read A) → x ≡ stops finished → Goes x → ⊥
finished_no x e g = subst Goes e g

no_and : (b : Bool) → (b && false) ≡ false
no_and true = refl
no_and false = refl

-- within a scan
dad_goes : (st : ChemstationDadState) → eqb st.n_bytes_left.0 0 ≡ false → Endless (atlas_dad_rule st)
unfolding scanning dad_point
dad_goes st e =
    let going : dad_done st ≡ false = rw e (no_and (eqb st.n_scans_left.0 0)) in
    rw (going, e) (endless_map (atlas_told st.n_scans_left.0) (endless_map (λ d. told (dad_made (dad_onward (dad_with 1 st)) d) ([] ++ (change_of d ∷ []))) delta_goes))

pub dad_ends : (st : ChemstationDadState) (last : Bool) (s : List ℕ) → read last (rule (AtlasDad st)) s ≡ stops finished → st.n_bytes_left.0 ≡ 0
dad_ends st last s e = go st.n_bytes_left.0 refl
  where
    go : (n : ℕ) → st.n_bytes_left.0 ≡ n → st.n_bytes_left.0 ≡ 0
    go zero q = q
    go (suc n) q =
        let r = endless_map (stepped (sum_of (AtlasDad st))) (dad_goes st (ne_eqb st.n_bytes_left.0 0 (λ z. omega arith))) in
        absurd (finished_no (read last (rule (AtlasDad st)) s) e (goes last r s))

pub dad_over : (st : ChemstationDadState) (last : Bool) (s : List ℕ) → st.n_scans_left.0 ≡ 0 → st.n_bytes_left.0 ≡ 0 → read last (rule (AtlasDad st)) s ≡ stops finished
unfolding scanning read ◌>>=◌
dad_over st last s a b = rw (eq-eqb st.n_scans_left.0 0 a, eq-eqb st.n_bytes_left.0 0 b) refl

-- with scans due
uv_goes : (st : ChemstationUvState) → eqb st.n_scans_left.0 0 ≡ false → Endless (atlas_uv_rule st)
unfolding scanning uv_point uv_scan ◌>>=◌
uv_goes st e = rw e (endless_map (atlas_told st.n_scans_left.0) (endless_cond (eqb st.n_wvs_left.0 0) scan (here st (uv_left st) [])))
  where
    here : (at : ChemstationUvState) (scans : Scans) (first : List Change) → Endless (uv_point at scans first)
    here at scans first = endless_map (λ d. told (uv_made at scans) (first ++ (change_of d ∷ []))) delta_goes

    scan : Endless (uv_scan st)
    scan =
        onward λ _. onward λ time. onward λ start. onward λ end. endless_cond (ltb (le end) (le start)) refusal
        (onward λ step. endless_cond (eqb (le step) 0) refusal (onward λ _. here (uv_begun st (le time) (le start) (le end) (le step)) st.n_scans_left (clears ∷ [])))

pub uv_ends : (st : ChemstationUvState) (last : Bool) (s : List ℕ) → read last (rule (AtlasUv st)) s ≡ stops finished → st.n_scans_left.0 ≡ 0
uv_ends st last s e = go st.n_scans_left.0 refl
  where
    go : (n : ℕ) → st.n_scans_left.0 ≡ n → st.n_scans_left.0 ≡ 0
    go zero q = q
    go (suc n) q =
        let r = endless_map (stepped (sum_of (AtlasUv st))) (uv_goes st (ne_eqb st.n_scans_left.0 0 (λ z. omega arith))) in
        absurd (finished_no (read last (rule (AtlasUv st)) s) e (goes last r s))

-- ---- from Open on

module _ (last : Bool) (n : ℕ) (F : List ℕ) where
  abbrev by : Mode → ℕ → Read Header → Result Record
  by mode kind x = opening F (λ st bs. result_of (read_up_to rule last n st bs)) (map_read (begins_by mode kind) x)

  opened_as_lem : (mode : Mode) (kind : ℕ) → records_by mode kind last n F ≡ by mode kind (read last (open_by mode kind) F)
  opened_as_lem mode kind = ap (opening F (λ st bs. result_of (read_up_to rule last n st bs))) (read_map last (begins_by mode kind) (open_by mode kind) F)

  pub dad_begins_lem : BeginsSo (records_by Plain 4 last n F) (records_by Atlas 4 last n F)
  unfolding begins ◌>>=◌
  dad_begins_lem = rw (opened_as_lem Plain 4, opened_as_lem Atlas 4) (go (read last (open_rule 4) F))
    where
      go : (x : Read Header) → BeginsSo (by Plain 4 x) (by Atlas 4 x)
      go (stops z) = same_begins _
      go (got h m) = begins_so DadTwins last (dad_step last) n (begins 4 h) (atlas_of (begins 4 h)) (drop m F) refl

  pub uv_begins_lem : BeginsSo (records_by Atlas 5 last n F) (records_by Plain 5 last n F)
  unfolding begins ◌>>=◌
  uv_begins_lem = rw (opened_as_lem Plain 5, opened_as_lem Atlas 5) (go (read last (open_rule 5) F))
    where
      go : (x : Read Header) → BeginsSo (by Atlas 5 x) (by Plain 5 x)
      go (stops z) = same_begins _
      go (got h m) = begins_so AtlasFirst last (uv_step last) n (atlas_of (begins 5 h)) (begins 5 h) (drop m F) (h.scans, (le_refl h.scans, refl))
