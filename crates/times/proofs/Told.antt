-- What the fields of a record tell of its scan's stored time, by the bytes that are there.
use mathlib.Core.Path.{◌≡◌, refl, sym, ap, ◌∙◌, subst}
use mathlib.Core.Bool.{Bool, true, false, cond}
use mathlib.Core.List.{List, []}
use Prim.Native.Nat.{ℕ, zero, suc, ◌+◌, ◌-◌, ◌*◌, ◌/◌, ◌%◌}
use native.Mathlib.Omega.{arith}
use lib.Dec.{eqb, ltb}
use lib.IntN.{pos}
use lib.ListN.{take, drop}
use lib.Seq.{drop-drop}
use lib.Ieee.{Float}
use Rattle.rules.specs.Rule.{Rule}
use Rattle.common.specs.Bytes.{be, le, signed, part}
use Rattle.common.proofs.Every.{Leads, to_gives, to_refuses, to_ends, leads_number, leads_cond, leads_map, leads_made, leads_may_end}
use Rattle.floats.specs.Doubles.{double, minutes}
use Rattle.floats.specs.Wholes.{Sum}
use Rattle.streams.specs.Changes.{Change}
use Rattle.streams.specs.Told.{Told, told, is_int, delta}
use Rattle.streams.specs.Scanning.{Scanning, scanning}
use Rattle.streams.specs.Next.{stored_of}
use Rattle.streams.specs.declared.ChemstationFidState.{ChemstationFidState}
use Rattle.streams.specs.declared.ChemstationMsState.{ChemstationMsState}
use Rattle.streams.specs.declared.ChemstationMwdState.{ChemstationMwdState}
use Rattle.streams.specs.declared.ChemstationDadState.{ChemstationDadState}
use Rattle.streams.specs.declared.ChemstationUvState.{ChemstationUvState}
use Rattle.streams.specs.declared.ChemstationArrayState.{ChemstationArrayState}
use Rattle.streams.specs.declared.Scans.{Scans}
use Rattle.streams.specs.declared.Points.{Points}
use Rattle.streams.specs.declared.State.{State}
use Rattle.streams.specs.declared.State.TheVariants.{Fid, Ms, Mwd, Dad, Uv, Array, AtlasDad, AtlasUv}
use Rattle.chemstation.specs.Next.{fields}
use Rattle.fid.specs.Fid.{fid_made, fid_rule}
use Rattle.ms.specs.Ms.{ms_made, ms_point, ms_scans, ms_scanning}
use Rattle.mwd.specs.Mwd.{mwd_point, mwd_rule}
use Rattle.dad.specs.Dad.{dad_point, dad_begun, dad_scan, dad_onward, dad_scanning}
use Rattle.uv.specs.Uv.{uv_point, uv_begun, uv_scan, uv_left, uv_scanning}
use Rattle.array.specs.Array.{stored, array_rule}
use Rattle.atlas.specs.Atlas.{atlas_after, atlas_told, scan_due}
use Rattle.times.specs.Times.{ms_time, scan_time, in_minutes, scan_minutes, HasTime, stores, Splits, Carries, Timed, Agrees}

-- what a record that is told makes of a stored time and of a double in minutes, whatever its value
pub record Tells (st : State) (ms : ℕ) (clock : Float) (t : Told) : Type 0 where
  pub carries : (y : Float) → Carries (stores st) (t.makes.shows y) ms
  pub holds : (v : Sum Float) → stored_of (t.makes.then v) ≡ ms
  pub kind : (v : Sum Float) → stores (t.makes.then v) ≡ stores st
  pub shows : (y : Float) → HasTime (t.makes.shows y) clock
  pub timed : Agrees st → (y : Float) → Timed (t.makes.shows y)
  pub agrees : Agrees st → (v : Sum Float) → Agrees (t.makes.then v)

splits : (ms : ℕ) → Splits (ms / 60000) (ms % 60000) ms
splits ms = record { sum = omega arith; below = omega arith }

-- a time in minutes, of a stored time
whole : (x : Float) (ms : ℕ) → x ≡ double ms → minutes x ≡ minutes (double (ms / 60000 * 60000 + ms % 60000))
whole x ms e = ap minutes (e ∙ ap double (sym (splits ms).sum))

-- one of two rules, each with a time of its own
either : {st : State} {s : List ℕ} (b : Bool) {m n : ℕ} {c d : Float} {x y : Rule Told} → Leads (Tells st m c) x s → Leads (Tells st n d) y s → Leads (Tells st (cond b m n) (cond b c d)) (cond b x y) s
either true p q = p
either false p q = q

either_head : {st : State} {s : List ℕ} (b : Bool) {m n : ℕ} {x y : Rule Told} → Leads (Tells st m (in_minutes m)) x s → Leads (Tells st n (in_minutes n)) y s → Leads (Tells st (cond b m n) (in_minutes (cond b m n))) (cond b x y) s
either_head true p q = p
either_head false p q = q

-- records that come in scans
in_scans : {st : State} (f : Scanning) (s : List ℕ) {m n : ℕ} {c d : Float} → Leads (Tells st m c) f.scan s → Leads (Tells st n d) f.point s →
    Leads (Tells st (cond (eqb f.due 0) m n) (cond (eqb f.due 0) c d)) (scanning f) s
unfolding scanning
in_scans f s p q = leads_cond f.done (λ t. to_ends) (λ t. either (eqb f.due 0) p q)

-- ---- MS

module _ (st : ChemstationMsState) where
  ms_told : (scans : Scans) (points : Points) (time : Float) (ms m : ℕ) (cs : List Change) → (Agrees (Ms st) → time ≡ minutes (double ms)) → Tells (Ms st) ms time (told (ms_made scans points time ms m) cs)
  ms_told scans points time ms m cs h = record {
    carries = λ y. splits ms;
    holds = λ v. refl;
    kind = λ v. refl;
    shows = λ y. refl;
    timed = λ a y. h a ∙ whole (double ms) ms refl;
    agrees = λ a v. h a;
  }

  ms_point_lem : (scans : Scans) (points : Points) (time : Float) (ms : ℕ) (s : List ℕ) → (Agrees (Ms st) → time ≡ minutes (double ms)) → Leads (Tells (Ms st) ms time) (ms_point scans points time ms) s
  unfolding ms_point
  ms_point_lem scans points time ms s h =
      leads_number 2 be _ s (leads_number 2 be _ (drop 2 s) (leads_cond (eqb points.0 1)
      (λ t. leads_number 10 _ _ _ (to_gives (ms_told _ _ time ms _ _ h)))
      (λ t. to_gives (ms_told _ _ time ms _ _ h))))

  behind_empty : (s : List ℕ) → drop 10 (drop 12 (drop 4 (drop 2 s))) ≡ drop 28 s
  behind_empty s = rw (drop-drop 4 2 s, drop-drop 12 6 s, drop-drop 10 18 s)

  ms_scans_lem : (scans : ℕ) (s : List ℕ) → Leads (Tells (Ms st) (ms_time scans s) (in_minutes (ms_time scans s))) (ms_scans scans) s
  unfolding ms_scans
  ms_scans_lem zero s = to_ends
  ms_scans_lem (suc scans) s =
      leads_number 2 be _ s (leads_cond (ltb (be (take 2 s)) 14) (λ t. to_refuses)
      (λ t. leads_number 4 be _ (drop 2 s) (leads_number 12 _ _ (drop 4 (drop 2 s)) (either_head (eqb ((be (take 2 s) - 14) / 2) 0)
      (leads_number 10 _ _ (drop 12 (drop 4 (drop 2 s))) (rw (behind_empty s) (ms_scans_lem scans (drop 28 s))))
      (ms_point_lem _ _ _ _ _ (λ a. refl))))))

-- ---- DAD

module _ (st : ChemstationDadState) where
  dad_point_lem : (here : ChemstationDadState) (first : List Change) (s : List ℕ) → (Agrees (Dad st) → Agrees (Dad here)) → Leads (Tells (Dad st) here.stored_time (minutes here.cur_time)) (dad_point here first) s
  unfolding dad_point
  dad_point_lem here first s h = leads_map _ (delta le) s λ d. record {
    carries = λ y. splits here.stored_time;
    holds = λ v. refl;
    kind = λ v. refl;
    shows = λ y. refl;
    timed = λ a y. whole here.cur_time here.stored_time (h a);
    agrees = λ a v. h a;
  }

  dad_scan_lem : (scans : Scans) (s : List ℕ) → Leads (Tells (Dad st) (le (part 4 4 s)) (in_minutes (le (part 4 4 s)))) (dad_scan scans) s
  unfolding dad_scan
  dad_scan_lem scans s =
      leads_number 2 le _ s (leads_cond (eqb (le (take 2 s)) 67)
      (λ t. leads_number 2 le _ (drop 2 s) (rw (drop-drop 2 2 s) (leads_number 4 le _ (drop 4 s) (leads_number 2 le _ _ (leads_number 2 le _ _ (leads_number 2 le _ _ (leads_number 8 _ _ _
      (leads_cond (eqb (le (take 2 (drop 2 s)) - 22) 0) (λ t. to_ends) (λ t. dad_point_lem (dad_begun scans _ _ _ _) _ _ (λ a. refl))))))))))
      (λ t. to_ends))

-- ---- UV

module _ (st : ChemstationUvState) where
  uv_point_lem : (here : ChemstationUvState) (scans : Scans) (first : List Change) (s : List ℕ) → (Agrees (Uv st) → Agrees (Uv here)) → Leads (Tells (Uv st) here.stored_time here.cur_time) (uv_point here scans first) s
  unfolding uv_point
  uv_point_lem here scans first s h = leads_map _ (delta le) s λ d. record {
    carries = λ y. splits here.stored_time;
    holds = λ v. refl;
    kind = λ v. refl;
    shows = λ y. refl;
    timed = λ a y. h a ∙ whole (double here.stored_time) here.stored_time refl;
    agrees = λ a v. h a;
  }

  uv_scan_lem : (s : List ℕ) → Leads (Tells (Uv st) (le (part 4 4 s)) (in_minutes (le (part 4 4 s)))) (uv_scan st) s
  unfolding uv_scan
  uv_scan_lem s =
      let range = drop 4 (drop 4 s) in
      let behind = drop 2 (drop 2 range) in
      leads_number 4 _ _ s (leads_number 4 le _ (drop 4 s) (leads_number 2 le _ range (leads_number 2 le _ (drop 2 range) (leads_cond (ltb (le (take 2 (drop 2 range))) (le (take 2 range))) (λ t. to_refuses)
      (λ t. leads_number 2 le _ behind (leads_cond (eqb (le (take 2 behind)) 0) (λ t. to_refuses)
      (λ t. leads_number 8 _ _ (drop 2 behind) (uv_point_lem (uv_begun st _ _ _ _) _ _ _ (λ a. refl)))))))))

-- ---- the kinds that store no time

fid_tells : (st : ChemstationFidState) (s : List ℕ) → Leads (Tells (Fid st) 0 (double 0)) (fid_rule st) s
unfolding fid_rule
fid_tells st s =
    leads_may_end (leads_number 2 _ _ s (leads_cond (is_int (signed be (take 2 s)) (pos 32767))
    (λ t. leads_number 4 _ _ _ (leads_number 2 be _ _ (to_gives (told_so _))))
    (λ t. to_gives (told_so _))))
  where
    told_so : (cs : List Change) → Tells (Fid st) 0 (double 0) (told (fid_made st) cs)
    told_so cs = record { carries = λ y. tt; holds = λ v. refl; kind = λ v. refl; shows = λ y. tt; timed = λ a y. tt; agrees = λ a v. tt }

mwd_tells : (st : ChemstationMwdState) (s : List ℕ) → Leads (Tells (Mwd st) 0 (double 0)) (mwd_rule st) s
unfolding mwd_rule mwd_point
mwd_tells st s =
    leads_may_end (leads_cond (eqb st.n_wvs_left.0 0)
    (λ t. leads_number 2 be _ s (leads_cond (eqb (be (take 2 s) % 4096) 0) (λ t. to_ends) (λ t. here _ _)))
    (λ t. here _ s))
  where
    here : (points : Points) (bs : List ℕ) → Leads (Tells (Mwd st) 0 (double 0)) (mwd_point st points) bs
    here points bs = leads_map _ (delta be) bs λ d. record { carries = λ y. tt; holds = λ v. refl; kind = λ v. refl; shows = λ y. tt; timed = λ a y. tt; agrees = λ a v. tt }

array_tells : (st : ChemstationArrayState) (s : List ℕ) → Leads (Tells (Array st) 0 (double 0)) (array_rule st) s
unfolding array_rule
array_tells st s =
    leads_cond (eqb st.n_scans_left.0 0) (λ t. to_ends)
    (λ t. leads_map _ (stored st.record_type) s λ x. record { carries = λ y. tt; holds = λ v. refl; kind = λ v. refl; shows = λ y. tt; timed = λ a y. tt; agrees = λ a v. tt })

-- ---- the atlas reading: what a point of the plain one tells, it tells

module _ (k : ℕ) where
  atlas_stored : (x : State) → stored_of (atlas_after k x) ≡ stored_of x
  atlas_stored (Fid st) = refl
  atlas_stored (Ms st) = refl
  atlas_stored (Mwd st) = refl
  atlas_stored (Dad st) = refl
  atlas_stored (Uv st) = refl
  atlas_stored (Array st) = refl
  atlas_stored (AtlasDad st) = refl
  atlas_stored (AtlasUv st) = refl

  atlas_stores : (x : State) → stores (atlas_after k x) ≡ stores x
  atlas_stores (Fid st) = refl
  atlas_stores (Ms st) = refl
  atlas_stores (Mwd st) = refl
  atlas_stores (Dad st) = refl
  atlas_stores (Uv st) = refl
  atlas_stores (Array st) = refl
  atlas_stores (AtlasDad st) = refl
  atlas_stores (AtlasUv st) = refl

  atlas_agrees : (x : State) → Agrees x → Agrees (atlas_after k x)
  atlas_agrees (Fid st) a = a
  atlas_agrees (Ms st) a = a
  atlas_agrees (Mwd st) a = a
  atlas_agrees (Dad st) a = a
  atlas_agrees (Uv st) a = a
  atlas_agrees (Array st) a = a
  atlas_agrees (AtlasDad st) a = a
  atlas_agrees (AtlasUv st) a = a

  -- st is the state of the atlas reading, plain the one whose fields are read
  atlas_tells : (st plain : State) {ms : ℕ} {clock : Float} {t : Told} → stores st ≡ stores plain → (Agrees st → Agrees plain) → Tells plain ms clock t → Tells st ms clock (atlas_told k t)
  atlas_tells st plain {ms} {clock} {t} e a p = record {
    carries = λ y. subst (λ b. Carries b (t.makes.shows y) ms) (sym e) (p.carries y);
    holds = λ v. atlas_stored (t.makes.then v) ∙ p.holds v;
    kind = λ v. atlas_stores (t.makes.then v) ∙ p.kind v ∙ sym e;
    shows = p.shows;
    timed = λ h. p.timed (a h);
    agrees = λ h v. atlas_agrees (t.makes.then v) (p.agrees (a h) v);
  }

-- ---- all of them

dad_tells : (st : ChemstationDadState) (s : List ℕ) → Leads (Tells (Dad st) (scan_time (Dad st) s) (scan_minutes (Dad st) s)) (fields (Dad st)) s
dad_tells st s = in_scans (dad_scanning st) s (dad_scan_lem st st.n_scans_left s) (dad_point_lem st (dad_onward st) [] s (λ a. a))

uv_tells : (st : ChemstationUvState) (s : List ℕ) → Leads (Tells (Uv st) (scan_time (Uv st) s) (scan_minutes (Uv st) s)) (fields (Uv st)) s
uv_tells st s = in_scans (uv_scanning st) s (uv_scan_lem st s) (uv_point_lem st st (uv_left st) [] s (λ a. a))

pub tells : (st : State) (s : List ℕ) → Leads (Tells st (scan_time st s) (scan_minutes st s)) (fields st) s
tells (Fid st) s = fid_tells st s
tells (Ms st) s = in_scans (ms_scanning st) s (ms_scans_lem st st.n_scans_left.0 s) (ms_point_lem st _ _ _ _ s (λ a. a))
tells (Mwd st) s = mwd_tells st s
tells (Dad st) s = dad_tells st s
tells (Uv st) s = uv_tells st s
tells (Array st) s = array_tells st s
tells (AtlasDad st) s = leads_made _ (dad_tells (scan_due st) s) λ x p. atlas_tells _ (AtlasDad st) (Dad (scan_due st)) refl (λ a. a) p
tells (AtlasUv st) s = leads_made _ (uv_tells st s) λ x p. atlas_tells _ (AtlasUv st) (Uv st) refl (λ a. a) p
