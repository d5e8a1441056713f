-- What holds of every state that a kind makes of its own holds of the state behind each of its records.
use mathlib.Core.Bool.{Bool}
use mathlib.Core.List.{List, []}
use Prim.Native.Nat.{ℕ, zero, suc, ◌-◌, ◌/◌, ◌%◌}
use lib.Dec.{eqb, ltb}
use lib.IntN.{pos}
use lib.ListN.{take, drop}
use lib.Ieee.{Float}
use Rattle.rules.specs.Rule.{Read, got, stops, read, map_read}
use Rattle.rules.proofs.Laws.{read_map}
use Rattle.common.specs.Bytes.{be, le, signed}
use Rattle.common.proofs.Every.{Gets, Leads, to_gives, to_refuses, to_ends, leads, leads_number, leads_cond, leads_map, leads_may_end}
use Rattle.floats.specs.Wholes.{Sum}
use Rattle.streams.specs.Changes.{Change}
use Rattle.streams.specs.Told.{Told, is_int, delta}
use Rattle.streams.specs.Scanning.{Scanning, scanning}
use Rattle.streams.specs.Next.{sum_of, stepped}
use Rattle.streams.specs.declared.ChemstationFidState.{ChemstationFidState}
use Rattle.streams.specs.declared.ChemstationMsState.{ChemstationMsState}
use Rattle.streams.specs.declared.ChemstationMwdState.{ChemstationMwdState}
use Rattle.streams.specs.declared.ChemstationDadState.{ChemstationDadState}
use Rattle.streams.specs.declared.ChemstationUvState.{ChemstationUvState}
use Rattle.streams.specs.declared.ChemstationArrayState.{ChemstationArrayState}
use Rattle.streams.specs.declared.Scans.{Scans}
use Rattle.streams.specs.declared.Points.{Points}
use Rattle.streams.specs.declared.State.{State}
use Rattle.streams.specs.declared.State.TheVariants.{Fid, Ms, Mwd, Dad, Uv, Array}
use Rattle.fid.specs.Fid.{fid_rule}
use Rattle.ms.specs.Ms.{ms_point, ms_scans}
use Rattle.mwd.specs.Mwd.{mwd_point, mwd_rule}
use Rattle.dad.specs.Dad.{dad_point, dad_scan, dad_scanning, dad_rule}
use Rattle.uv.specs.Uv.{uv_point, uv_scan, uv_scanning, uv_rule}
use Rattle.array.specs.Array.{stored, array_rule}
use Rattle.chemstation.specs.Next.{fields, rule}

-- what holds of every state that the fields of a record can make
abbrev pub Makes : (State → Type 0) → Told → Type 0
Makes P t = (v : Sum Float) → P (t.makes.then v)

-- ---- each kind makes states of its own

module _ (P : State → Type 0) where
  pub in_scans : (f : Scanning) (s : List ℕ) → Leads (Makes P) f.scan s → Leads (Makes P) f.point s → Leads (Makes P) (scanning f) s
  unfolding scanning
  in_scans f s p q = leads_cond f.done (λ t. to_ends) (λ t. leads_cond (eqb f.due 0) (λ t. p) (λ t. q))

  module _ (own : (x : ChemstationFidState) → P (Fid x)) where
    pub fid_makes : (st : ChemstationFidState) (s : List ℕ) → Leads (Makes P) (fid_rule st) s
    unfolding fid_rule
    fid_makes st s =
        leads_may_end (leads_number 2 _ _ s (leads_cond (is_int (signed be (take 2 s)) (pos 32767))
        (λ t. leads_number 4 _ _ _ (leads_number 2 be _ _ (to_gives (λ v. own _))))
        (λ t. to_gives (λ v. own _))))

  module _ (own : (x : ChemstationMsState) → P (Ms x)) where
    pub ms_point_lem : (scans : Scans) (points : Points) (time : Float) (ms : ℕ) (s : List ℕ) → Leads (Makes P) (ms_point scans points time ms) s
    unfolding ms_point
    ms_point_lem scans points time ms s =
        leads_number 2 be _ s (leads_number 2 be _ _ (leads_cond (eqb points.0 1) (λ t. leads_number 10 _ _ _ (to_gives (λ v. own _))) (λ t. to_gives (λ v. own _))))

    pub ms_scans_lem : (scans : ℕ) (s : List ℕ) → Leads (Makes P) (ms_scans scans) s
    unfolding ms_scans
    ms_scans_lem zero s = to_ends
    ms_scans_lem (suc scans) s =
        leads_number 2 be _ s (leads_cond (ltb (be (take 2 s)) 14) (λ t. to_refuses)
        (λ t. leads_number 4 be _ _ (leads_number 12 _ _ _ (leads_cond (eqb ((be (take 2 s) - 14) / 2) 0) (λ t. leads_number 10 _ _ _ (ms_scans_lem scans _)) (λ t. ms_point_lem _ _ _ _ _)))))

  module _ (own : (x : ChemstationMwdState) → P (Mwd x)) where
    pub mwd_makes : (st : ChemstationMwdState) (s : List ℕ) → Leads (Makes P) (mwd_rule st) s
    unfolding mwd_rule mwd_point
    mwd_makes st s =
        leads_may_end (leads_cond (eqb st.n_wvs_left.0 0)
        (λ t. leads_number 2 be _ s (leads_cond (eqb (be (take 2 s) % 4096) 0) (λ t. to_ends) (λ t. here _ _)))
        (λ t. here _ s))
      where
        here : (points : Points) (bs : List ℕ) → Leads (Makes P) (mwd_point st points) bs
        here points bs = leads_map _ (delta be) bs λ d v. own _

  module _ (own : (x : ChemstationDadState) → P (Dad x)) where
    dad_point_lem : (st : ChemstationDadState) (first : List Change) (s : List ℕ) → Leads (Makes P) (dad_point st first) s
    unfolding dad_point
    dad_point_lem st first s = leads_map _ (delta le) s λ d v. own _

    dad_scan_lem : (scans : Scans) (s : List ℕ) → Leads (Makes P) (dad_scan scans) s
    unfolding dad_scan
    dad_scan_lem scans s =
        leads_number 2 le _ s (leads_cond (eqb (le (take 2 s)) 67)
        (λ t. leads_number 2 le _ (drop 2 s) (leads_number 4 le _ _ (leads_number 2 le _ _ (leads_number 2 le _ _ (leads_number 2 le _ _ (leads_number 8 _ _ _
        (leads_cond (eqb (le (take 2 (drop 2 s)) - 22) 0) (λ t. to_ends) (λ t. dad_point_lem _ _ _))))))))
        (λ t. to_ends))

    pub dad_makes : (st : ChemstationDadState) (s : List ℕ) → Leads (Makes P) (dad_rule st) s
    dad_makes st s = in_scans (dad_scanning st) s (dad_scan_lem _ s) (dad_point_lem _ [] s)

  module _ (own : (x : ChemstationUvState) → P (Uv x)) where
    uv_point_lem : (st : ChemstationUvState) (scans : Scans) (first : List Change) (s : List ℕ) → Leads (Makes P) (uv_point st scans first) s
    unfolding uv_point
    uv_point_lem st scans first s = leads_map _ (delta le) s λ d v. own _

    uv_scan_lem : (st : ChemstationUvState) (s : List ℕ) → Leads (Makes P) (uv_scan st) s
    unfolding uv_scan
    uv_scan_lem st s =
        let range = drop 4 (drop 4 s) in
        let behind = drop 2 (drop 2 range) in
        leads_number 4 _ _ s (leads_number 4 le _ _ (leads_number 2 le _ range (leads_number 2 le _ _ (leads_cond (ltb (le (take 2 (drop 2 range))) (le (take 2 range))) (λ t. to_refuses)
        (λ t. leads_number 2 le _ behind (leads_cond (eqb (le (take 2 behind)) 0) (λ t. to_refuses)
        (λ t. leads_number 8 _ _ _ (uv_point_lem _ _ _ _))))))))

    pub uv_makes : (st : ChemstationUvState) (s : List ℕ) → Leads (Makes P) (uv_rule st) s
    uv_makes st s = in_scans (uv_scanning st) s (uv_scan_lem st s) (uv_point_lem _ _ [] s)

  module _ (own : (x : ChemstationArrayState) → P (Array x)) where
    pub array_makes : (st : ChemstationArrayState) (s : List ℕ) → Leads (Makes P) (array_rule st) s
    unfolding array_rule
    array_makes st s = leads_cond (eqb st.n_scans_left.0 0) (λ t. to_ends) (λ t. leads_map _ (stored st.record_type) s λ x v. own _)

-- ---- the state behind a record

pub record_makes : (P : State → Type 0) (st : State) (last : Bool) (s : List ℕ) → Leads (Makes P) (fields st) s → Gets (λ x. P x.after) (read last (rule st) s)
record_makes P st last s h = rw (read_map last (stepped (sum_of st)) (fields st) s) (go (read last (fields st) s) (leads last h))
  where
    go : (x : Read Told) → Gets (Makes P) x → Gets (λ x. P x.after) (map_read (stepped (sum_of st)) x)
    go (got t n) p = p _
    go (stops z) p = tt
