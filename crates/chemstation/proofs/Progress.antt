-- Every record takes a byte at least.
use mathlib.Core.Path.{◌≡◌}
use mathlib.Core.Bool.{Bool}
use mathlib.Core.List.{List, []}
use Prim.Native.Nat.{ℕ, zero, suc, ◌<◌}
use native.Mathlib.Omega.{arith}
use lib.Dec.{eqb}
use Rattle.rules.specs.Rule.{got, read}
use Rattle.rules.specs.Calls.{Item}
use Rattle.rules.proofs.Takes.{Takes, first, end, takes_cond, takes_number, takes_map, takes_may_end, takes_some}
use Rattle.streams.specs.Told.{told, delta}
use Rattle.streams.specs.Scanning.{Scanning, scanning}
use Rattle.streams.specs.declared.State.{State}
use Rattle.streams.specs.declared.State.TheVariants.{Fid, Ms, Mwd, Dad, Uv, Array, AtlasDad, AtlasUv}
use Rattle.streams.specs.declared.Record.{Record}
use Rattle.streams.specs.declared.ChemstationDadState.{ChemstationDadState}
use Rattle.streams.specs.declared.ChemstationUvState.{ChemstationUvState}
use Rattle.streams.specs.declared.ChemstationArrayRecordType.{ChemstationArrayRecordType}
use Rattle.streams.specs.declared.ChemstationArrayRecordType.TheVariants.{Float32Array, Float64Array}
use Rattle.fid.specs.Fid.{fid_rule}
use Rattle.ms.specs.Ms.{ms_point, ms_scans}
use Rattle.mwd.specs.Mwd.{mwd_point, mwd_rule}
use Rattle.dad.specs.Dad.{dad_point, dad_scan, dad_rule}
use Rattle.uv.specs.Uv.{uv_point, uv_scan, uv_rule}
use Rattle.array.specs.Array.{array_made, stored, array_rule}
use Rattle.atlas.specs.Atlas.{scan_due}
use Rattle.chemstation.specs.Next.{fields, rule}

takes_delta : (order : List ℕ → ℕ) → Takes (delta order)
unfolding delta
takes_delta order = takes_number 2 _ _ (omega arith)

takes_scanning : (f : Scanning) → Takes f.scan → Takes f.point → Takes (scanning f)
unfolding scanning
takes_scanning f scan point = takes_cond f.done end (takes_cond (eqb f.due 0) scan point)

takes_scans : (scans : ℕ) → Takes (ms_scans scans)
unfolding ms_scans
takes_scans zero = end
takes_scans (suc scans) = takes_number 2 _ _ (omega arith)

takes_stored : (t : ChemstationArrayRecordType) → Takes (stored t)
takes_stored Float64Array = first {w = 8} (omega arith)
takes_stored Float32Array = first {w = 4} (omega arith)

takes_dad : (st : ChemstationDadState) → Takes (dad_rule st)
unfolding dad_point dad_scan
takes_dad st = takes_scanning _ (takes_number 2 _ _ (omega arith)) (takes_map _ (takes_delta _))

takes_uv : (st : ChemstationUvState) → Takes (uv_rule st)
unfolding uv_point uv_scan
takes_uv st = takes_scanning _ (takes_number 4 _ _ (omega arith)) (takes_map _ (takes_delta _))

takes_fields : (st : State) → Takes (fields st)
unfolding fid_rule ms_point mwd_rule mwd_point array_rule
takes_fields (Fid st) = takes_may_end (takes_number 2 _ _ (omega arith))
takes_fields (Ms st) = takes_scanning _ (takes_scans _) (takes_number 2 _ _ (omega arith))
takes_fields (Mwd st) = takes_may_end (takes_cond (eqb st.n_wvs_left.0 0) (takes_number 2 _ _ (omega arith)) (takes_map _ (takes_delta _)))
takes_fields (Dad st) = takes_dad st
takes_fields (Uv st) = takes_uv st
takes_fields (Array st) = takes_cond (eqb st.n_scans_left.0 0) end (takes_map (λ x. told (array_made st x) []) (takes_stored st.record_type))
takes_fields (AtlasDad st) = takes_map _ (takes_dad (scan_due st))
takes_fields (AtlasUv st) = takes_map _ (takes_uv st)

pub record_takes : (st : State) (last : Bool) (bs : List ℕ) {x : Item State Record} {n : ℕ} → read last (rule st) bs ≡ got x n → 0 < n
record_takes st last bs e = takes_some (takes_map _ (takes_fields st)) last bs e
