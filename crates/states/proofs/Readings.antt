-- The state after a record is of the same reading as the one before it; so after any number of records.
use mathlib.Core.Path.{◌≡◌, refl, ◌∙◌}
use mathlib.Core.Bool.{Bool}
use mathlib.Core.List.{List}
use Prim.Native.Nat.{ℕ, zero, suc}
use lib.ListN.{drop}
use Rattle.rules.specs.Rule.{Read, got, stops, read}
use Rattle.rules.specs.Calls.{Item, go_on, read_up_to}
use Rattle.common.proofs.Every.{Gets, Leads, leads_made}
use Rattle.streams.specs.Told.{Told}
use Rattle.streams.specs.declared.State.{State}
use Rattle.streams.specs.declared.State.TheVariants.{Fid, Ms, Mwd, Dad, Uv, Array, AtlasDad, AtlasUv}
use Rattle.streams.specs.declared.Record.{Record}
use Rattle.ms.specs.Ms.{ms_scanning}
use Rattle.atlas.specs.Atlas.{atlas_after, atlas_told, scan_due}
use Rattle.chemstation.specs.Next.{fields, rule}
use Rattle.chemstation.proofs.Makes.{Makes, in_scans, fid_makes, ms_point_lem, ms_scans_lem, mwd_makes, dad_makes, uv_makes, array_makes, record_makes}
use Rattle.states.specs.State.{reading_of}

abbrev Stays : State → Told → Type 0
Stays st = Makes (λ x. reading_of x ≡ reading_of st)

abbrev Plain : State → Type 0
Plain x = reading_of x ≡ 0

-- by the plain rule's own states
abbrev Atlas : ℕ → State → Type 0
Atlas scans x = reading_of (atlas_after scans x) ≡ 1

fields_stay : (st : State) (s : List ℕ) → Leads (Stays st) (fields st) s
fields_stay (Fid st) s = fid_makes Plain (λ x. refl) st s
fields_stay (Ms st) s = in_scans Plain (ms_scanning st) s (ms_scans_lem Plain (λ x. refl) _ s) (ms_point_lem Plain (λ x. refl) _ _ _ _ s)
fields_stay (Mwd st) s = mwd_makes Plain (λ x. refl) st s
fields_stay (Dad st) s = dad_makes Plain (λ x. refl) st s
fields_stay (Uv st) s = uv_makes Plain (λ x. refl) st s
fields_stay (Array st) s = array_makes Plain (λ x. refl) st s
fields_stay (AtlasDad st) s =
    let scans = st.n_scans_left.0 in
    leads_made (atlas_told scans) (dad_makes (Atlas scans) (λ x. refl) (scan_due st) s) (λ t p. p)
fields_stay (AtlasUv st) s =
    let scans = st.n_scans_left.0 in
    leads_made (atlas_told scans) (uv_makes (Atlas scans) (λ x. refl) st s) (λ t p. p)

record_stays : (st : State) (last : Bool) (s : List ℕ) → Gets (λ x. reading_of x.after ≡ reading_of st) (read last (rule st) s)
record_stays st last s = record_makes (λ x. reading_of x ≡ reading_of st) st last s (fields_stay st s)

pub reading_stays : (last : Bool) (n : ℕ) (st : State) (s : List ℕ) → reading_of (read_up_to rule last n st s).state ≡ reading_of st
unfolding read_up_to
reading_stays last zero st s = refl
reading_stays last (suc n) st s = go (λ x bs. reading_stays last n x bs) (read last (rule st) s) (record_stays st last s)
  where
    go : ((x : State) (bs : List ℕ) → reading_of (read_up_to rule last n x bs).state ≡ reading_of x) → (x : Read (Item State Record)) → Gets (λ x. reading_of x.after ≡ reading_of st) x →
        reading_of (go_on st s (read_up_to rule last n) x).state ≡ reading_of st
    go onward (stops z) p = refl
    go onward (got x k) p = onward x.after (drop k s) ∙ p
