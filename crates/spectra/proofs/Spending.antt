-- The scans due behind a point, and that the reading stays.
use mathlib.Core.Path.{◌≡◌, refl, subst}
use mathlib.Core.Bool.{Bool}
use mathlib.Core.List.{List}
use Prim.Native.Nat.{ℕ}
use borrow.Author.Tests.{eq-eqb, ne_eqb}
use Rattle.rules.specs.Rule.{got, read}
use Rattle.rules.specs.Calls.{Item}
use Rattle.common.proofs.Every.{Gets, Leads, leads_made}
use Rattle.streams.specs.declared.ChemstationDadState.{ChemstationDadState}
use Rattle.streams.specs.declared.ChemstationUvState.{ChemstationUvState}
use Rattle.streams.specs.declared.State.{State}
use Rattle.streams.specs.declared.State.TheVariants.{AtlasDad, AtlasUv}
use Rattle.streams.specs.declared.Record.{Record}
use Rattle.atlas.specs.Atlas.{spent, scan_due, atlas_after, atlas_told}
use Rattle.chemstation.specs.Next.{fields, rule}
use Rattle.chemstation.proofs.Makes.{Makes, dad_makes, uv_makes, record_makes}
use Rattle.spectra.specs.Spectra.{Spends, DadSpends, UvSpends}

spends : (k due : ℕ) → Spends k (spent k due) due
spends k due = record { last = λ e. rw (eq-eqb due 0 e) refl; within = λ e. rw (ne_eqb due 0 e) refl }

pub dad_spends : (st : ChemstationDadState) (last : Bool) (s : List ℕ) (x : Item State Record) (n : ℕ) → read last (rule (AtlasDad st)) s ≡ got x n → DadSpends st.n_scans_left.0 x.after
dad_spends st last s x n e =
    let k = st.n_scans_left.0 in
    let all : Leads (Makes (DadSpends k)) (fields (AtlasDad st)) s = leads_made (atlas_told k) (dad_makes (λ y. DadSpends k (atlas_after k y)) (λ y. spends k y.n_bytes_left.0) (scan_due st) s) (λ t p. p) in
    subst (Gets (λ i. DadSpends k i.after)) e (record_makes (DadSpends k) (AtlasDad st) last s all)

pub uv_spends : (st : ChemstationUvState) (last : Bool) (s : List ℕ) (x : Item State Record) (n : ℕ) → read last (rule (AtlasUv st)) s ≡ got x n → UvSpends st.n_scans_left.0 x.after
uv_spends st last s x n e =
    let k = st.n_scans_left.0 in
    let all : Leads (Makes (UvSpends k)) (fields (AtlasUv st)) s = leads_made (atlas_told k) (uv_makes (λ y. UvSpends k (atlas_after k y)) (λ y. spends k y.n_wvs_left.0) st s) (λ t p. p) in
    subst (Gets (λ i. UvSpends k i.after)) e (record_makes (UvSpends k) (AtlasUv st) last s all)
