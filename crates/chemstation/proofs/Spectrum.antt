-- DAD and UV: what is answered of a state, by the plain reading's answer at its place; and which states these are.
use mathlib.Core.Path.{◌≡◌, refl, sym, ap, ◌∙◌}
use mathlib.Core.Logic.{inl, inr}
use mathlib.Core.Bool.{Bool}
use mathlib.Core.List.{List, [], ◌∷◌}
use Prim.Native.Nat.{ℕ}
use native.Mathlib.Omega.{arith}
use types.Run.{OneOf}
use denote.Enum.Declared.{tag_of}
use Rattle.rules.specs.Rule.{finished, Read, got, stops, read, ◌>>=◌, map_read}
use Rattle.rules.specs.Calls.{Item}
use Rattle.streams.specs.Next.{rule_by}
use Rattle.streams.specs.declared.State.{State}
use Rattle.streams.specs.declared.State.TheVariants.{Fid, Ms, Mwd, Dad, Uv, Array, AtlasDad, AtlasUv}
use Rattle.streams.specs.declared.Record.{Record}
use Rattle.streams.specs.contracts.State.{the_type}
use Rattle.dad.specs.Dad.{dad_rule}
use Rattle.uv.specs.Uv.{uv_rule}
use Rattle.atlas.specs.Atlas.{scan_due, debit_of, plain_of, item_by}
use Rattle.std.specs.Prelude.{None}
use Rattle.atlas.proofs.AtlasLaws.{atlas_reads}
use Rattle.chemstation.specs.Next.{fields, spectrum_fields}

-- a state's case is its tag: none of these
other_tag : (x : ℕ) → (x ≡ 3 → ⊥) → (x ≡ 4 → ⊥) → (x ≡ 6 → ⊥) → (x ≡ 7 → ⊥) → OneOf (3 ∷ 4 ∷ 6 ∷ 7 ∷ []) x → ⊥
other_tag x a b c d (inl e) = a e
other_tag x a b c d (inr (inl e)) = b e
other_tag x a b c d (inr (inr (inl e))) = c e
other_tag x a b c d (inr (inr (inr e))) = d e

-- the states of DAD and UV
pub of_spectra : (st : State) → OneOf (3 ∷ 4 ∷ 6 ∷ 7 ∷ []) (tag_of the_type st) → spectrum_fields st ≡ fields st
of_spectra (Dad st) k = refl
of_spectra (Uv st) k = refl
of_spectra (AtlasDad st) k = refl
of_spectra (AtlasUv st) k = refl
of_spectra (Fid st) k = absurd (other_tag 0 (λ e. omega arith) (λ e. omega arith) (λ e. omega arith) (λ e. omega arith) k)
of_spectra (Ms st) k = absurd (other_tag 1 (λ e. omega arith) (λ e. omega arith) (λ e. omega arith) (λ e. omega arith) k)
of_spectra (Mwd st) k = absurd (other_tag 2 (λ e. omega arith) (λ e. omega arith) (λ e. omega arith) (λ e. omega arith) k)
of_spectra (Array st) k = absurd (other_tag 5 (λ e. omega arith) (λ e. omega arith) (λ e. omega arith) (λ e. omega arith) k)

as_it_is : (x : Read (Item State Record)) → map_read (item_by None) x ≡ x
as_it_is (got x n) = refl
as_it_is (stops z) = refl

module _ (last : Bool) (s : List ℕ) where
  abbrev reads : State → Read (Item State Record)
  reads st = read last (rule_by st (spectrum_fields st)) s

  by_plain : (st : State) → map_read (item_by (debit_of st)) (reads (plain_of st)) ≡ reads st
  by_plain (Fid st) = as_it_is (reads (Fid st))
  by_plain (Ms st) = as_it_is (reads (Ms st))
  by_plain (Mwd st) = as_it_is (reads (Mwd st))
  by_plain (Dad st) = as_it_is (reads (Dad st))
  by_plain (Uv st) = as_it_is (reads (Uv st))
  by_plain (Array st) = as_it_is (reads (Array st))
  by_plain (AtlasDad st) = atlas_reads st.n_scans_left.0 (AtlasDad st) (Dad (scan_due st)) (dad_rule (scan_due st)) last s refl
  by_plain (AtlasUv st) = atlas_reads st.n_scans_left.0 (AtlasUv st) (Uv st) (uv_rule st) last s refl

  -- the plain state at a state's place is y
  pub plain_answers : (st y : State) → plain_of st ≡ y → map_read (item_by (debit_of st)) (reads y) ≡ reads st
  plain_answers st y e = ap (λ y. map_read (item_by (debit_of st)) (reads y)) (sym e) ∙ by_plain st

  -- no other kind has fields here
  abbrev Others : State → Type 0
  Others y = OneOf (0 ∷ 1 ∷ 2 ∷ 5 ∷ 6 ∷ 7 ∷ []) (tag_of the_type y)

  no_dad : (x : ℕ) → x ≡ 3 → OneOf (0 ∷ 1 ∷ 2 ∷ 5 ∷ 6 ∷ 7 ∷ []) x → ⊥
  no_dad x e (inl k) = omega arith
  no_dad x e (inr (inl k)) = omega arith
  no_dad x e (inr (inr (inl k))) = omega arith
  no_dad x e (inr (inr (inr (inl k)))) = omega arith
  no_dad x e (inr (inr (inr (inr (inl k))))) = omega arith
  no_dad x e (inr (inr (inr (inr (inr k))))) = omega arith

  no_uv : (x : ℕ) → x ≡ 4 → OneOf (0 ∷ 1 ∷ 2 ∷ 5 ∷ 6 ∷ 7 ∷ []) x → ⊥
  no_uv x e (inl k) = omega arith
  no_uv x e (inr (inl k)) = omega arith
  no_uv x e (inr (inr (inl k))) = omega arith
  no_uv x e (inr (inr (inr (inl k)))) = omega arith
  no_uv x e (inr (inr (inr (inr (inl k))))) = omega arith
  no_uv x e (inr (inr (inr (inr (inr k))))) = omega arith

  pub others_end : (st : State) → Others (plain_of st) → stops finished ≡ reads st
  unfolding read ◌>>=◌
  others_end (Fid st) k = refl
  others_end (Ms st) k = refl
  others_end (Mwd st) k = refl
  others_end (Array st) k = refl
  others_end (Dad st) k = absurd (no_dad 3 refl k)
  others_end (Uv st) k = absurd (no_uv 4 refl k)
  others_end (AtlasDad st) k = absurd (no_dad 3 refl k)
  others_end (AtlasUv st) k = absurd (no_uv 4 refl k)
