-- A state as numbers, and the numbers as a state.
use mathlib.Core.Path.{◌≡◌, refl, sym, subst}
use mathlib.Core.Bool.{Bool, true, false, cond}
use mathlib.Core.List.{List}
use Prim.Native.Nat.{ℕ}
use lib.Ieee.{Float}
use lib.Dec.{eqb}
use lib.ListN.{get_or}
use borrow.Author.Tests.{eqb-true}
use Rattle.streams.specs.Next.{atlas_of}
use Rattle.streams.specs.declared.State.{State}
use Rattle.streams.specs.declared.ChemstationArrayRecordType.{ChemstationArrayRecordType}
use Rattle.streams.specs.declared.ChemstationArrayRecordType.TheVariants.{Float32Array, Float64Array}
use Rattle.streams.specs.declared.State.TheVariants.{Fid, Ms, Mwd, Dad, Uv, Array, AtlasDad, AtlasUv}
use Rattle.std.specs.Prelude.{Option, Some, None}
use Rattle.states.specs.State.{type_number, reading_of, type_at, state_of, atlas_kept, state_by, KeepsStates}

same_type : (t : ChemstationArrayRecordType) → type_at (type_number t) ≡ t
same_type Float32Array = refl
same_type Float64Array = refl

pub keeps_states : KeepsStates
unfolding state_of state_by
keeps_states (Fid f) = refl
keeps_states (Ms m) = refl
keeps_states (Mwd m) = refl
keeps_states (Dad d) = refl
keeps_states (Uv u) = refl
keeps_states (Array a) = rw (same_type a.record_type)
keeps_states (AtlasDad d) = refl
keeps_states (AtlasUv u) = refl

-- ---- what is taken back under a reading is of that reading

abbrev Of : ℕ → Option State → Type 0
Of reading (Some st) = reading_of st ≡ reading
Of reading None = Unit

of_cond : (reading : ℕ) (b : Bool) (k l : Option State) → (b ≡ true → Of reading k) → (b ≡ false → Of reading l) → Of reading (cond b k l)
of_cond reading true k l p q = p refl
of_cond reading false k l p q = q refl

of_plain : (x : List Float) (n : List ℕ) (stored : ℕ) → Of 0 (state_of x n stored)
unfolding state_of
of_plain x n stored =
    let kind = get_or n 0 0 in
    of_cond 0 (eqb kind 1) _ _ (λ e. refl)
    (λ e. of_cond 0 (eqb kind 2) _ _ (λ e. refl)
    (λ e. of_cond 0 (eqb kind 3) _ _ (λ e. refl)
    (λ e. of_cond 0 (eqb kind 4) _ _ (λ e. refl)
    (λ e. of_cond 0 (eqb kind 5) _ _ (λ e. refl)
    (λ e. of_cond 0 (eqb kind 6) _ _ (λ e. refl) (λ e. tt))))))

of_atlas : (k : Option State) → Of 1 (atlas_kept k)
of_atlas (Some st) = of_cond 1 (eqb (reading_of (atlas_of st)) 1) _ _ (eqb-true (reading_of (atlas_of st)) 1) (λ e. tt)
of_atlas None = tt

of_reading : (reading : ℕ) (x : List Float) (n : List ℕ) (stored : ℕ) → Of reading (state_by reading x n stored)
unfolding state_by
of_reading reading x n stored =
    of_cond reading (eqb reading 0) _ _ (λ e. subst (λ k. Of k (state_of x n stored)) (sym (eqb-true reading 0 e)) (of_plain x n stored))
    (λ e. of_cond reading (eqb reading 1) _ _ (λ e. subst (λ k. Of k (atlas_kept (state_of x n stored))) (sym (eqb-true reading 1 e)) (of_atlas (state_of x n stored))) (λ e. tt))

pub kept_reading : (reading : ℕ) (x : List Float) (n : List ℕ) (stored : ℕ) {st : State} → state_by reading x n stored ≡ Some st → reading_of st ≡ reading
kept_reading reading x n stored e = subst (Of reading) e (of_reading reading x n stored)
