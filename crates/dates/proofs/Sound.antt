-- What is found of the items of a form is written.
use mathlib.Core.Path.{◌≡◌, refl, sym, subst}
use mathlib.Core.List.{List, [], ◌∷◌}
use Prim.Native.Nat.{ℕ}
use lib.Dec.{eqb-suc-zero}
use lib.ListN.{length, drop}
use Rattle.items.specs.declared.Item.{Item}
use Rattle.items.specs.declared.Found.{Found}
use Rattle.items.proofs.Sound.{Stood, nothing, passed, value, stood}
use Rattle.std.proofs.Common.{Option, Some, None}
use Rattle.dates.specs.Dates.{Values, before, onward, values_of}
use Rattle.dates.specs.Grammar.{Written, none as nil, next}

step : (i : Item) (is : List Item) (t vs : List ℕ) → ((u us : List ℕ) → values_of is u ≡ Some us → Written is us u) → {f : Option Found} → Stood i t f → onward f (λ n. values_of is (drop n t)) ≡ Some vs → Written (i ∷ is) vs t
step i is t vs ih nothing e = cc
step i is t vs ih (passed {n} s) e = subst (λ (u : List ℕ). Written (i ∷ is) vs u) (sym s.text) (next s.writes (ih (drop n t) vs e))
step i is t vs ih (value {v} {n} s) e = behind (values_of is (drop n t)) refl e
  where
    behind : (x : Values) → values_of is (drop n t) ≡ x → before v x ≡ Some vs → Written (i ∷ is) vs t
    behind None p q = cc
    behind (Some us) p q =
        let z : v ∷ us ≡ vs = cc in
        subst (λ (x : List ℕ). Written (i ∷ is) x t) z (subst (λ (u : List ℕ). Written (i ∷ is) (v ∷ us) u) (sym s.text) (next s.writes (ih (drop n t) us p)))

pub written : (is : List Item) (t vs : List ℕ) → values_of is t ≡ Some vs → Written is vs t
unfolding values_of
written [] [] vs e = let z : [] ≡ vs = cc in subst (λ (x : List ℕ). Written [] x []) z nil
written [] (a ∷ t) vs e = let f : None ≡ Some vs = simp (eqb-suc-zero (length t)) at e in cc
written (i ∷ is) t vs e = step i is t vs (λ u us p. written is u us p) (stood i t) e
