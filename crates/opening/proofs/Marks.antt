-- Bytes that are the same.
use mathlib.Core.Path.{◌≡◌, refl, sym, ap₂, ◌∙◌}
use mathlib.Core.Bool.{◌&&◌}
use mathlib.Core.List.{List, [], ◌∷◌}
use Prim.Native.Nat.{ℕ, ◌-◌}
use native.Mathlib.Omega.{arith}
use lib.Dec.{T, eqb, eqb→eq}
use lib.ListN.{length, drop, length-drop}
use lib.Pointwise.{pointwise}
use lib.Seq.{take_all}
use borrow.Author.Tests.{eqb-true, eqb-false, ne_eqb}
use borrow.Table.Steps.{cases as by_bool}
use Rattle.std.proofs.Common.{Some, None, Bor}
use Rattle.std.proofs.lemmas.Bool.{eq-eqb}
use Rattle.std.proofs.lemmas.List.{drop_all}
use Rattle.std.specs.Prelude.{Option}
use Rattle.std.specs.Option.{unwrap_or}
use Rattle.std.specs.Slice.{IsGetRangeResult}
use mir.Facts.{and_yes}
use Rattle.opening.specs.Opening.{same_bytes}

-- bytes that are the same by the test are the same
pub same_is : (l m : List ℕ) → T (same_bytes l m) → l ≡ m
same_is [] [] t = refl
same_is [] (b ∷ bs) t = absurd t
same_is (a ∷ r) [] t = absurd t
same_is (a ∷ r) (b ∷ bs) t = let p = and_yes (eqb a b) (same_bytes r bs) t in ap₂ (λ x xs. x ∷ xs) (eqb→eq a b p.0) (same_is r bs p.1)

same_order : (a b : ℕ) → eqb a b ≡ eqb b a
same_order a b = by_bool (eqb a b) (λ t. t ∙ sym (eq-eqb b a (sym (eqb-true a b t)))) (λ f. f ∙ sym (ne_eqb b a (λ e. eqb-false a b f (sym e))))

-- the library compares a prefix from the other side
pub marked : (l m : List ℕ) → pointwise eqb m l ≡ same_bytes l m
marked [] [] = refl
marked [] (b ∷ bs) = refl
marked (a ∷ r) [] = refl
marked (a ∷ r) (b ∷ bs) = ap₂ (λ x y. x && y) (same_order b a) (marked r bs)

-- what is behind a position, or nothing past the end
pub rest_of : (h : List ℕ) (at : ℕ) (r : Option (Bor (List ℕ))) (d : Bor (List ℕ)) → d.now ≡ [] → IsGetRangeResult h at (length h) r → (unwrap_or r d).now ≡ drop at h
rest_of h at None d z g = z ∙ sym (drop_all at h (omega (arith, g.0)))
rest_of h at (Some x) d z g = g.0.2 ∙ take_all (length h - at) (drop at h) (omega (arith, length-drop at h))
