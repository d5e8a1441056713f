-- The months by their names.
use mathlib.Core.Path.{◌≡◌, refl, sym, ◌∙◌}
use mathlib.Core.Bool.{Bool, true, ◌&&◌}
use mathlib.Core.List.{List, [], ◌∷◌}
use Prim.Native.Nat.{ℕ, suc, ◌+◌}
use native.Mathlib.Omega.{arith}
use lib.Dec.{eqb}
use Rattle.std.proofs.Math.Bool.{and-true, and_assoc}
use lib.ListN.{length, get_or}
use borrow.Table.Steps.{cases as by}
use native.Mathlib.Numerals.{add-one}
use borrow.Author.Tests.{eqb-true}
use Prim.Native.String.{String}
use Rattle.common.specs.Ascii.{ascii}
use Rattle.utf8.proofs.Cases.{first, second, inside}
use Rattle.std.proofs.Common.{map, ap, Option, Some, None}
use Rattle.std.specs.Cmp.Lexicographic.{pointwise}
use Rattle.std.specs.List.{position, position_from}
use Rattle.std.proofs.lemmas.Iterator.Adapters.{position_from-zero}
use Rattle.std.proofs.lemmas.List.Quantifiers.{position-Some}
use Rattle.std.specs.Option.{option_map_or}
use Rattle.items.specs.Items.{month_names, spells, named_from, month_named, ranged, valued}

pub three : (s : List ℕ) → length s ≡ 3 → s ≡ get_or s 0 0 ∷ get_or s 1 0 ∷ get_or s 2 0 ∷ []
three [] e = absurd (omega arith)
three (a ∷ []) e = absurd (omega arith)
three (a ∷ b ∷ []) e = absurd (omega arith)
three (a ∷ b ∷ c ∷ []) e = refl
three (a ∷ b ∷ c ∷ d ∷ s) e = absurd (omega arith)

abbrev sized : List String → Bool
sized [] = true
sized (name ∷ names) = eqb (length (ascii name)) 3 && sized names

all_sized : sized month_names ≡ true
all_sized = refl

module _ (a b c : ℕ) where
  abbrev is_name : List ℕ → Bool
  is_name name = pointwise eqb (a ∷ b ∷ c ∷ []) name

  spells_name : (name : String) → length (ascii name) ≡ 3 → is_name (ascii name) ≡ spells a b c name
  spells_name name h = rw (three (ascii name) h, and-true, and_assoc) refl

  -- the first name that is these letters, where the first of the list has the number i
  named_at : (names : List String) (i : ℕ) → sized names ≡ true → named_from (suc i) names a b c ≡ option_map_or suc (position_from is_name i (map ascii names)) 0
  named_at [] i h = refl
  named_at (name ∷ names) i h =
      let e = spells_name name (eqb-true (length (ascii name)) 3 (first (eqb (length (ascii name)) 3) (sized names) h)) in
      by (spells a b c name)
      (λ t. rw (e, t))
      (λ f. rw (e, f, add-one) (named_at names (suc i) (second (eqb (length (ascii name)) 3) (sized names) h)))

  -- the month is the place of its name
  abbrev pub place : Option ℕ
  place = position is_name (map ascii month_names)

  month_place : month_named a b c ≡ option_map_or suc place 0
  unfolding month_named
  month_place = named_at month_names 0 all_sized ∙ ap (λ (o : Option ℕ). option_map_or suc o 0) (sym (position_from-zero is_name (map ascii month_names)))

  pub no_month : place ≡ None → None ≡ ranged 1 12 (month_named a b c) 3
  no_month e = rw (month_place, e)

  pub a_month : (k : ℕ) → place ≡ Some k → valued (k + 1) 3 ≡ ranged 1 12 (month_named a b c) 3
  a_month k e =
      let h = (position-Some is_name (map ascii month_names) k [] e).0 in
      rw (month_place, e, inside 1 12 (suc k) (omega arith) (omega (arith, h)), add-one)
