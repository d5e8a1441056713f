-- The loop over the items of a form.
use mathlib.Core.Path.{◌≡◌, refl, sym, ap, ◌∙◌}
use mathlib.Core.List.{List, [], ◌∷◌, ◌++◌}
use Prim.Native.Nat.{ℕ, suc, ◌+◌, ◌-◌, ◌≤◌, ◌<◌}
use native.Mathlib.Numerals.{add-one}
use native.Mathlib.Omega.{arith}
use lib.Dec.{eqb}
use lib.ListN.{length, take, drop, get_or, length-drop, length-append}
use lib.Seq.{drop-cons, drop-length, take_all}
use borrow.Table.Steps.{cases as by}
use Rattle.arrayvec.specs.declared.array_vec.ArrayVec.{ArrayVec}
use Rattle.items.specs.declared.Item.{Item}
use Rattle.items.specs.declared.Item.TheVariants.{Sign}
use Rattle.dates.specs.declared.Form.{Form}
use Rattle.dates.specs.declared.Form.TheVariants.{First, Second, Third, Fourth}
use Rattle.std.proofs.Common.{Option, Some, None}
use Rattle.std.specs.Bool.{then_some}
use Rattle.std.specs.Option.{option_map}
use Rattle.items.specs.declared.Found.{Found}
use Rattle.items.specs.Items.{stands_at}
use Rattle.items.proofs.Sound.{ends_within}
use Rattle.dates.specs.Dates.{items_of, Values, before, onward, values_of}

-- values before others
abbrev before_all : List ℕ → Values → Values
before_all [] x = x
before_all (v ∷ vs) x = before v (before_all vs x)

one_more : (vs : List ℕ) (v : ℕ) (x : Values) → before_all (vs ++ (v ∷ [])) x ≡ before_all vs (before v x)
one_more [] v x = refl
one_more (w ∷ vs) v x = ap (before w) (one_more vs v x)

before_nothing : (vs : List ℕ) → before_all vs None ≡ None
before_nothing [] = refl
before_nothing (v ∷ vs) = ap (before v) (before_nothing vs)

before_end : (vs : List ℕ) → before_all vs (Some []) ≡ Some vs
before_end [] = refl
before_end (v ∷ vs) = ap (before v) (before_end vs)

-- behind k items, which gave these values, with the rest of the text
pub record Walked (is : List Item) (t values rest : List ℕ) (k : ℕ) : Type 0 where
  pub read : values_of is t ≡ before_all values (values_of (drop k is) rest)
  pub few : length values ≤ k
  pub items : k ≤ length is

pub begun : (is : List Item) (t : List ℕ) → Walked is t [] t 0
begun is t = record { read = refl; few = omega arith; items = omega arith }

module _ (is : List Item) (t values rest : List ℕ) (k : ℕ) (w : Walked is t values rest k) (h : k < length is) where
  abbrev item : Item
  item = get_or is k (Sign 0)

  -- the item at hand
  next_item : (f : Option Found) → f ≡ stands_at item rest → values_of is t ≡ before_all values (onward f (λ m. values_of (drop (suc k) is) (drop m rest)))
  unfolding values_of
  next_item f e =
      let onto : values_of (drop k is) rest ≡ onward (stands_at item rest) (λ m. values_of (drop (suc k) is) (drop m rest)) = rw (drop-cons is k (Sign 0) h) in
      w.read ∙ ap (before_all values) (rw (← e) at onto)

  pub not_found : None ≡ stands_at item rest → values_of is t ≡ None
  not_found e = next_item None e ∙ before_nothing values

  module _ (f : Found) (e : Some f ≡ stands_at item rest) where
    pub ends : f.width ≤ length rest
    ends = ends_within item rest f e

    left : take (length rest - f.width) (drop f.width rest) ≡ drop f.width rest
    left = take_all (length rest - f.width) (drop f.width rest) (simp length-drop (omega arith))

    pub on_passed : f.value ≡ None → Walked is t values (take (length rest - f.width) (drop f.width rest)) (k + 1)
    on_passed p = record { read = rw (add-one k, left) (rw p at (next_item (Some f) e)); few = omega (arith, w.few); items = omega arith }

    pub on_value : (v : ℕ) → f.value ≡ Some v → Walked is t (values ++ (v ∷ [])) (take (length rest - f.width) (drop f.width rest)) (k + 1)
    on_value v p =
        record {
          read = rw (add-one k, left) (rw p at (next_item (Some f) e) ∙ sym (one_more values v (values_of (drop (suc k) is) (drop f.width rest))));
          few = omega (arith, w.few, length-append values (v ∷ []));
          items = omega arith;
        }

-- behind the last item the text ends, or it does not have the form
pub ended : (is : List Item) (t : List ℕ) (values : ArrayVec ℕ 15 (Unit {0})) (rest : List ℕ) (k : ℕ) → Walked is t values.items rest k → length is ≤ k → option_map (λ (v : ArrayVec ℕ 15 (Unit {0})). v.items) (then_some (eqb (length rest) 0) values) ≡ values_of is t
unfolding values_of
ended is t values rest k w h =
    let d : drop k is ≡ [] = ap (λ (x : ℕ). drop x is) (omega (arith, w.items)) ∙ drop-length is in
    let r : values_of is t ≡ before_all values.items (values_of [] rest) = rw d at w.read in
    by (eqb (length rest) 0)
    (λ q.
    let g : values_of is t ≡ Some values.items = r ∙ rw q (before_end values.items) in
    rw (q, g))
    (λ q.
    let g : values_of is t ≡ None = r ∙ rw q (before_nothing values.items) in
    rw (q, g))

pub most_items : (f : Form) → length (items_of f) ≤ 15
most_items First = omega arith
most_items Second = omega arith
most_items Third = omega arith
most_items Fourth = omega arith
