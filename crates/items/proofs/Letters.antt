-- Letters in any case, and the names that they spell.
use mathlib.Core.Path.{◌≡◌, refl, sym, ap, ◌∙◌, subst, ap₂}
use mathlib.Core.Bool.{Bool, true, ◌&&◌}
use mathlib.Core.List.{List, [], ◌∷◌, ◌++◌, map}
use Prim.Native.Nat.{ℕ, zero, suc, ◌+◌, ◌-◌, ◌≤◌, ◌<◌}
use Prim.Native.String.{String}
use native.Mathlib.Omega.{arith}
use lib.Dec.{eqb}
use lib.ListN.{length, get_or, length-map, get_or-append, get_or-map}
use borrow.Author.Tests.{eqb-true}
use borrow.Table.Steps.{cases as by}
use Rattle.common.specs.Ascii.{ascii}
use Rattle.utf8.specs.Utf8.{within}
use Rattle.utf8.proofs.Cases.{first, second, least, most, inside, every, each}
use Rattle.std.proofs.Common.{Option, None, Some}
use Rattle.std.specs.Option.{option_map}
use Rattle.std.specs.List.{slice_get}
use Rattle.items.specs.declared.Item.TheVariants.{MonthName}
use Rattle.items.specs.Items.{lower, ranged, valued, stands_at, month_names, spells, named_from, month_named}
use Rattle.items.proofs.Items.{three, place, no_month, a_month}
use Rattle.items.specs.Writing.{AnyCase, none, small, capital}

-- a small letter
abbrev pub is_small : ℕ → Bool
is_small c = within 97 122 c

-- one letter more
pub cased : (c l : ℕ) {s name : List ℕ} → lower c ≡ l → AnyCase s name → AnyCase (c ∷ s) (l ∷ name)
cased c l {s} {name} e r =
    by (within 65 90 c)
    (λ t. subst (λ (x : ℕ). AnyCase (c ∷ s) (x ∷ name)) (simp t at e) (capital r))
    (λ f. subst (λ (x : ℕ). AnyCase (c ∷ s) (x ∷ name)) (simp f at e) (small r))

pub small_letter : (c : ℕ) → is_small c ≡ true → lower c ≡ c
small_letter c h =
    by (within 65 90 c)
    (λ t. absurd (omega (arith, least 97 122 c h, most 65 90 c t)))
    (λ f. simp f)

pub capital_letter : (c : ℕ) → is_small (c + 32) ≡ true → lower c ≡ c + 32
capital_letter c h = simp (inside 65 90 c (omega (arith, least 97 122 (c + 32) h)) (omega (arith, most 97 122 (c + 32) h)))

-- ---- names

abbrev name_at : ℕ → List ℕ
name_at k = ascii (get_or month_names k "")

abbrev letter : ℕ → ℕ → ℕ
letter k j = get_or (name_at k) j 0

abbrev smalls : List ℕ → Bool
smalls [] = true
smalls (c ∷ cs) = is_small c && smalls cs

-- each name has three small letters, and is found under its number
abbrev a_name : ℕ → Bool
a_name k = (eqb (length (name_at k)) 3 && smalls (name_at k)) && eqb (month_named (letter k 0) (letter k 1) (letter k 2)) (k + 1)

names : every a_name 12 ≡ true
unfolding month_named
names = refl

module _ (k : ℕ) (h : k < 12) where
  abbrev test : a_name k ≡ true
  test = each a_name 12 names k h

  abbrev sized : Bool
  sized = eqb (length (name_at k)) 3

  letters_three : name_at k ≡ letter k 0 ∷ letter k 1 ∷ letter k 2 ∷ []
  letters_three = three (name_at k) (eqb-true (length (name_at k)) 3 (first sized (smalls (name_at k)) (first (sized && smalls (name_at k)) _ test)))

  letters_small : smalls (name_at k) ≡ true
  letters_small = second sized (smalls (name_at k)) (first (sized && smalls (name_at k)) _ test)

  found_name : month_named (letter k 0) (letter k 1) (letter k 2) ≡ k + 1
  found_name = eqb-true (month_named (letter k 0) (letter k 1) (letter k 2)) (k + 1) (second (sized && smalls (name_at k)) _ test)

-- ---- which month it is

named : (n : ℕ) (names : List String) (a b c : ℕ) → 1 ≤ named_from n names a b c → (n ≤ named_from n names a b c) × (spells a b c (get_or names (named_from n names a b c - n) "") ≡ true)
named n [] a b c h = absurd (omega arith)
named n (name ∷ names) a b c h =
    by (spells a b c name)
    (λ e. let q : n - n ≡ 0 = omega arith in rw (e, q) (omega arith, e))
    (λ f.
    let r = named (suc n) names a b c (simp f at h) in
    let q : named_from (suc n) names a b c - n ≡ suc (named_from (suc n) names a b c - suc n) = omega (arith, r.0) in
    rw (f, q) (omega (arith, r.0), r.1))

-- the letters of a month that was found
pub spelled : (a b c : ℕ) → within 1 12 (month_named a b c) ≡ true → a ∷ b ∷ c ∷ [] ≡ ascii (get_or month_names (month_named a b c - 1) "")
unfolding month_named
spelled a b c h =
    let m = named_from 1 month_names a b c in
    let e = (named 1 month_names a b c (least 1 12 m h)).1 in
    let k = m - 1 in
    let p = eqb a (letter k 0) in
    let q = eqb b (letter k 1) in
    let r = eqb c (letter k 2) in
    rw (letters_three k (omega (arith, least 1 12 m h, most 1 12 m h)))
    (ap₃ (λ (x y z : ℕ). x ∷ y ∷ z ∷ []) (eqb-true a (letter k 0) (first p q (first (p && q) r e))) (eqb-true b (letter k 1) (second p q (first (p && q) r e))) (eqb-true c (letter k 2) (second (p && q) r e)))
  where
    ap₃ : (f : ℕ → ℕ → ℕ → List ℕ) {a b c x y z : ℕ} → a ≡ x → b ≡ y → c ≡ z → f a b c ≡ f x y z
    ap₃ f p q r = cc

-- behind the end of a text there is no letter
pub third_letter : (a b c : ℕ) → within 1 12 (month_named a b c) ≡ true → 97 ≤ c
third_letter a b c h =
    let m = month_named a b c in
    let e : smalls (a ∷ b ∷ c ∷ []) ≡ true = subst (λ (l : List ℕ). smalls l ≡ true) (sym (spelled a b c h)) (letters_small (m - 1) (omega (arith, least 1 12 m h, most 1 12 m h))) in
    least 97 122 c (first (is_small c) true (second (is_small b) (is_small c && true) (second (is_small a) (is_small b && (is_small c && true)) e)))

-- ---- the letters at the start of a text

-- a text of fewer than three characters has no name
pub short_of_month : (a b : ℕ) → None ≡ ranged 1 12 (month_named a b 0) 3
short_of_month a b = by (within 1 12 (month_named a b 0)) (λ e. absurd (omega (arith, third_letter a b 0 e))) (λ f. rw f)

abbrev letter_in : List ℕ → ℕ → Option ℕ
letter_in t k = option_map (λ (c : ℕ). lower c) (slice_get t k)

pub no_first : (t : List ℕ) → letter_in t 0 ≡ None → None ≡ stands_at MonthName t
unfolding stands_at
no_first [] e = short_of_month _ _
no_first (a ∷ t) e = cc

pub no_second : (t : List ℕ) → letter_in t 1 ≡ None → None ≡ stands_at MonthName t
unfolding stands_at
no_second [] e = short_of_month _ _
no_second (a ∷ []) e = short_of_month _ _
no_second (a ∷ b ∷ t) e = cc

pub no_third : (t : List ℕ) → letter_in t 2 ≡ None → None ≡ stands_at MonthName t
unfolding stands_at
no_third [] e = short_of_month _ _
no_third (a ∷ []) e = short_of_month _ _
no_third (a ∷ b ∷ []) e = short_of_month _ _
no_third (a ∷ b ∷ c ∷ t) e = cc

the_letter : (t : List ℕ) (k x : ℕ) → letter_in t k ≡ Some x → lower (get_or t k 0) ≡ x
the_letter [] k x e = cc
the_letter (a ∷ t) zero x e = cc
the_letter (a ∷ t) (suc k) x e = the_letter t k x e

module _ (t : List ℕ) (a b c : ℕ) (p : letter_in t 0 ≡ Some a) (q : letter_in t 1 ≡ Some b) (r : letter_in t 2 ≡ Some c) where
  by_letters : ranged 1 12 (month_named a b c) 3 ≡ stands_at MonthName t
  unfolding stands_at
  by_letters = rw (the_letter t 0 a p, the_letter t 1 b q, the_letter t 2 c r)

  pub no_name : place a b c ≡ None → None ≡ stands_at MonthName t
  no_name e = no_month a b c e ∙ by_letters

  pub the_name : (k : ℕ) → place a b c ≡ Some k → valued (k + 1) 3 ≡ stands_at MonthName t
  the_name k e = a_month a b c k e ∙ by_letters

-- ---- letters in any case, lowered

pub uncased : {s name : List ℕ} → AnyCase s name → smalls name ≡ true → map lower s ≡ name
uncased none h = refl
uncased (small {c} {name = name} r) h = ap₂ ◌∷◌ (small_letter c (first (is_small c) (smalls name) h)) (uncased r (second (is_small c) (smalls name) h))
uncased (capital {c} {name = name} r) h = ap₂ ◌∷◌ (capital_letter c (first (is_small (c + 32)) (smalls name) h)) (uncased r (second (is_small (c + 32)) (smalls name) h))

pub lowered_at : (s t name : List ℕ) (j : ℕ) → map lower s ≡ name → j < length name → lower (get_or (s ++ t) j 0) ≡ get_or name j 0
lowered_at s t name j e h =
    let n : j < length s = rw (sym (length-map s lower), e) h in
    ap lower (get_or-append s t 0 j n) ∙ sym (get_or-map lower s j 0) ∙ ap (λ (l : List ℕ). get_or l j 0) e

-- a month's name in any case is that month's
pub month_letters : (m : ℕ) (s t : List ℕ) → 1 ≤ m → m ≤ 12 → AnyCase s (ascii (get_or month_names (m - 1) ""))
    → (month_named (lower (get_or (s ++ t) 0 0)) (lower (get_or (s ++ t) 1 0)) (lower (get_or (s ++ t) 2 0)) ≡ m) × (length s ≡ 3)
month_letters m s t l h r =
    let k = m - 1 in
    let b : k < 12 = omega arith in
    let e = uncased r (letters_small k b) in
    let n : length (name_at k) ≡ 3 = rw (letters_three k b) refl in
    let at : (j : ℕ) → j < 3 → lower (get_or (s ++ t) j 0) ≡ letter k j = λ j q. lowered_at s t (name_at k) j e (omega arith) in
    let f : k + 1 ≡ m = omega arith in
    (rw (at 0 (omega arith), at 1 (omega arith), at 2 (omega arith)) (found_name k b ∙ f), sym (length-map s lower) ∙ ap length e ∙ n)
