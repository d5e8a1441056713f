-- Each field lies within its edition's minimum, and suits its edition: computed over all rows at once.
use mathlib.Core.Path.{◌≡◌, refl, sym, ap, ◌∙◌}
use mathlib.Core.Bool.{Bool, true, false, ◌&&◌, ◌||◌, and-eq-true_iff, false≢true}
use mathlib.Core.List.{List, [], ◌∷◌, map}
use Prim.Native.Nat.{ℕ, zero, suc, ◌≤◌, ◌<◌}
use native.Mathlib.Omega.{arith}
use lib.Dec.{leb, ltb, eqb}
use lib.ListN.{get_or, get_or-eq_default, get_or-map}
use borrow.Author.Tests.{ne_eqb, eqb-true, le-leb, leb-true, leb-false}
use borrow.Table.Steps.{cases as by_bool}
use Rattle.pascal.specs.Texts.{reach}
use Rattle.layouts.specs.Table.{Entry, among, look, texts, field_of, minima}
use Rattle.layouts.specs.Editions.{editions}
use Rattle.pascal.specs.declared.TextField.{TextField}
use Rattle.pascal.specs.declared.TextField.TheVariants.{Absent, Pascal, PascalToEnd, Utf16}

-- ---- the law: lists that are computed to be equal are equal at each place

abbrev pub values : {A : Type 0} → ℕ → (ℕ → A) → List A
values zero f = []
values (suc n) f = f 0 ∷ values n (λ i. f (suc i))

get_d_values_lem : {A : Type 0} (n : ℕ) (f : ℕ → A) (d : A) (k : ℕ) → k < n → get_or (values n f) k d ≡ f k
get_d_values_lem zero f d k h = absurd (omega arith)
get_d_values_lem (suc n) f d zero h = refl
get_d_values_lem (suc n) f d (suc k) h = get_d_values_lem n (λ i. f (suc i)) d k (omega arith)

-- a table
pub table : {A : Type 0} (xs : List A) (d : A) (n : ℕ) (f : ℕ → A) → xs ≡ values n f → (k : ℕ) → k < n → get_or xs k d ≡ f k
table xs d n f e k h = ap (λ l. get_or l k d) e ∙ get_d_values_lem n f d k h

-- a rule
pub each : {A : Type 0} (n : ℕ) (f g : ℕ → A) → values n f ≡ values n g → (k : ℕ) → k < n → f k ≡ g k
each n f g e k h = sym (get_d_values_lem n f (f 0) k h) ∙ table _ (f 0) n g e k h

-- ---- an edition that no row names stands in none

abbrev pub every : {A : Type 0} → (A → Bool) → List A → Bool
every f [] = true
every f (x ∷ xs) = f x && every f xs

-- all that the rows name are editions
abbrev pub named : {A : Type 0} → List (Entry A) → Bool
named rs = every (λ r. every (among editions) r.editions) rs

module _ (e : ℕ) (n : among editions e ≡ false) where
  not_among : (xs : List ℕ) → every (among editions) xs ≡ true → among xs e ≡ false
  not_among [] k = refl
  not_among (x ∷ xs) k =
      let p = (and-eq-true_iff (among editions x) (every (among editions) xs)).0 k in
      rw (ne_eqb e x λ q. false≢true (sym n ∙ ap (among editions) q ∙ p.0)) (not_among xs p.1)

  pub look_other : {A : Type 0} (other : A) (rs : List (Entry A)) → named rs ≡ true → look other rs e ≡ other
  look_other other [] k = refl
  look_other other (r ∷ rs) k =
      let p = (and-eq-true_iff (every (among editions) r.editions) (named rs)).0 k in
      rw (not_among r.editions p.0) (look_other other rs p.1)

  pub no_minimum : look 0 minima e ≡ 0
  unfolding minima editions
  no_minimum = look_other 0 minima refl

  no_field : (k : ℕ) → k < 8 → field_of k e ≡ Absent
  unfolding field_of texts editions
  no_field k h = look_other Absent (get_or texts k []) (each 8 (λ k. named (get_or texts k [])) (λ k. true) refl k h)

-- ---- what is computed at each edition holds of every edition

either : (a b : Bool) {P : Type 0} → (a || b) ≡ true → (a ≡ true → P) → (b ≡ true → P) → P
either true b m f g = f refl
either false b m f g = g m

module _ {A : Type 0} (f g : ℕ → A) where
  same_among : (xs : List ℕ) → map f xs ≡ map g xs → (e : ℕ) → among xs e ≡ true → f e ≡ g e
  same_among [] k e m = absurd (false≢true m)
  same_among (x ∷ xs) k e m =
      let head : f x ≡ g x = cc in
      let tail : map f xs ≡ map g xs = cc in
      either (eqb e x) (among xs e) m (λ q. rw (eqb-true e x q) head) (λ q. same_among xs tail e q)

pub field_none : (k e : ℕ) → 8 ≤ k → field_of k e ≡ Absent
unfolding field_of texts
field_none k e h = ap (λ t. look Absent t e) (get_or-eq_default texts [] h)

-- UTF-16 stands in new editions only, and UTF-8 in old ones
abbrev pub suits : TextField → ℕ → Bool
suits Absent e = true
suits (Pascal start width) e = leb e 102
suits (PascalToEnd start) e = leb e 102
suits (Utf16 start) e = ltb 102 e

-- a field lies within its edition's minimum
abbrev lies : TextField → ℕ → Bool
lies f e = leb (reach f) (look 0 minima e)

-- what is computed of the fields of each edition, and holds of an absent one, holds of every field
field_all : (P : TextField → ℕ → Bool) → ((e : ℕ) → P Absent e ≡ true) → values 8 (λ k. map (λ e. P (field_of k e) e) editions) ≡ values 8 (λ k. map (λ _. true) editions) → (k e : ℕ) → P (field_of k e) e ≡ true
field_all P a q k e =
    by_bool (leb 8 k)
    (λ t. rw (field_none k e (leb-true 8 k t)) (a e))
    (λ t. let h = leb-false 8 k t in
    by_bool (among editions e)
    (same_among (λ e. P (field_of k e) e) (λ _. true) editions (each 8 (λ k. map (λ e. P (field_of k e) e) editions) (λ k. map (λ _. true) editions) q k h) e)
    (λ n. rw (no_field e n k h) (a e)))

pub field_suits : (k e : ℕ) → suits (field_of k e) e ≡ true
unfolding field_of texts editions
field_suits k e = field_all suits (λ e. refl) refl k e

pub field_lies : (k e : ℕ) → reach (field_of k e) ≤ look 0 minima e
unfolding field_of texts minima editions
field_lies k e = leb-true _ _ (field_all lies (λ e. le-leb 0 (look 0 minima e) (omega arith)) refl k e)

-- the fields of an edition, by the numbers of its texts less one
pub field_at : (k e : ℕ) → get_or (map (λ t. look Absent t e) texts) k Absent ≡ field_of k e
unfolding field_of
field_at k e = get_or-map (λ t. look Absent t e) texts k []
