-- What is found of an item is written.
use mathlib.Core.Path.{◌≡◌, refl, sym, ap, ◌∙◌, subst}
use mathlib.Core.Bool.{Bool, true, false, cond, ◌&&◌, ◌||◌, false≢true}
use mathlib.Core.List.{List, [], ◌∷◌, ◌++◌}
use Prim.Native.Nat.{ℕ, ◌+◌, ◌-◌, ◌*◌, ◌≤◌}
use native.Mathlib.Omega.{arith}
use lib.Dec.{eqb}
use lib.ListN.{length, drop, get_or, length-append}
use lib.Seq.{drop_at}
use borrow.Author.Tests.{eqb-true}
use borrow.Table.Steps.{cases as by}
use Rattle.common.specs.Ascii.{ascii}
use Rattle.utf8.specs.Utf8.{within}
use Rattle.utf8.proofs.Cases.{first, second, least, most}
use Rattle.items.specs.declared.Item.{Item}
use Rattle.items.specs.declared.Item.TheVariants.{Sign, Two, OneOrTwo, MonthName, HalfDay, PlusMinus}
use Rattle.std.proofs.Common.{Option, Some, None}
use Rattle.items.specs.declared.Found.{Found}
use Rattle.items.specs.Items.{passed as passed_of, valued, is_digit, lower, starts, ranged, two as two_of, one_or_two, month_names, month_named, half, stands_at}
use Rattle.items.specs.Writing.{digit_char, AnyCase, none, Writes, sign, two, one, or_two, month, am, pm, plus, minus}
use Rattle.items.proofs.Letters.{cased, spelled, short_of_month}

-- the first n characters of a text write a value of an item
pub record Stands (i : Item) (v : List ℕ) (n : ℕ) (t : List ℕ) : Type 0 where
  pub chars : List ℕ
  pub writes : Writes i v chars
  pub size : length chars ≡ n
  pub text : t ≡ chars ++ drop n t

pub data Stood (i : Item) (t : List ℕ) : Option Found → Type 0 where
  nothing : Stood i t None
  passed : {n : ℕ} → Stands i [] n t → Stood i t (passed_of n)
  value : {v n : ℕ} → Stands i (v ∷ []) n t → Stood i t (valued v n)

-- either side of a test
either : {i : Item} {t : List ℕ} {x y : Option Found} (b : Bool) → (b ≡ true → Stood i t x) → (b ≡ false → Stood i t y) → Stood i t (cond b x y)
either true f g = f refl
either false f g = g refl

-- characters at the start of a text
there : {i : Item} {v s : List ℕ} {n : ℕ} (t : List ℕ) → Writes i v s → length s ≡ n → Stands i v n (s ++ t)
there {s = s} {n} t w e = record { chars = s; writes = w; size = e; text = ap (λ (r : List ℕ). s ++ r) (sym (drop_at s t n e)) }

-- ---- signs

sign_stood : (c : ℕ) (t : List ℕ) → Stood (Sign c) t (cond (starts c t) (passed_of 1) None)
sign_stood c [] = nothing
sign_stood c (a ∷ t) = either (eqb a c) (λ e. rw (eqb-true a c e) (passed (there t sign refl))) (λ f. nothing)

plus_minus_stood : (t : List ℕ) → Stood PlusMinus t (cond (starts 43 t || starts 45 t) (passed_of 1) None)
plus_minus_stood [] = nothing
plus_minus_stood (a ∷ t) =
    either (eqb a 43 || eqb a 45)
    (λ e. by (eqb a 43)
    (λ p. rw (eqb-true a 43 p) (passed (there t plus refl)))
    (λ q. rw (eqb-true a 45 (simp q at e)) (passed (there t minus refl))))
    (λ f. nothing)

-- ---- numbers

-- a digit is the character of its number
digit_char_lem : (a : ℕ) → is_digit a ≡ true → (digit_char (a - 48) ≡ a) × (a - 48 ≤ 9)
digit_char_lem a e = (omega (arith, least 48 57 a e), omega (arith, most 48 57 a e))

-- two digits, of an item that is written by them
two_stood : (i : Item) (l m a b : ℕ) (t : List ℕ) → ((d e : ℕ) → d ≤ 9 → e ≤ 9 → l ≤ 10 * d + e → 10 * d + e ≤ m → Writes i ((10 * d + e) ∷ []) (digit_char d ∷ digit_char e ∷ []))
    → Stood i (a ∷ b ∷ t) (two_of l m a b)
two_stood i l m a b t make =
    let d = a - 48 in
    let u = b - 48 in
    either (is_digit a && is_digit b) (λ e.
    let p = digit_char_lem a (first (is_digit a) (is_digit b) e) in
    let q = digit_char_lem b (second (is_digit a) (is_digit b) e) in
    either (within l m (10 * d + u)) (λ r.
    let w = make d u p.1 q.1 (least l m (10 * d + u) r) (most l m (10 * d + u) r) in
    value (there t (subst (λ (y : ℕ). Writes i ((10 * d + u) ∷ []) (a ∷ y ∷ [])) q.0 (subst (λ (x : ℕ). Writes i ((10 * d + u) ∷ []) (x ∷ digit_char u ∷ [])) p.0 w)) refl))
    (λ f. nothing)) (λ f. nothing)

only_two : (l m : ℕ) (t : List ℕ) → Stood (Two l m) t (two_of l m (get_or t 0 0) (get_or t 1 0))
only_two l m [] = nothing
only_two l m (a ∷ []) = either (is_digit a && is_digit 0) (λ e. absurd (false≢true (second (is_digit a) (is_digit 0) e))) (λ f. nothing)
only_two l m (a ∷ b ∷ t) = two_stood (Two l m) l m a b t (λ d e p q r s. two p q r s)

one_stood : (l m a : ℕ) (t : List ℕ) → Stood (OneOrTwo l m) (a ∷ t) (cond (is_digit a) (ranged l m (a - 48) 1) None)
one_stood l m a t =
    either (is_digit a) (λ e.
    let p = digit_char_lem a e in
    either (within l m (a - 48)) (λ r.
    let w : Writes (OneOrTwo l m) ((a - 48) ∷ []) (digit_char (a - 48) ∷ []) = one p.1 (least l m (a - 48) r) (most l m (a - 48) r) in
    value (there t (subst (λ (x : ℕ). Writes (OneOrTwo l m) ((a - 48) ∷ []) (x ∷ [])) p.0 w) refl))
    (λ f. nothing)) (λ f. nothing)

one_or_two_lem : (l m : ℕ) (t : List ℕ) → Stood (OneOrTwo l m) t (one_or_two l m (get_or t 0 0) (get_or t 1 0))
one_or_two_lem l m [] = nothing
one_or_two_lem l m (a ∷ []) = one_stood l m a []
one_or_two_lem l m (a ∷ b ∷ t) = either (is_digit b) (λ e. two_stood (OneOrTwo l m) l m a b t (λ d e p q r s. or_two p q r s)) (λ f. one_stood l m a (b ∷ t))

-- ---- letters

half_stood : (t : List ℕ) → Stood HalfDay t (half (lower (get_or t 0 0)) (lower (get_or t 1 0)))
half_stood [] = nothing
half_stood (a ∷ []) = nothing
half_stood (a ∷ b ∷ t) =
    either (eqb (lower b) 109) (λ e.
    let m : AnyCase (b ∷ []) (109 ∷ []) = cased b 109 (eqb-true (lower b) 109 e) none in
    either (eqb (lower a) 97) (λ p. value (there t (am (cased a 97 (eqb-true (lower a) 97 p) m)) refl))
    (λ q. either (eqb (lower a) 112) (λ p. value (there t (pm (cased a 112 (eqb-true (lower a) 112 p) m)) refl)) (λ f. nothing)))
    (λ f. nothing)

short_month : (a b : ℕ) (t : List ℕ) → Stood MonthName t (ranged 1 12 (month_named a b 0) 3)
short_month a b t = rw (← short_of_month a b) nothing

month_stood : (t : List ℕ) → Stood MonthName t (ranged 1 12 (month_named (lower (get_or t 0 0)) (lower (get_or t 1 0)) (lower (get_or t 2 0))) 3)
month_stood [] = short_month _ _ []
month_stood (a ∷ []) = short_month _ _ (a ∷ [])
month_stood (a ∷ b ∷ []) = short_month _ _ (a ∷ b ∷ [])
month_stood (a ∷ b ∷ c ∷ t) =
    let m = month_named (lower a) (lower b) (lower c) in
    either (within 1 12 m) (λ e.
    let s : AnyCase (a ∷ b ∷ c ∷ []) (ascii (get_or month_names (m - 1) "")) = subst (AnyCase (a ∷ b ∷ c ∷ [])) (spelled (lower a) (lower b) (lower c) e) (cased a (lower a) refl (cased b (lower b) refl (cased c (lower c) refl none))) in
    value (there t (month (least 1 12 m e) (most 1 12 m e) s) refl))
    (λ f. nothing)

-- ---- an item

pub stood : (i : Item) (t : List ℕ) → Stood i t (stands_at i t)
unfolding stands_at
stood (Sign c) t = sign_stood c t
stood (Two l m) t = only_two l m t
stood (OneOrTwo l m) t = one_or_two_lem l m t
stood MonthName t = month_stood t
stood HalfDay t = half_stood t
stood PlusMinus t = plus_minus_stood t

long_enough : {i : Item} {v : List ℕ} {n : ℕ} {t : List ℕ} → Stands i v n t → n ≤ length t
long_enough {n = n} {t} s = omega (arith, ap length s.text ∙ length-append s.chars (drop n t), s.size)

-- an item ends within its text
pub ends_within : (i : Item) (t : List ℕ) (f : Found) → Some f ≡ stands_at i t → f.width ≤ length t
ends_within i t f e = of (stood i t) (sym e)
  where
    of : {g : Option Found} → Stood i t g → g ≡ Some f → f.width ≤ length t
    of nothing q = cc
    of (passed {n} s) q = let z : n ≡ f.width = cc in omega (arith, z, long_enough s)
    of (value {v} {n} s) q = let z : n ≡ f.width = cc in omega (arith, z, long_enough s)
