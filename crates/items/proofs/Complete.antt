-- What is written is found, of an item.
use mathlib.Core.Path.{◌≡◌, refl, sym, ap, ◌∙◌}
use mathlib.Core.Bool.{true, false, cond}
use mathlib.Core.List.{List, [], ◌∷◌, ◌++◌, map}
use Prim.Native.Nat.{ℕ, ◌+◌, ◌-◌, ◌*◌, ◌≤◌}
use native.Mathlib.Omega.{arith}
use lib.ListN.{length, get_or, length-map}
use borrow.Author.Tests.{eq-eqb}
use Rattle.common.specs.Ascii.{ascii}
use Rattle.utf8.proofs.Cases.{both, inside}
use Rattle.items.specs.declared.Item.{Item}
use Rattle.items.specs.declared.Item.TheVariants.{Sign, Two, OneOrTwo, MonthName, HalfDay, PlusMinus}
use Rattle.std.proofs.Common.{Option, None}
use Rattle.std.proofs.lemmas.Bool.{cond-true}
use Rattle.items.specs.declared.Found.{Found}
use Rattle.items.specs.Items.{passed, valued, is_digit, lower, ranged, two as two_of, half, stands_at}
use Rattle.items.specs.Writing.{digit_char, Writes, sign, two, one, or_two, month, am, pm, plus, minus}
use Rattle.items.proofs.Letters.{uncased, lowered_at, month_letters}

digit_in : (d : ℕ) → d ≤ 9 → is_digit (digit_char d) ≡ true
digit_in d h = inside 48 57 (48 + d) (omega arith) (omega arith)

two_found : (l m d e : ℕ) → d ≤ 9 → e ≤ 9 → l ≤ 10 * d + e → 10 * d + e ≤ m → two_of l m (digit_char d) (digit_char e) ≡ valued (10 * d + e) 2
two_found l m d e p q r s =
    let x : 48 + d - 48 ≡ d = omega arith in
    let y : 48 + e - 48 ≡ e = omega arith in
    rw (both (digit_in d p) (digit_in e q), x, y, inside l m (10 * d + e) r s)

half_found : (s t name : List ℕ) (v : ℕ) → map lower s ≡ name → length name ≡ 2 → half (get_or name 0 0) (get_or name 1 0) ≡ valued v 2
    → half (lower (get_or (s ++ t) 0 0)) (lower (get_or (s ++ t) 1 0)) ≡ valued v (length s)
half_found s t name v m n h =
    let e : length s ≡ 2 = sym (length-map s lower) ∙ ap length m ∙ n in
    rw (lowered_at s t name 0 m (omega arith), lowered_at s t name 1 m (omega arith), e) h

-- what must stand behind an item: no digit behind a number that may have one or two
abbrev pub Clear : Item → List ℕ → Type 0
Clear (Sign c) t = Unit
Clear (Two l m) t = Unit
Clear (OneOrTwo l m) t = is_digit (get_or t 0 0) ≡ false
Clear MonthName t = Unit
Clear HalfDay t = Unit
Clear PlusMinus t = Unit

-- a value, or none, of so many characters
abbrev pub found_of : List ℕ → ℕ → Option Found
found_of [] n = passed n
found_of (v ∷ vs) n = valued v n

pub found : {i : Item} {v s : List ℕ} → Writes i v s → (t : List ℕ) → Clear i t → stands_at i (s ++ t) ≡ found_of v (length s)
unfolding stands_at
found (sign {c}) t q = rw (eq-eqb c c refl)
found (two {least = l} {most = m} {d} {e} h k a b) t q = two_found l m d e h k a b
found (one {least = l} {most = m} {d} h a b) t q = let x : 48 + d - 48 ≡ d = omega arith in rw (q, digit_in d h, x, inside l m d a b)
found (or_two {least = l} {most = m} {d} {e} h k a b) t q =
    let one = cond (is_digit (digit_char d)) (ranged l m (digit_char d - 48) 1) None in
    cond-true (is_digit (digit_char e)) (two_of l m (digit_char d) (digit_char e)) one (digit_in e k) ∙ two_found l m d e h k a b
found (month {m} {s} a b r) t q = let p = month_letters m s t a b r in rw (p.0, p.1, inside 1 12 m a b)
found (am {s} r) t q = half_found s t (ascii "am") 0 (uncased r refl) refl refl
found (pm {s} r) t q = half_found s t (ascii "pm") 12 (uncased r refl) refl refl
found plus t q = refl
found minus t q = refl

-- an item has a value, or none
pub data AtMostOne : List ℕ → Type 0 where
  no_value : AtMostOne []
  a_value : {v : ℕ} → AtMostOne (v ∷ [])

pub at_most_one : {i : Item} {v s : List ℕ} → Writes i v s → AtMostOne v
at_most_one sign = no_value
at_most_one (two p q a b) = a_value
at_most_one (one p a b) = a_value
at_most_one (or_two p q a b) = a_value
at_most_one (month a b r) = a_value
at_most_one (am r) = a_value
at_most_one (pm r) = a_value
at_most_one plus = no_value
at_most_one minus = no_value
