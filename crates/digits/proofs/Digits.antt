-- The loops that put digits, from the last, and that count them.
use mathlib.Core.Path.{◌≡◌, refl, sym, ap, ◌∙◌}
use mathlib.Core.Bool.{Bool, true, false, cond}
use mathlib.Core.List.{List, [], ◌∷◌, ◌++◌, append_assoc}
use Prim.Native.Nat.{ℕ, zero, suc, ◌+◌, ◌-◌, ◌*◌, ◌/◌, ◌%◌, ◌^◌, ◌≤◌, ◌<◌}
use native.Mathlib.Nat.{add-zero, add-suc, pow-suc, one-le-pow}
use native.Mathlib.Numerals.{add-one}
use native.Mathlib.Omega.{arith}
use borrow.Author.Tests.{ltb-true, ltb-false, lt-ltb, le-ltb}
use lib.Dec.{ltb}
use lib.ListN.{length, take, drop, set, length-append, length-set, take-append-drop}
use lib.Seq.{length-take-le, set_split, drop_at, take-set-le}
use Rattle.digits.specs.Put.{Put}
use Rattle.digits.specs.Numbers.{digit, digits, places}

by_test : (d : ℕ) (t : Bool) → ltb d 10 ≡ t → d < 16 → 48 + d + (d + 6) / 16 * 7 ≡ cond t (48 + d) (55 + d)
by_test d true e h = omega (arith, ltb-true d 10 e)
by_test d false e h = omega (arith, ltb-false d 10 e)

pub no_branch : (d : ℕ) → d < 16 → 48 + d + (d + 6) / 16 * 7 ≡ digit d
no_branch d h = by_test d (ltb d 10) refl h

pub length_digits : (b k n : ℕ) → length (digits b k n) ≡ k
length_digits b zero n = refl
length_digits b (suc k) n = length-append (digits b k (n / b)) (digit (n % b) ∷ []) ∙ rw (length_digits b k (n / b)) (add-one k)

-- ---- putting them

drop_set_same : (l : List ℕ) (k a : ℕ) → k < length l → drop k (set l k a) ≡ a ∷ drop (suc k) l
drop_set_same l k a h = ap (drop k) (set_split l k a h) ∙ drop_at (take k l) (a ∷ drop (suc k) l) k (length-take-le k l (omega arith))

-- i digits of k are still to be put, those of rest
pub record Digiting (base k n : ℕ) (old : List ℕ) (at : ℕ) (out : List ℕ) (i rest : ℕ) : Type 0 where
  pub low : i ≤ k
  pub same : length out ≡ length old
  pub front : take at out ≡ take at old
  pub behind : digits base i rest ++ drop (at + i) out ≡ digits base k n ++ drop (at + k) old

module _ {base k n : ℕ} {old : List ℕ} {at : ℕ} where
  pub digiting_start : Digiting base k n old at old k n
  digiting_start = record { low = omega arith; same = refl; front = refl; behind = refl }

  digiting_suc : {out : List ℕ} (j : ℕ) {rest : ℕ} → at + k ≤ length old → Digiting base k n old at out (suc j) rest →
      Digiting base k n old at (set out (at + j) (digit (rest % base))) j (rest / base)
  digiting_suc {out} j {rest} h g =
      let d = digit (rest % base) in
      let inside : at + j < length out = omega (arith, g.low, g.same) in
      record {
        low = omega (arith, g.low);
        same = length-set out (at + j) d ∙ g.same;
        front = take-set-le at out (at + j) d (omega arith) ∙ g.front;
        behind =
            ap (λ t. digits base j (rest / base) ++ t) (drop_set_same out (at + j) d inside)
            ∙ sym (append_assoc (digits base j (rest / base)) (d ∷ []) (drop (suc (at + j)) out))
            ∙ ap (λ m. digits base (suc j) rest ++ drop m out) (sym (add-suc at j))
            ∙ g.behind;
      }

  pub digiting_turn : {out : List ℕ} (i : ℕ) {rest d : ℕ} → 0 < i → at + k ≤ length old → d ≡ digit (rest % base) → Digiting base k n old at out i rest →
      Digiting base k n old at (set out (at + (i - 1)) d) (i - 1) (rest / base)
  digiting_turn zero l h e g = absurd (omega arith)
  digiting_turn (suc j) l h e g = let back : suc j - 1 ≡ j = omega arith in rw (back, e) (digiting_suc j h g)

  pub digiting_done : {out : List ℕ} (i : ℕ) {rest : ℕ} → i ≤ 0 → at + k ≤ length old → Digiting base k n old at out i rest → Put (digits base k n) at old (at + k) out
  digiting_done {out} zero z h g = record {
    next = ap (λ m. at + m) (sym (length_digits base k n));
    fits = h;
    same = g.same;
    holds = sym (take-append-drop at out) ∙ rw g.front (ap (λ t. take at old ++ t) (ap (λ m. drop m out) (sym (add-zero at)) ∙ g.behind));
  }
  digiting_done (suc i) z h g = absurd (omega arith)

-- ---- counting them

pub places_low : (others n : ℕ) → places others n ≤ suc others
places_low zero n = omega arith
places_low (suc others) n = go (ltb n 10) (places_low others (n / 10))
  where
    go : (t : Bool) → places others (n / 10) ≤ suc others → cond t 1 (suc (places others (n / 10))) ≤ suc (suc others)
    go true h = omega arith
    go false h = omega arith

-- a number from 10^k to below 10^(k + 1) has k + 1 of them
pub places_between : (others k n : ℕ) → k ≤ others → 10 ^ k ≤ n → n < 10 * 10 ^ k → suc k ≡ places others n
places_between zero zero n h low high = refl
places_between zero (suc k) n h low high = absurd (omega arith)
places_between (suc others) zero n h low high = rw (lt-ltb n 10 (omega arith)) refl
places_between (suc others) (suc k) n h low high =
    let power : 10 ^ suc k ≡ 10 ^ k * 10 = pow-suc 10 k in
    let wide : 10 ≤ n = omega (arith, power, one-le-pow k 10 (omega arith)) in
    rw (le-ltb n 10 wide) (ap suc (places_between others k (n / 10) (omega arith) (omega (arith, power)) (omega (arith, power))))
