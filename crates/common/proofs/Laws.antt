-- A number of m + n bytes is one of m and one of n bytes, joined: once for every width, and for both byte orders.
use mathlib.Core.Path.{◌≡◌, refl, sym, ap, ◌∙◌}
use mathlib.Core.List.{List, [], ◌∷◌, ◌++◌, reverse, reverse-append}
use mathlib.Core.Bool.{cond}
use Prim.Native.Nat.{ℕ, zero, suc, ◌+◌, ◌-◌, ◌*◌, ◌^◌, ◌≤◌, ◌<◌}
use native.Mathlib.Nat.{mul_left_comm, pow-succ'}
use native.Mathlib.Omega.{arith}
use lib.Dec.{ltb}
use lib.IntN.{pos, negsuc, ◌-ℤ◌}
use borrow.Author.Tests.{lt-ltb}
use Rattle.std.proofs.lemmas.List.{length-reverse}
use lib.ListN.{length, drop, length-take, length-drop}
use lib.Seq.{take-add, drop-drop}
use Rattle.common.specs.Bytes.{le, be, twos, part}

-- the law: the bytes a, and then b
-- Kept: (a) the law over width and order that docs/COVERAGE.md names.
pub le_join : (a b : List ℕ) → le (a ++ b) ≡ le b * 256 ^ length a + le a
le_join [] b = omega arith
le_join (x ∷ a) b =
    let next : le b * 256 ^ suc (length a) ≡ 256 * (le b * 256 ^ length a) = ap (λ p. le b * p) (pow-succ' 256 (length a)) ∙ mul_left_comm (le b) 256 (256 ^ length a) in
    omega (arith, le_join a b)

pub be_join : (a b : List ℕ) → be (a ++ b) ≡ be a * 256 ^ length b + be b
be_join a b = rw reverse-append (le_join (reverse b) (reverse a) ∙ rw length-reverse refl)

pub length_part : (at w : ℕ) (s : List ℕ) → at + w ≤ length s → length (part at w s) ≡ w
length_part at w s h = simp (length-take, length-drop) (omega arith)

module _ (s : List ℕ) (at m n : ℕ) where
  halves : part at (m + n) s ≡ part at m s ++ part (at + m) n s
  halves = take-add m n (drop at s) ∙ rw drop-drop refl

  pub be_halves : at + (m + n) ≤ length s → be (part at (m + n) s) ≡ be (part at m s) * 256 ^ n + be (part (at + m) n s)
  be_halves h = ap be halves ∙ be_join (part at m s) (part (at + m) n s) ∙ ap (λ w. be (part at m s) * 256 ^ w + be (part (at + m) n s)) (length_part (at + m) n s (omega arith))

  pub le_halves : at + (m + n) ≤ length s → le (part at (m + n) s) ≡ le (part (at + m) n s) * 256 ^ m + le (part at m s)
  le_halves h = ap le halves ∙ le_join (part at m s) (part (at + m) n s) ∙ ap (λ w. le (part (at + m) n s) * 256 ^ w + le (part at m s)) (length_part at m s (omega arith))

-- ---- two's complement

below_zero : (n m : ℕ) → n < m → pos n -ℤ pos m ≡ negsuc (m - suc n)
below_zero n zero h = absurd (omega arith)
below_zero n (suc m) h = rw (lt-ltb n (suc m) h) refl

-- as the machine reads n in so many bits
pub twos_is : (bits n : ℕ) → n < 2 ^ bits → cond (ltb n (2 ^ (bits - 1))) (pos n) (negsuc (2 ^ bits - suc n)) ≡ twos bits n
twos_is bits n h = ap (cond (ltb n (2 ^ (bits - 1))) (pos n)) (sym (below_zero n (2 ^ bits) h))
