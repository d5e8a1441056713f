-- Eight digits made at once, in the fields of a word.
use mathlib.Core.Path.{◌≡◌, refl, sym, ap, ap₂, ◌∙◌, subst}
use mathlib.Core.List.{List, [], ◌∷◌, ◌++◌, append_assoc, append-nil}
use Prim.Native.Nat.{ℕ, zero, suc, ◌+◌, ◌-◌, ◌*◌, ◌/◌, ◌%◌, ◌^◌, ◌≤◌, ◌<◌}
use native.Mathlib.Nat.{mod-lt, mod-eq_of_lt, lt_of_lt_of_le, add-zero, add-suc, add_comm, add_assoc, add_left_comm, add-mul, zero-mul, mul_comm, mul_assoc, pow-suc, one-le-pow, div-one, div-div-eq-div-mul, sub-add_cancel, div-lt_iff_lt-mul}
use native.Mathlib.Omega.{arith}
use lib.ListN.{length}
use lib.Arith.{digits_div, digits_mod, mod-mul}
use lib.Bits.{bit_and, and_block, and_mask, and_zero_r, and_le_r}
use lib.Pow.{pow-add, pow_pos, pow_mono, split, shr-shr, mod-pow-add, mod-mod-pow, ones_lt}
use Rattle.common.specs.Bytes.{le, AreBytes}
use Rattle.common.proofs.Laws.{le_join}
use Rattle.digits.specs.Numbers.{digit, digits}
use Rattle.std.specs.Int.{byte_at, bytes_low_first, to_le_bytes}
use mir.Syntax.{w128}
use Rattle.digits.proofs.Digits.{no_branch}

-- ---- digits of halves

-- the last k digits of x, and those before
digits_parted : (k j x : ℕ) → digits 16 (j + k) x ≡ digits 16 j (x / 16 ^ k) ++ digits 16 k (x % 16 ^ k)
digits_parted zero j x = rw (add-zero j, div-one x) (sym (append-nil (digits 16 j x)))
digits_parted (suc k) j x =
    let low : x % (16 ^ k * 16) ≡ (x / 16 % 16 ^ k) * 16 + x % 16 = mod-mul x (one-le-pow k 16 (omega arith)) (omega arith) in
    let upper : x / (16 ^ k * 16) ≡ x / 16 / 16 ^ k = ap (λ m. x / m) (mul_comm (16 ^ k) 16) ∙ sym (div-div-eq-div-mul x 16 (16 ^ k)) in
    let rest : x % (16 ^ k * 16) / 16 ≡ x / 16 % 16 ^ k = ap (λ m. m / 16) low ∙ digits_div (x / 16 % 16 ^ k) (mod-lt x (omega arith)) in
    let last : x % (16 ^ k * 16) % 16 ≡ x % 16 = ap (λ m. m % 16) low ∙ digits_mod (x / 16 % 16 ^ k) (mod-lt x (omega arith)) in
    rw (add-suc j k, pow-suc 16 k, upper, rest, last, digits_parted k j (x / 16)) (append_assoc (digits 16 j (x / 16 / 16 ^ k)) (digits 16 k (x / 16 % 16 ^ k)) (digit (x % 16) ∷ []))

-- the halves of each number, the upper first
abbrev halves : ℕ → List ℕ → List ℕ
halves d [] = []
halves d (x ∷ l) = x / d ∷ x % d ∷ halves d l

-- j digits of each number
abbrev texts : ℕ → List ℕ → List ℕ
texts j [] = []
texts j (x ∷ l) = digits 16 j x ++ texts j l

texts_halves : (j : ℕ) (l : List ℕ) → texts j (halves (16 ^ j) l) ≡ texts (j + j) l
texts_halves j [] = refl
texts_halves j (x ∷ l) = rw (digits_parted j j x, append_assoc, texts_halves j l) refl

-- ---- fields

-- every number is below b
abbrev Below : ℕ → List ℕ → Type 0
Below b [] = Unit
Below b (x ∷ l) = (x < b) × Below b l

-- the numbers in fields of w bits, the first in the lowest
abbrev fields : ℕ → List ℕ → ℕ
fields w [] = 0
fields w (x ∷ l) = fields w l * 2 ^ w + x

-- the k low bits of as many fields
abbrev lows : ℕ → ℕ → List ℕ → ℕ
lows w k [] = 0
lows w k (x ∷ l) = lows w k l * 2 ^ w + (2 ^ k - 1)

mod_low : (n k w : ℕ) → k ≤ w → n % 2 ^ w % 2 ^ k ≡ n % 2 ^ k
mod_low n k w h = ap (λ v. n % 2 ^ v % 2 ^ k) (sym (sub-add_cancel h)) ∙ mod-mod-pow n (w - k) k

-- a mask's lowest field keeps the k low bits of n, and the rest of the mask meets the rest of n
low_field : (w k n e : ℕ) → k ≤ w → bit_and n (e * 2 ^ w + (2 ^ k - 1)) ≡ bit_and (n / 2 ^ w) e * 2 ^ w + n % 2 ^ k
low_field w k n e h =
    ap (λ m. bit_and m (e * 2 ^ w + (2 ^ k - 1))) (sym (split n w))
    ∙ and_block w (n / 2 ^ w) e (n % 2 ^ w) (2 ^ k - 1) (mod-lt n (pow_pos w)) (lt_of_lt_of_le (ones_lt k) (pow_mono h))
    ∙ ap (λ m. bit_and (n / 2 ^ w) e * 2 ^ w + m) (and_mask (n % 2 ^ w) k ∙ mod_low n k w h)

regroup : (p q r s d : ℕ) → (p * (d * d) + r) * d + (q * (d * d) + s) ≡ ((p * d + q) * d + r) * d + s
regroup p q r s d = simp (add-mul, mul_assoc, add_assoc, add_comm, add_left_comm)

-- the halves of all fields, parted at once: the program's sum, and what it is
abbrev part : ℕ → ℕ → ℕ → ℕ
part k mask y = bit_and y mask * 2 ^ (k + k) + bit_and (y / 2 ^ k) mask

parted : (k : ℕ) (l : List ℕ) → Below (2 ^ (k + k)) l → part k (lows (k + k + (k + k)) k l) (fields (k + k + (k + k)) l) ≡ fields (k + k) (halves (2 ^ k) l)
parted k [] h = rw (and_zero_r (0 / 2 ^ k), zero-mul (2 ^ (k + k))) refl
parted k (x ∷ l) h =
    let w = k + k + (k + k) in
    let v = fields w l in
    let n = v * 2 ^ w + x in
    let e = lows w k l in
    let fits : x < 2 ^ w = lt_of_lt_of_le h.0 (pow_mono (omega arith)) in
    let rest : n / 2 ^ w ≡ v = digits_div v fits in
    let rest_half : n / 2 ^ k / 2 ^ w ≡ v / 2 ^ k = shr-shr n k w ∙ ap (λ e. n / 2 ^ e) (add_comm k w) ∙ sym (shr-shr n w k) ∙ ap (λ m. m / 2 ^ k) rest in
    let whole : n % 2 ^ (k + k) ≡ x = sym (mod_low n (k + k) w (omega arith)) ∙ ap (λ m. m % 2 ^ (k + k)) (digits_mod v fits) ∙ mod-eq_of_lt h.0 in
    let low : n % 2 ^ k ≡ x % 2 ^ k = sym (mod_low n k (k + k) (omega arith)) ∙ ap (λ m. m % 2 ^ k) whole in
    let high : n / 2 ^ k % 2 ^ k ≡ x / 2 ^ k = sym (ap (λ m. m / 2 ^ k) (sym whole ∙ mod-pow-add n k k) ∙ digits_div (n / 2 ^ k % 2 ^ k) (mod-lt n (pow_pos k))) in
    ap₂ (λ a b. a * 2 ^ (k + k) + b) (low_field w k n e (omega arith)) (low_field w k (n / 2 ^ k) e (omega arith))
    ∙ rw (rest, rest_half, low, high, pow-add 2 (k + k) (k + k))
    (regroup (bit_and v e) (bit_and (v / 2 ^ k) e) (x % 2 ^ k) (x / 2 ^ k) (2 ^ (k + k)) ∙ ap (λ m. (m * 2 ^ (k + k) + x % 2 ^ k) * 2 ^ (k + k) + x / 2 ^ k) (parted k l h.1))

below_halves : (d : ℕ) (l : List ℕ) → 0 < d → Below (d * d) l → Below d (halves d l)
below_halves d [] p h = tt
below_halves d (x ∷ l) p h = ((div-lt_iff_lt-mul {k = d} {x = x} {y = d} p).1 h.0, (mod-lt x p, below_halves d l p h.1))

-- ---- digits in bytes

-- c in as many bytes
abbrev every : ℕ → List ℕ → ℕ
every c [] = 0
every c (x ∷ l) = every c l * 256 + c

-- all digits, made at once: the program's sum for the digits of l, and what it is
abbrev make : List ℕ → ℕ → ℕ
make l y = y + every 48 l + bit_and ((y + every 6 l) / 16) (lows 8 1 l) * 7

made : (l : List ℕ) → Below 16 l → make l (fields 8 l) ≡ le (texts 1 l)
made [] h = refl
made (x ∷ l) h =
    let n = (fields 8 l * 256 + x + (every 6 l * 256 + 6)) / 16 in
    let rest : n / 256 ≡ (fields 8 l + every 6 l) / 16 = omega (arith, h.0) in
    let one : n % 2 ≡ (x % 16 + 6) / 16 = omega (arith, h.0) in
    rw (low_field 8 1 n (lows 8 1 l) (omega arith), rest, one) (omega (arith, made l h.1, no_branch (x % 16) (mod-lt x (omega arith)), h.0))

-- ---- eight digits of a number of 32 bits

module _ (n : ℕ) where
  abbrev fours : List ℕ
  fours = halves 65536 (n ∷ [])

  abbrev twos : List ℕ
  twos = halves 256 fours

  abbrev ones : List ℕ
  ones = halves 16 twos

  eight_digits : texts 1 ones ≡ digits 16 8 n
  eight_digits = texts_halves 1 twos ∙ texts_halves 2 fours ∙ texts_halves 4 (n ∷ []) ∙ append-nil (digits 16 8 n)

  -- what the program holds in turn
  abbrev four : ℕ
  four = n % 65536 * 4294967296 + n / 65536

  abbrev two : ℕ
  two = part 8 (lows 32 8 fours) four

  abbrev one : ℕ
  one = part 4 (lows 16 4 twos) two

  pub hex_word : n < 4294967296 → make ones one ≡ le (digits 16 8 n)
  hex_word h =
      let below_4 = below_halves 65536 (n ∷ []) (omega arith) (h, tt) in
      let below_2 = below_halves 256 fours (omega arith) below_4 in
      let first : four ≡ fields 32 fours = omega arith in
      ap (λ y. make ones (part 4 (lows 16 4 twos) (part 8 (lows 32 8 fours) y))) first
      ∙ ap (λ y. make ones (part 4 (lows 16 4 twos) y)) (parted 8 fours below_4)
      ∙ ap (make ones) (parted 4 twos below_2)
      ∙ made ones (below_halves 16 twos (omega arith) below_2)
      ∙ ap le eight_digits

  -- no sum is beyond 64 bits: what is masked is not above its mask
  pub record Masked : Type 0 where
    pub two_low : bit_and four (lows 32 8 fours) ≤ lows 32 8 fours
    pub two_high : bit_and (four / 256) (lows 32 8 fours) ≤ lows 32 8 fours
    pub one_low : bit_and two (lows 16 4 twos) ≤ lows 16 4 twos
    pub one_high : bit_and (two / 16) (lows 16 4 twos) ≤ lows 16 4 twos
    pub above : bit_and ((one + every 6 ones) / 16) (lows 8 1 ones) ≤ lows 8 1 ones

  pub masked : Masked
  masked = record {
    two_low = and_le_r four (lows 32 8 fours);
    two_high = and_le_r (four / 256) (lows 32 8 fours);
    one_low = and_le_r two (lows 16 4 twos);
    one_high = and_le_r (two / 16) (lows 16 4 twos);
    above = and_le_r ((one + every 6 ones) / 16) (lows 8 1 ones);
  }

-- ---- digits as bytes

digits_bytes : (l : List ℕ) → AreBytes (texts 1 l)
unfolding AreBytes
digits_bytes [] = tt
digits_bytes (x ∷ l) = (omega (arith, no_branch (x % 16) (mod-lt x (omega arith)), mod-lt x {m = 16} (omega arith)), digits_bytes l)

-- a number's bytes are those that it is made of
low_bytes : (l : List ℕ) (i n : ℕ) → AreBytes l → n / 256 ^ i ≡ le l → bytes_low_first i (length l) n ≡ l
unfolding AreBytes
low_bytes [] i n h e = refl
low_bytes (b ∷ l) i n h e =
    let low : (b + 256 * le l) % 256 ≡ b = omega (arith, h.0) in
    let rest : (b + 256 * le l) / 256 ≡ le l = omega (arith, h.0) in
    let up : n / 256 ^ suc i ≡ le l = rw (pow-suc 256 i) (sym (div-div-eq-div-mul n (256 ^ i) 256) ∙ ap (λ m. m / 256) e ∙ rest) in
    ap₂ (λ a t. a ∷ t) (here i e low) (low_bytes l (suc i) n h.1 up)
  where
    here : (i : ℕ) → n / 256 ^ i ≡ b + 256 * le l → (b + 256 * le l) % 256 ≡ b → byte_at i n ≡ b
    here zero e low = ap (λ m. m % 256) (sym (div-one n) ∙ e) ∙ low
    here (suc i) e low = ap (λ m. m % 256) e ∙ low

bytes_join : (a b : List ℕ) → AreBytes a → AreBytes b → AreBytes (a ++ b)
unfolding AreBytes
bytes_join [] b h k = k
bytes_join (x ∷ a) b h k = (h.0, bytes_join a b h.1 k)

eight_bytes : (n : ℕ) → AreBytes (digits 16 8 n)
eight_bytes n = subst AreBytes (eight_digits n) (digits_bytes (ones n))

-- two words of eight digits are the sixteen of the number
pub sixteen : (n : ℕ) → to_le_bytes w128 (le (digits 16 8 (n % 4294967296)) * 18446744073709551616 + le (digits 16 8 (n / 4294967296))) ≡ digits 16 16 n
sixteen n =
    let upper = digits 16 8 (n / 4294967296) in
    let lower = digits 16 8 (n % 4294967296) in
    let both = le lower * 18446744073709551616 + le upper in
    low_bytes (upper ++ lower) 0 both (bytes_join upper lower (eight_bytes (n / 4294967296)) (eight_bytes (n % 4294967296))) (div-one both ∙ sym (le_join upper lower)) ∙ sym (digits_parted 8 8 n)
