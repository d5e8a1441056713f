-- Numbers in bytes (FORMAT 1): fixed width, unsigned or two's complement, either byte order.
use Rattle.std.specs.Prelude.{List, [], ◌∷◌, reverse, cond, ℕ, ◌+◌, ◌-◌, ◌*◌, ◌^◌, ◌<◌, ℤ, pos, ◌-ℤ◌, ltb, length, take, drop}
use Rattle.common.specs.declared.Endian.{Endian}
use Rattle.common.specs.declared.Endian.TheVariants.{Big, Little}

-- FORMAT 1.1. Little-endian: the first byte counts ones
abbrev pub le : List ℕ → ℕ
le [] = 0
le (b ∷ bs) = b + 256 * le bs

-- FORMAT 1.1. Big-endian: the last byte counts ones
abbrev pub be : List ℕ → ℕ
be bs = le (reverse bs)

abbrev pub order_of : Endian → List ℕ → ℕ
order_of Big = be
order_of Little = le

-- FORMAT 1.2. Two's complement: of so many bits, the numbers from half on stand for those below 0
abbrev pub twos : ℕ → ℕ → ℤ
twos bits n = cond (ltb n (2 ^ (bits - 1))) (pos n) (pos n -ℤ pos (2 ^ bits))

abbrev pub signed : (List ℕ → ℕ) → List ℕ → ℤ
signed order bs = twos (8 * length bs) (order bs)

-- the w bytes from a position on
abbrev pub part : ℕ → ℕ → List ℕ → List ℕ
part at w s = take w (drop at s)

-- every element is a byte
-- Kept: (d) a recursion beside std's `All`, which is by index: the proofs of utf16, letters, digits and foot take bytes off one by one.
unfoldable pub AreBytes : List ℕ → Type 0
AreBytes [] = Unit
AreBytes (b ∷ bs) = (b < 256) × AreBytes bs
