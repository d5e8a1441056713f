-- Numbers as text: document 01, 'The log program'. Texts are lists of bytes, in ASCII.
use Rattle.std.specs.Prelude.{ℕ, zero, suc, ◌+◌, ◌-◌, ◌/◌, ◌%◌, cond, ◌&&◌, List, [], ◌∷◌, ◌++◌, leb, ltb, ℤ, pos, negsuc}

-- ---- the kind

-- 'one kind digit': the kind that a byte names; there is no kind 0, which is what any other byte names
abbrev pub kind_of : ℕ → ℕ
kind_of b = cond (leb 48 b && leb b 57) (b - 48) 0

-- ---- numbers

-- a digit below 16: `0` to `9`, then `A` to `F`
abbrev pub digit : ℕ → ℕ
digit d = cond (ltb d 10) (48 + d) (55 + d)

-- the last k digits of n in base b, the most significant first
abbrev pub digits : ℕ → ℕ → ℕ → List ℕ
digits b zero n = []
digits b (suc k) n = digits b k (n / b) ++ (digit (n % b) ∷ [])

-- the count of a number's decimal digits, at most one more than `others`
abbrev pub places : ℕ → ℕ → ℕ
places zero n = 1
places (suc others) n = cond (ltb n 10) 1 (suc (places others (n / 10)))

-- decimal without leading zeros, of a number below 10^20
unfoldable pub decimal : ℕ → List ℕ
decimal n = digits 10 (places 19 n) n

-- a field and what ends it: a space, or at the end of a line a line feed
abbrev pub field : List ℕ → ℕ → List ℕ
field l sep = l ++ (sep ∷ [])

abbrev pub number : ℕ → ℕ → List ℕ
number n sep = field (decimal n) sep

-- a number with a sign: `-` before the size of a negative one
abbrev pub signed_number : ℤ → ℕ → List ℕ
signed_number (pos n) sep = number n sep
signed_number (negsuc n) sep = 45 ∷ number (suc n) sep
