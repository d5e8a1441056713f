-- UTF-16 (the Unicode standard, 3.9: D91, Table 3-5), its units little-endian.
use Rattle.std.specs.Prelude.{◌≡◌, Bool, not, cond, ◌&&◌, ◌||◌, List, [], ◌∷◌, ◌++◌, ℕ, zero, suc, ◌+◌, ◌-◌, ◌*◌, ◌/◌, ◌%◌, ◌≤◌, ltb, length, get_or, drop, Option, None, Some}
use Rattle.utf8.specs.Utf8.{Scalars, within, encode, encodes}
use Rattle.utf16.specs.declared.Piece.{Piece}
use Rattle.utf16.specs.declared.Recoded.{Recoded}

-- An odd byte at the end is no unit. No caller passes one.
abbrev pub units : List ℕ → List ℕ
units [] = []
units (a ∷ []) = []
units (a ∷ b ∷ bs) = (a + 256 * b) ∷ units bs

-- D71 to D74: a surrogate that begins a pair, and one that ends it
abbrev pub is_high : ℕ → Bool
is_high u = within 0xD800 0xDBFF u

abbrev pub is_low : ℕ → Bool
is_low u = within 0xDC00 0xDFFF u

-- Table 3-5: the scalar of a pair
abbrev pub pair : ℕ → ℕ → ℕ
pair h l = 0x10000 + (h - 0xD800) * 1024 + (l - 0xDC00)

-- a unit that is part of no pair: a surrogate becomes U+FFFD, the replacement character
abbrev pub alone : ℕ → ℕ
alone u = cond (within 0xD800 0xDFFF u) 0xFFFD u

unfoldable pub utf16 : List ℕ → List ℕ
utf16 [] = []
utf16 (u ∷ []) = alone u ∷ []
utf16 (u ∷ v ∷ us) = let whole = utf16 us in let lone = utf16 (v ∷ us) in cond (is_high u && is_low v) (pair u v ∷ whole) (alone u ∷ lone)

-- Table 3-5 the other way: the units of a scalar
abbrev pub encode16 : ℕ → List ℕ
encode16 c = cond (ltb c 0x10000) (c ∷ []) ((0xD800 + (c - 0x10000) / 1024) ∷ (0xDC00 + (c - 0x10000) % 1024) ∷ [])

unfoldable pub encodes16 : List ℕ → List ℕ
encodes16 [] = []
encodes16 (c ∷ cs) = encode16 c ++ encodes16 cs

-- D91: the units us are well-formed UTF-16, and cs are its scalars.
pub record IsUtf16 (us cs : List ℕ) : Type 0 where
  pub scalars : Scalars cs
  pub encoded : us ≡ encodes16 cs

-- the UTF-8 of bytes that are UTF-16
unfoldable pub utf8_of : List ℕ → List ℕ
utf8_of bs = encodes (utf16 (units bs))

-- ---- Units that are replaced, told by their places and not by a decoder.

-- At a place stands a surrogate without its partner: a high one that no low one follows, or a low one that follows no high one.
-- Beyond both ends stands 0, which is no surrogate.
abbrev pub lacks_partner : List ℕ → ℕ → Bool
lacks_partner us i = (is_high (get_or us i 0) && not (is_low (get_or us (suc i) 0))) || (is_low (get_or us i 0) && not (is_high (get_or (0 ∷ us) i 0)))

-- how many places below n pass a test
abbrev pub places_below : ℕ → (ℕ → Bool) → ℕ
places_below zero test = 0
places_below (suc n) test = places_below n test + cond (test n) 1 0

-- how many units are surrogates without a partner
unfoldable pub unpaired : List ℕ → ℕ
unpaired us = places_below (length us) (lacks_partner us)

-- the count of bytes that the decoder answers
abbrev pub bytes_of : Option Recoded → Option ℕ
bytes_of None = None
bytes_of (Some r) = Some r.bytes

-- ---- Steps of the code.

-- how many units are replaced where u is part of no pair
abbrev pub replaced_alone : ℕ → ℕ
replaced_alone u = cond (within 0xD800 0xDFFF u) 1 0

-- what a unit and the next begin with; 0 stands for a unit that is not there, and ends no pair
abbrev pub piece_of : ℕ → ℕ → Piece
piece_of u v = cond (is_high u && is_low v) (record { scalar = pair u v; width = 4; replaced = 0 }) (record { scalar = alone u; width = 2; replaced = replaced_alone u })

abbrev pub first_unit : List ℕ → ℕ
first_unit s = get_or (units s) 0 0

-- r is what the UTF-16 in s begins with
pub record First (s : List ℕ) (r : Piece) : Type 0 where
  pub moves : 2 ≤ r.width
  pub fits : r.width ≤ length s
  pub begins : utf8_of s ≡ encode r.scalar ++ utf8_of (drop r.width s)
  pub counts : unpaired (units s) ≡ r.replaced + unpaired (units (drop r.width s))
