-- UTF-8 (the Unicode standard, 3.9).
use Rattle.std.specs.Prelude.{◌≡◌, ◌⊎◌, Bool, cond, ◌&&◌, List, [], ◌∷◌, ◌++◌, ℕ, zero, suc, ◌+◌, ◌-◌, ◌*◌, ◌/◌, ◌%◌, ◌≤◌, ◌<◌, leb, ltb, eqb, get_or, Option, None, Some}

-- D76: a scalar value is any code point but a surrogate.
abbrev pub Scalar : ℕ → Type 0
Scalar c = (c < 0xD800) ⊎ ((0xE000 ≤ c) × (c < 0x110000))

abbrev pub Scalars : List ℕ → Type 0
Scalars [] = Unit
Scalars (c ∷ cs) = Scalar c × Scalars cs

-- Table 3-6: the bytes of a scalar. Each byte behind the first holds six bits.
abbrev pub six : ℕ → ℕ
six n = 0x80 + n % 64

abbrev pub encode : ℕ → List ℕ
encode c =
    cond (ltb c 0x80) (c ∷ [])
    (cond (ltb c 0x800) ((0xC0 + c / 64) ∷ six c ∷ [])
    (cond (ltb c 0x10000) ((0xE0 + c / 64 / 64) ∷ six (c / 64) ∷ six c ∷ [])
    ((0xF0 + c / 64 / 64 / 64) ∷ six (c / 64 / 64) ∷ six (c / 64) ∷ six c ∷ [])))

unfoldable pub encodes : List ℕ → List ℕ
encodes [] = []
encodes (c ∷ cs) = encode c ++ encodes cs

-- D92: the bytes bs are well-formed UTF-8, and cs are its scalars.
pub record Utf8 (bs cs : List ℕ) : Type 0 where
  pub scalars : Scalars cs
  pub bytes : bs ≡ encodes cs

-- ---- A decoder, by Table 3-7. `utf8_laws` proves that it finds the scalars exactly where there are some.

abbrev pub within : ℕ → ℕ → ℕ → Bool
within low high b = leb low b && leb b high

-- from where to where the second byte lies, by the first
abbrev pub low : ℕ → ℕ
low a = cond (eqb a 0xE0) 0xA0 (cond (eqb a 0xF0) 0x90 0x80)

abbrev pub high : ℕ → ℕ
high a = cond (eqb a 0xED) 0x9F (cond (eqb a 0xF4) 0x8F 0xBF)

abbrev pub second : ℕ → ℕ → Bool
second a b = within (low a) (high a) b

-- the third and the fourth
abbrev pub follows : ℕ → Bool
follows b = within 0x80 0xBF b

-- six bits more
abbrev pub more : ℕ → ℕ → ℕ
more v b = v * 64 + b % 64

-- a scalar at the front of some bytes, and how many of them it takes
pub record Front : Type 0 where
  pub scalar : ℕ
  pub width : ℕ

abbrev pub front : ℕ → ℕ → Option Front
front c w = Some (record { scalar = c; width = w })

-- a scalar of two, three or four bytes, whose second byte is right
abbrev pub longer : ℕ → ℕ → ℕ → ℕ → Option Front
longer a b c d =
    cond (ltb a 0xE0) (front (more (a - 0xC0) b) 2)
    (cond (follows c)
    (cond (ltb a 0xF0) (front (more (more (a - 0xE0) b) c) 3)
    (cond (follows d) (front (more (more (more (a - 0xF0) b) c) d) 4) None))
    None)

-- the scalar at the front of the bytes a, b, c, d, and how many it takes; 0 stands for a byte that is not there, and follows no other
unfoldable pub front_of : ℕ → ℕ → ℕ → ℕ → Option Front
front_of a b c d =
    cond (ltb a 0x80) (front a 1)
    (cond (ltb a 0xC2) None
    (cond (ltb 0xF4 a) None
    (cond (second a b) (longer a b c d) None)))

abbrev pub front_in : List ℕ → Option Front
front_in s = front_of (get_or s 0 0) (get_or s 1 0) (get_or s 2 0) (get_or s 3 0)

pub data Decoded : Type 0 where
  bad : Decoded
  text : List ℕ → Decoded

abbrev pub behind : ℕ → Decoded → Decoded
behind c bad = bad
behind c (text cs) = text (c ∷ cs)

abbrev pub pursue : (ℕ → Decoded) → Option Front → Decoded
pursue on None = bad
pursue on (Some f) = behind f.scalar (on (f.width - 1))

-- the scalars behind the next k bytes
abbrev pub walk : ℕ → List ℕ → Decoded
walk zero [] = text []
walk (suc k) [] = bad
walk (suc k) (b ∷ bs) = walk k bs
walk zero (b ∷ bs) = pursue (λ k. walk k bs) (front_in (b ∷ bs))

unfoldable pub decode : List ℕ → Decoded
decode bs = walk 0 bs
