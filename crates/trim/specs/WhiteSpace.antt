-- White space, and a text without it at both ends.
use Rattle.std.specs.Prelude.{◌≡◌, Bool, false, cond, ◌||◌, List, [], ◌∷◌, ◌++◌, ℕ, length, Option, None, Some}
use Rattle.utf8.specs.Utf8.{within, encodes, Utf8, Decoded, bad, text, decode}
use Rattle.trim.specs.declared.Extent.{Extent}

-- a range of code points, with both its ends
pub record Span : Type 0 where
  pub first : ℕ
  pub last : ℕ

abbrev pub span : ℕ → ℕ → Span
span a b = record { first = a; last = b }

-- PropList.txt of the Unicode Character Database, White_Space: 25 code points.
abbrev pub spaces : List Span
spaces =
    span 0x9 0xD ∷ span 0x20 0x20 ∷ span 0x85 0x85 ∷ span 0xA0 0xA0 ∷ span 0x1680 0x1680
    ∷ span 0x2000 0x200A ∷ span 0x2028 0x2029 ∷ span 0x202F 0x202F ∷ span 0x205F 0x205F ∷ span 0x3000 0x3000 ∷ []

abbrev pub listed : ℕ → List Span → Bool
listed c [] = false
listed c (r ∷ rs) = within r.first r.last c || listed c rs

unfoldable pub white : ℕ → Bool
white c = listed c spaces

-- the white space that scalars begin with, and what comes behind it
unfoldable pub leading : List ℕ → List ℕ
leading [] = []
leading (c ∷ cs) = cond (white c) (c ∷ leading cs) []

unfoldable pub trim_start : List ℕ → List ℕ
trim_start [] = []
trim_start (c ∷ cs) = cond (white c) (trim_start cs) (c ∷ cs)

-- c before what is left of the rest; white space before nothing goes too
abbrev pub keep : ℕ → List ℕ → List ℕ
keep c [] = cond (white c) [] (c ∷ [])
keep c (d ∷ ds) = c ∷ d ∷ ds

unfoldable pub trim_end : List ℕ → List ℕ
trim_end [] = []
trim_end (c ∷ cs) = keep c (trim_end cs)

unfoldable pub trim : List ℕ → List ℕ
trim cs = trim_end (trim_start cs)

-- Where a text stands once it is trimmed: behind the white space that it begins with, and as long as what is left.
-- A text of white space alone is left with nothing, at its end.
abbrev pub at : ℕ → ℕ → Option Extent
at p n = Some (record { start = p; count = n })

abbrev pub placed : Decoded → Option Extent
placed bad = None
placed (text cs) = at (length (encodes (leading cs))) (length (encodes (trim cs)))

unfoldable pub trimmed_of : List ℕ → Option Extent
trimmed_of bs = placed (decode bs)

-- What such an answer means: bs is no UTF-8, or the n bytes behind the first p are the UTF-8 of the trimmed scalars.
pub record Stands (bs : List ℕ) (p n : ℕ) : Type 0 where
  pub scalars : List ℕ
  pub utf8 : Utf8 bs scalars
  pub front : List ℕ
  pub rest : List ℕ
  pub whole : bs ≡ front ++ (encodes (trim scalars) ++ rest)
  pub start : p ≡ length front
  pub count : n ≡ length (encodes (trim scalars))

abbrev pub Means : List ℕ → Option Extent → Type 0
Means bs None = (cs : List ℕ) → Utf8 bs cs → ⊥
Means bs (Some e) = Stands bs e.start e.count
