-- What stands where in a header, by the edition: document 01, 'Header' (FORMAT 4.2 to 4.4), line by line.
use Rattle.std.specs.Prelude.{Bool, false, cond, ◌||◌, List, [], ◌∷◌, ℕ, eqb, get_or}
use Rattle.pascal.specs.declared.TextField.{TextField}
use Rattle.pascal.specs.declared.TextField.TheVariants.{Absent, Pascal, PascalToEnd, Utf16}
use Rattle.layouts.specs.declared.Clock.{Clock}
use Rattle.layouts.specs.declared.Clock.TheVariants.{Whole, Single}

-- a row: in these editions, this
pub record Entry (A : Type 0) : Type 0 where
  pub editions : List ℕ
  pub value : A

infix 5 ◌⟼◌
abbrev pub ◌⟼◌ : {A : Type 0} → List ℕ → A → Entry A
es ⟼ a = record { editions = es; value = a }

abbrev pub among : List ℕ → ℕ → Bool
among [] e = false
among (x ∷ xs) e = eqb e x || among xs e

-- the row of an edition, or what holds else
abbrev pub look : {A : Type 0} → A → List (Entry A) → ℕ → A
look other [] e = other
look other (r ∷ rs) e = cond (among r.editions e) r.value (look other rs e)

-- 'old editions (up to 102)', and the new ones
abbrev pub olds : List ℕ
olds = 2 ∷ 30 ∷ 31 ∷ 81 ∷ 102 ∷ []

abbrev pub news : List ℕ
news = 130 ∷ 131 ∷ 179 ∷ []

-- 'Minimum size: ..'; 0 for an unknown edition
unfoldable pub minima : List (Entry ℕ)
minima = (2 ∷ 31 ∷ 102 ∷ [] ⟼ 512) ∷ (30 ∷ 81 ∷ [] ⟼ 652) ∷ (131 ∷ [] ⟼ 4000) ∷ (130 ∷ 179 ∷ [] ⟼ 4800) ∷ []

-- 'Texts, with the start and the field's width in old editions, then the start in new ones'
unfoldable pub texts : List (List (Entry TextField))
texts =
    ((olds ⟼ Pascal 24 60) ∷ (news ⟼ Utf16 858) ∷ [])  -- 1 sample
    ∷ ((olds ⟼ Pascal 86 60) ∷ [])  -- 2 description
    ∷ ((olds ⟼ Pascal 148 28) ∷ (news ⟼ Utf16 1880) ∷ [])  -- 3 operator
    ∷ ((olds ⟼ Pascal 208 20) ∷ (news ⟼ Utf16 2492) ∷ [])  -- 4 instrument
    ∷ ((olds ⟼ PascalToEnd 228) ∷ (news ⟼ Utf16 2574) ∷ [])  -- 5 method
    ∷ ((30 ∷ 81 ∷ [] ⟼ Pascal 596 40) ∷ (130 ∷ 179 ∷ [] ⟼ Utf16 4213) ∷ [])  -- 6 signal name
    ∷ ((81 ∷ [] ⟼ Pascal 244 64) ∷ (131 ∷ [] ⟼ Utf16 3093) ∷ (130 ∷ 179 ∷ [] ⟼ Utf16 4172) ∷ [])  -- 7 y units
    ∷ ((olds ⟼ Pascal 178 60) ∷ (news ⟼ Utf16 2391) ∷ [])  -- 8 run date
    ∷ []

-- the field of a text, by its number less one
unfoldable pub field_of : ℕ → ℕ → TextField
field_of k e = look Absent (get_or texts k []) e

-- 'Offset: f64 at ..', 'Multiplier: f64 at ..'; 0 where none is stored
unfoldable pub offsets : List (Entry ℕ)
offsets = (30 ∷ 81 ∷ [] ⟼ 636) ∷ []

unfoldable pub multipliers : List (Entry ℕ)
multipliers = (30 ∷ 81 ∷ [] ⟼ 644) ∷ (131 ∷ [] ⟼ 3085) ∷ (130 ∷ 179 ∷ [] ⟼ 4732) ∷ []

-- 'Start 282, end 286: i32 / 60000 in ..; f32 widened / 60000 in 179; 0 in 31'
unfoldable pub clocks : List (Entry Clock)
clocks = (2 ∷ 30 ∷ 81 ∷ 102 ∷ 130 ∷ 131 ∷ [] ⟼ Whole) ∷ (179 ∷ [] ⟼ Single) ∷ []
