-- How the items are written (request 6): the same, from the values to the text.
use Prim.Native.Char.{code}
use Rattle.std.specs.Prelude.{List, [], ◌∷◌, ℕ, ◌+◌, ◌-◌, ◌*◌, ◌≤◌, get_or}
use Rattle.common.specs.Ascii.{ascii}
use Rattle.items.specs.declared.Item.{Item}
use Rattle.items.specs.declared.Item.TheVariants.{Sign, Two, OneOrTwo, MonthName, HalfDay, PlusMinus}
use Rattle.items.specs.Items.{month_names}

abbrev pub digit_char : ℕ → ℕ
digit_char d = code "0" + d

-- small letters, each of them small or capital: a capital letter of ASCII comes 32 before the small one
pub data AnyCase : List ℕ → List ℕ → Type 0 where
  none : AnyCase [] []
  small : {c : ℕ} {s name : List ℕ} → AnyCase s name → AnyCase (c ∷ s) (c ∷ name)
  capital : {c : ℕ} {s name : List ℕ} → AnyCase s name → AnyCase (c ∷ s) ((c + 32) ∷ name)

-- an item, its value (of those that have one), and the characters that write it
pub data Writes : Item → List ℕ → List ℕ → Type 0 where
  sign : {c : ℕ} → Writes (Sign c) [] (c ∷ [])
  two : {least most d e : ℕ} → d ≤ 9 → e ≤ 9 → least ≤ 10 * d + e → 10 * d + e ≤ most → Writes (Two least most) ((10 * d + e) ∷ []) (digit_char d ∷ digit_char e ∷ [])
  one : {least most d : ℕ} → d ≤ 9 → least ≤ d → d ≤ most → Writes (OneOrTwo least most) (d ∷ []) (digit_char d ∷ [])
  or_two : {least most d e : ℕ} → d ≤ 9 → e ≤ 9 → least ≤ 10 * d + e → 10 * d + e ≤ most → Writes (OneOrTwo least most) ((10 * d + e) ∷ []) (digit_char d ∷ digit_char e ∷ [])
  month : {m : ℕ} {s : List ℕ} → 1 ≤ m → m ≤ 12 → AnyCase s (ascii (get_or month_names (m - 1) "")) → Writes MonthName (m ∷ []) s
  am : {s : List ℕ} → AnyCase s (ascii "am") → Writes HalfDay (0 ∷ []) s
  pm : {s : List ℕ} → AnyCase s (ascii "pm") → Writes HalfDay (12 ∷ []) s
  plus : Writes PlusMinus [] (ascii "+")
  minus : Writes PlusMinus [] (ascii "-")
