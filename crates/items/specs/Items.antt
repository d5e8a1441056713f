-- What stands in a form of a run date, and how it is read (request 6). A text is its UTF-8: bytes above 127, of letters beyond ASCII, are in no item.
use Prim.Native.Char.{code}
use Prim.Native.String.{String}
use Rattle.std.specs.Prelude.{Bool, false, cond, ◌&&◌, ◌||◌, List, [], ◌∷◌, Option, None, Some, ℕ, suc, ◌+◌, ◌-◌, ◌*◌, eqb, get_or}
use Rattle.common.specs.Ascii.{ascii}
use Rattle.utf8.specs.Utf8.{within}
use Rattle.items.specs.declared.Item.{Item}
use Rattle.items.specs.declared.Item.TheVariants.{Sign, Two, OneOrTwo, MonthName, HalfDay, PlusMinus}
use Rattle.items.specs.declared.Found.{Found}

-- what is found of an item: so many characters, and a value, if the item has one
abbrev pub passed : ℕ → Option Found
passed n = Some (record { value = None; width = n })

abbrev pub valued : ℕ → ℕ → Option Found
valued v n = Some (record { value = Some v; width = n })

-- whether a text begins with a character
abbrev pub starts : ℕ → List ℕ → Bool
starts c [] = false
starts c (a ∷ t) = eqb a c

-- the character at a place; behind the end 0, which is no digit and no letter
abbrev pub char_at : List ℕ → ℕ → ℕ
char_at t k = get_or t k 0

abbrev pub is_digit : ℕ → Bool
is_digit c = within (code "0") (code "9") c

abbrev pub digit : ℕ → ℕ
digit c = c - code "0"

-- 'take any case': capital letters as small ones
abbrev pub lower : ℕ → ℕ
lower c = cond (within (code "A") (code "Z") c) (c + 32) c

-- a value of so many characters, where it is in its range
abbrev pub ranged : ℕ → ℕ → ℕ → ℕ → Option Found
ranged least most v n = cond (within least most v) (valued v n) None

-- 'two digits in every number'
abbrev pub two : ℕ → ℕ → ℕ → ℕ → Option Found
two least most a b = cond (is_digit a && is_digit b) (ranged least most (10 * digit a + digit b) 2) None

-- 'may have one digit': where the second character is a digit, it has two
abbrev pub one_or_two : ℕ → ℕ → ℕ → ℕ → Option Found
one_or_two least most a b = cond (is_digit b) (two least most a b) (cond (is_digit a) (ranged least most (digit a) 1) None)

-- 'the English three letters'
abbrev pub month_names : List String
month_names = "jan" ∷ "feb" ∷ "mar" ∷ "apr" ∷ "may" ∷ "jun" ∷ "jul" ∷ "aug" ∷ "sep" ∷ "oct" ∷ "nov" ∷ "dec" ∷ []

abbrev pub spells : ℕ → ℕ → ℕ → String → Bool
spells a b c name = eqb a (get_or (ascii name) 0 0) && eqb b (get_or (ascii name) 1 0) && eqb c (get_or (ascii name) 2 0)

-- which of the names three small letters are, where the first name has the number n; 0 where they are none
abbrev pub named_from : ℕ → List String → ℕ → ℕ → ℕ → ℕ
named_from n [] a b c = 0
named_from n (name ∷ names) a b c = cond (spells a b c name) n (named_from (suc n) names a b c)

unfoldable pub month_named : ℕ → ℕ → ℕ → ℕ
month_named a b c = named_from 1 month_names a b c

-- am is 0 hours, pm 12
abbrev pub half : ℕ → ℕ → Option Found
half a b = cond (eqb b (code "m")) (cond (eqb a (code "a")) (valued 0 2) (cond (eqb a (code "p")) (valued 12 2) None)) None

-- what an item is at the start of a text, and of how many characters
unfoldable pub stands_at : Item → List ℕ → Option Found
stands_at (Sign c) t = cond (starts c t) (passed 1) None
stands_at (Two least most) t = two least most (char_at t 0) (char_at t 1)
stands_at (OneOrTwo least most) t = one_or_two least most (char_at t 0) (char_at t 1)
stands_at MonthName t = ranged 1 12 (month_named (lower (char_at t 0)) (lower (char_at t 1)) (lower (char_at t 2))) 3
stands_at HalfDay t = half (lower (char_at t 0)) (lower (char_at t 1))
stands_at PlusMinus t = cond (starts (code "+") t || starts (code "-") t) (passed 1) None
