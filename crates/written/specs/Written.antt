-- A text written to a lent buffer, from its start: all of it, or nothing where it is longer than the buffer.
use Rattle.std.specs.Prelude.{◌≡◌, cond, List, ◌++◌, ℕ, leb, length, drop, Option, None, Some}

-- the answer, at so many bytes of room: a count of bytes, or none
abbrev pub written : ℕ → List ℕ → Option ℕ
written room text = cond (leb (length text) room) (Some (length text)) None

-- what the buffer holds afterwards
abbrev pub held : List ℕ → List ℕ → List ℕ
held old text = cond (leb (length text) (length old)) (text ++ drop (length text) old) old

pub record Puts (r : Option ℕ) (old new text : List ℕ) : Type 0 where
  pub answer : r ≡ written (length old) text
  pub holds : new ≡ held old text
