-- The lines told on standard error behind the program's name: what is left of the input where a run closes with 0, and that it is too long.
use Rattle.std.specs.Prelude.{ℕ, cond, List, [], ◌∷◌, ◌++◌, eqb}
use Prim.Native.Char.{code}
use Prim.Native.String.{String, [] as ε, ◌∷◌ as ◌then◌}
use Rattle.digits.specs.Numbers.{number}

-- a text of ASCII letters, as bytes
abbrev pub ascii : String → List ℕ
ascii ε = []
ascii (c then s) = code c ∷ ascii s

abbrev pub behind_text : ℕ → List ℕ
behind_text behind = number behind 32 ++ ascii "bytes in the buffer behind the end of the run\n"

-- none of the one is not said, none of the other ends the line
abbrev pub more_text : ℕ → List ℕ
more_text behind = cond (eqb behind 0) (10 ∷ []) (ascii ", " ++ behind_text behind)

abbrev pub scan_text : ℕ → ℕ → List ℕ
scan_text scan behind = cond (eqb scan 0) (behind_text behind) (number scan 32 ++ (ascii "bytes of the last scan" ++ more_text behind))

-- the bytes left of a DAD run's last scan, and those behind it that stand in the buffer
unfoldable pub left_line : ℕ → ℕ → List ℕ
left_line scan behind = ascii "left: " ++ scan_text scan behind

unfoldable pub too_long_line : List ℕ
too_long_line = ascii "the log is too long\n"
