-- The lines of a log: document 01, 'The log program', and request 1. A line is a letter and fields; a space ends a field, a line feed the last.
use Rattle.std.specs.Prelude.{ℕ, List, [], ◌∷◌, ◌++◌, Float, Option, Some, None, Ok, Err}
use Rattle.rules.specs.Rule.{Stop, refused, finished, more_bytes}
use Rattle.floats.specs.Doubles.{bits_of}
use Rattle.streams.specs.declared.Record.{Record}
use Rattle.streams.specs.declared.Record.TheVariants.{Trace, Mass, Spectrum}
use Rattle.digits.specs.Numbers.{digits, field, number, signed_number}
use Rattle.sums.specs.Sums.{AnyTotal}

-- 'as 16 hexadecimal digits of the bits, or `nan`'
unfoldable pub bits_text : Option ℕ → List ℕ
bits_text None = 110 ∷ 97 ∷ 110 ∷ []
bits_text (Some n) = digits 16 16 n

abbrev pub double_text : Float → ℕ → List ℕ
double_text x sep = field (bits_text (bits_of x)) sep

-- 'r: time, axis or `-`, unscaled, scaled'
abbrev pub time_text : Float → List ℕ
time_text t = 114 ∷ 32 ∷ double_text t 32

abbrev pub values_text : Float → Float → List ℕ
values_text u s = double_text u 32 ++ double_text s 10

abbrev pub point_line : Float → Float → Float → Float → List ℕ
point_line t x u s = time_text t ++ (double_text x 32 ++ values_text u s)

unfoldable pub record_line : Record → List ℕ
record_line (Trace t u s) = time_text t ++ (field (45 ∷ []) 32 ++ values_text u s)
record_line (Mass t m u s min left) = point_line t m u s
record_line (Spectrum t w u s min left) = point_line t w u s

-- 'h: edition, size, decimal'
abbrev pub header_line : ℕ → ℕ → List ℕ
header_line edition size = 104 ∷ 32 ∷ (number edition 32 ++ number size 10)

-- request 1: '`t` and a decimal number'; 'where the sum is refused, the line reads `t -`'; no line where nothing was added up
abbrev pub total_line : AnyTotal → List ℕ
total_line None = []
total_line (Some (Ok z)) = 116 ∷ 32 ∷ signed_number z 10
total_line (Some (Err c)) = 116 ∷ 32 ∷ field (45 ∷ []) 10

-- *finished* is printed 0, a refusal as its number, *more bytes* as `m`
unfoldable pub answer_text : Stop → List ℕ
answer_text finished = number 0 32
answer_text (refused c) = number c 32
answer_text more_bytes = field (109 ∷ []) 32

-- 'e: closing answer, record count'
abbrev pub end_line : Stop → ℕ → List ℕ
end_line z count = 101 ∷ 32 ∷ (answer_text z ++ number count 10)
