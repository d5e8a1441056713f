-- Whole numbers as doubles, a double's bits as they are printed, and the count of an array's scans.
use Rattle.std.specs.Prelude.{ℕ, ◌+◌, ◌^◌, Bool, cond, pos, is_nan, to_bits, Float, Option, Some, None}
use Rattle.std.specs.Float.{binary64}
use Rattle.std.specs.Float.Ieee.{div, le, of_int, to_unsigned}

-- a whole number as a double
abbrev pub double : ℕ → Float
double n = of_int binary64 (pos n)

-- document 01: a stored time '/ 60000' is in minutes
abbrev pub minutes : Float → Float
minutes x = div binary64 x (double 60000)

-- document 01, the log program: 'as 16 hexadecimal digits of the bits, or `nan`'
abbrev pub bits_of : Float → Option ℕ
bits_of x = cond (is_nan x) None (Some (to_bits binary64 x))

-- x is n or more; a NaN is not
abbrev pub at_least : ℕ → Float → Bool
at_least n x = le (double n) x

-- document 01, refusal 10: 'scan quotient 2^53 or more, plus infinity included'; Array: '1 plus the truncated (end − start) / step;
-- a quotient below 1, minus infinity included, or NaN gives 1'
abbrev pub scan_count_of : Float → Option ℕ
scan_count_of q = cond (at_least (2 ^ 53) q) None (cond (at_least 1 q) (Some (1 + to_unsigned 64 q)) (Some 1))
