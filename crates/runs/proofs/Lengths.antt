-- How long the lines of a log are at most, in bytes.
use Rattle.std.specs.Prelude.{Option, Some, None}
use mathlib.Core.Path.{◌≡◌}
use mathlib.Core.Bool.{Bool, true, false, cond}
use mathlib.Core.List.{List, [], ◌∷◌, ◌++◌}
use Prim.Native.Nat.{ℕ, zero, suc, ◌+◌, ◌-◌, ◌≤◌}
use native.Mathlib.Omega.{arith}
use lib.Dec.{eqb}
use lib.Ieee.{Float}
use lib.ListN.{length, take, drop, length-append, length-drop}
use lib.Seq.{length-take-le}
use lib.IntN.{pos, negsuc}
use Rattle.rules.specs.Rule.{Stop, refused, finished, more_bytes}
use Rattle.metadata.specs.Metadata.{Header}
use Rattle.floats.specs.Doubles.{bits_of}
use Rattle.streams.specs.declared.State.{State}
use Rattle.streams.specs.declared.Record.{Record}
use Rattle.streams.specs.declared.Record.TheVariants.{Trace, Mass, Spectrum}
use Rattle.digits.specs.Numbers.{places, decimal, number}
use Rattle.digits.proofs.Digits.{length_digits, places_low}
use Rattle.lines.specs.Lines.{bits_text, double_text, values_text, point_line, record_line, total_line, answer_text, end_line}
use Rattle.lines.specs.Left.{ascii, behind_text, more_text, scan_text, left_line, too_long_line}
use Rattle.runlog.specs.Log.{header_text}
use Rattle.runlog.specs.Runs.{lines_of, read_into}
use Rattle.runlog.proofs.Logs.{by_step}
use Rattle.places.specs.Machine.{put_at}
use Rattle.std.specs.Prelude.{Some, None, Ok, Err}
use Rattle.sums.specs.Sums.{AnyTotal}

-- ---- fields

number_long : (n sep : ℕ) → length (number n sep) ≤ 21
unfolding decimal
number_long n sep = omega (arith, length-append (decimal n) (sep ∷ []), length_digits 10 (places 19 n) n, places_low 19 n)

bits_long : (b : Option ℕ) → length (bits_text b) ≤ 16
unfolding bits_text
bits_long None = omega arith
bits_long (Some n) = omega (arith, length_digits 16 16 n)

double_long : (x : Float) (sep : ℕ) → length (double_text x sep) ≤ 17
double_long x sep = omega (arith, length-append (bits_text (bits_of x)) (sep ∷ []), bits_long (bits_of x))

-- ---- lines on standard output

values_long : (u s : Float) → length (values_text u s) ≤ 34
values_long u s = omega (arith, length-append (double_text u 32) (double_text s 10), double_long u 32, double_long s 10)

point_long : (t x u s : Float) → length (point_line t x u s) ≤ 70
point_long t x u s =
    omega (arith, length-append (double_text t 32) (double_text x 32 ++ values_text u s), length-append (double_text x 32) (values_text u s), double_long t 32, double_long x 32, values_long u s)

pub record_long : (r : Record) → length (record_line r) ≤ 70
unfolding record_line
record_long (Trace t u s) = omega (arith, length-append (double_text t 32) (45 ∷ 32 ∷ values_text u s), double_long t 32, values_long u s)
record_long (Mass t m u s min left) = point_long t m u s
record_long (Spectrum t w u s min left) = point_long t w u s

pub header_long : (h : Header) → length (header_text h) ≤ 44
header_long h = omega (arith, length-append (number h.says.edition 32) (number h.says.size 10), number_long h.says.edition 32, number_long h.says.size 10)

answer_long : (z : Stop) → length (answer_text z) ≤ 21
unfolding answer_text
answer_long finished = number_long 0 32
answer_long (refused c) = number_long c 32
answer_long more_bytes = omega arith

end_long : (z : Stop) (count : ℕ) → length (end_line z count) ≤ 44
end_long z count = omega (arith, length-append (answer_text z) (number count 10), answer_long z, number_long count 10)

pub total_long : (t : AnyTotal) → length (total_line t) ≤ 24
total_long None = omega arith
total_long (Some (Err c)) = omega arith
total_long (Some (Ok (pos n))) = omega (arith, number_long n 10)
total_long (Some (Ok (negsuc n))) = omega (arith, number_long (suc n) 10)

-- t and e
pub foot_long : (t : AnyTotal) (z : Stop) (count : ℕ) → length (total_line t ++ end_line z count) ≤ 68
foot_long t z count = omega (arith, length-append (total_line t) (end_line z count), total_long t, end_long z count)

-- ---- lines on standard error

behind_long : (n : ℕ) → length (behind_text n) ≤ 67
behind_long n = omega (arith, length-append (number n 32) (ascii "bytes in the buffer behind the end of the run\n"), number_long n 32)

more_long : (n : ℕ) → length (more_text n) ≤ 69
more_long n = go (eqb n 0)
  where
    go : (b : Bool) → length (cond b (10 ∷ []) (ascii ", " ++ behind_text n)) ≤ 69
    go true = omega arith
    go false = omega (arith, behind_long n)

scan_long : (scan n : ℕ) → length (scan_text scan n) ≤ 112
scan_long scan n = go (eqb scan 0)
  where
    go : (b : Bool) → length (cond b (behind_text n) (number scan 32 ++ (ascii "bytes of the last scan" ++ more_text n))) ≤ 112
    go true = omega (arith, behind_long n)
    go false = omega (arith, length-append (number scan 32) (ascii "bytes of the last scan" ++ more_text n), number_long scan 32, more_long n)

pub left_long : (scan n : ℕ) → length (left_line scan n) ≤ 128
unfolding left_line
left_long scan n = omega (arith, scan_long scan n)

pub too_long_long : length too_long_line ≤ 128
unfolding too_long_line
too_long_long = omega arith

-- ---- lines of records

-- no more than there is room
pub lines_fit : (most room : ℕ) (last : Bool) (st : State) (bs : List ℕ) → length (lines_of (read_into most room last st bs).records) ≤ room
unfolding read_into lines_of
lines_fit zero room last st bs = omega arith
lines_fit (suc most) room last st bs =
    by_step most room last st bs (λ x left. read_into most (room - length (record_line x.shows)) last x.after left) (λ g. length (lines_of g.records) ≤ room) (λ h. omega arith) (λ z h e. omega arith)
    (λ x n h e.
    let ih = lines_fit most (room - length (record_line x.shows)) last x.after (drop n bs) in
    omega (arith, ih, record_long x.shows, length-append (record_line x.shows) (lines_of (read_into most (room - length (record_line x.shows)) last x.after (drop n bs)).records)))

-- the memory stays as long, where a text that fits was put
pub put_same : (at : ℕ) (text out : List ℕ) → at + length text ≤ length out → length (put_at at text out) ≡ length out
put_same at text out h =
    omega (arith, length-append (take at out) (text ++ drop (at + length text) out), length-append text (drop (at + length text) out), length-take-le at out (omega arith), length-drop (at + length text) out)
