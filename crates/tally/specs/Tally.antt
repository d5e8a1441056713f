-- A sum as a total and a double beside it: the double takes whole numbers while it stays where doubles have no fraction and no gap, and the total stands still.
use Rattle.std.specs.Prelude.{ℕ, ◌^◌, Bool, true, false, cond, ◌&&◌, leb, Some, None, Ok, Err, ℤ, nat_abs, ◌+ℤ◌, Float}
use Rattle.std.specs.Float.{nan, binary64}
use Rattle.std.specs.Float.Ieee.{add, sub, lt, le, eq, to_signed}
use Rattle.floats.specs.Doubles.{double}
use Rattle.sums.specs.Sums.{AnyTotal, plus}
use Rattle.tally.specs.declared.Tally.{Tally}

-- where the double starts, and what it stands for 0 at: half way between 2^52 and 2^53
abbrev pub middle : ℕ
middle = 6755399441055744

-- from 2^52 to 2^53 a double is a whole number, and each whole number is one
abbrev pub inside : Float → Bool
inside x = le (double (2 ^ 52)) x && lt x (double (2 ^ 53))

-- a total so far from the ends of 64 bits that no double beside it takes it there
abbrev pub roomy : ℤ → Bool
roomy a = leb (nat_abs a) (2 ^ 62)

-- the double to start with: at the middle where the total has room, and a NaN, to which nothing is added, where it has none
abbrev pub beside_of : AnyTotal → Float
beside_of None = nan
beside_of (Some (Ok a)) = cond (roomy a) (double middle) nan
beside_of (Some (Err c)) = nan

-- where next is near + v: it was not rounded, and v is a whole number
abbrev pub exactly : Float → Float → Float → Bool
exactly near v next = eq (sub binary64 next near) v && inside next

-- the total that the two stand for
abbrev pub joined : Float → AnyTotal → AnyTotal
joined near None = None
joined near (Some (Ok a)) = cond (inside near && roomy a) (Some (Ok (a +ℤ to_signed 63 (sub binary64 near (double middle))))) (Some (Ok a))
joined near (Some (Err c)) = Some (Err c)

-- nothing changes any other total
abbrev pub is_amount : AnyTotal → Bool
is_amount None = false
is_amount (Some (Ok a)) = true
is_amount (Some (Err c)) = false

-- ---- a tally

-- nothing is added yet
abbrev pub start_of : AnyTotal → Tally
start_of t = record { near = beside_of t; far = t }

-- one value more: beside the total where that is exact, else to the total of both
abbrev pub added_to : Tally → Float → Tally
added_to s v =
    let next = add binary64 s.near v in
    cond (exactly s.near v next) (record { near = next; far = s.far }) (cond (is_amount s.far) (start_of (plus (joined s.near s.far) v)) s)

abbrev pub total_of : Tally → AnyTotal
total_of s = joined s.near s.far
