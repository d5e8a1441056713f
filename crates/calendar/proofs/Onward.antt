-- The next day is one more.
use mathlib.Core.Path.{◌≡◌, refl}
use mathlib.Core.Bool.{true, false}
use Prim.Native.Nat.{ℕ, suc, ◌+◌, ◌-◌, ◌≤◌, ◌<◌}
use native.Mathlib.Numerals.{add-one}
use native.Mathlib.Omega.{arith}
use lib.Dec.{leb, ltb}
use borrow.Author.Tests.{ltb-true, ltb-false, leb-true, leb-false}
use borrow.Table.Steps.{cases as by}
use Rattle.utf8.proofs.Cases.{most, inside, never}
use Rattle.calendar.specs.declared.Moment.{Moment}
use Rattle.calendar.specs.Calendar.{leap, days_in, before_month, of_years, day_number, is_day, Day, valid, number, next, InRange, instant_of, CalendarDays}
use Rattle.calendar.proofs.Days.{years_sum, most_before, day_within, first_day, a_month}

-- what is no day behind one that is: it was the month's last
last_day : (y m d : ℕ) → is_day y m d ≡ true → is_day y m (d + 1) ≡ false → d ≡ days_in y m
unfolding is_day
last_day y m d e f = by (leb (d + 1) (days_in y m))
    (λ t. never (inside 1 (days_in y m) (d + 1) (omega arith) (leb-true (d + 1) (days_in y m) t)) f)
    (λ n. omega (arith, leb-false (d + 1) (days_in y m) n, most 1 (days_in y m) d e))

in_month : (y m d : ℕ) → 1 ≤ d → day_number y m (d + 1) ≡ day_number y m d + 1
unfolding day_number
in_month y m d h = omega arith

next_month : (y m d : ℕ) → 1 ≤ d → d ≡ days_in y m → day_number y (m + 1) 1 ≡ day_number y m d + 1
unfolding day_number before_month
next_month y m d h e = rw (add-one m) (omega arith)

of_years_suc_lem : (k : ℕ) → of_years (suc k) ≡ of_years k + (before_month (1969 + k) 12 + days_in (1969 + k) 12)
unfolding of_years before_month
of_years_suc_lem k = refl

no_days : (y : ℕ) → before_month y 1 ≡ 0
unfolding before_month days_in
no_days y = refl

next_year : (y m d : ℕ) → 1969 ≤ y → m ≡ 12 → 1 ≤ d → d ≡ days_in y m → day_number (y + 1) 1 1 ≡ day_number y m d + 1
unfolding day_number
next_year y m d l q h e =
    let k : y + 1 - 1969 ≡ suc (y - 1969) = omega arith in
    let b : 1969 + (y - 1969) ≡ y = omega arith in
    let s : of_years (suc (y - 1969)) ≡ of_years (y - 1969) + (before_month y 12 + days_in y 12) = rw b at (of_years_suc_lem (y - 1969)) in
    let f : d ≡ days_in y 12 = rw q at e in
    rw (k, q) (omega (arith, no_days (y + 1)))

onward : (x : Day) → 1969 ≤ x.year → valid x ≡ true → (number (next x) ≡ number x + 1) × (valid (next x) ≡ true)
onward x l v =
    let y = x.year in
    let m = x.month in
    let d = x.day in
    let p = (day_within y m d v).0 in
    by (is_day y m (d + 1)) (λ t. rw t (in_month y m d p, t)) (λ f.
    let e = last_day y m d v f in
    by (ltb m 12)
    (λ t. rw (f, t) (next_month y m d p e, first_day y (m + 1) (omega arith) (omega (arith, ltb-true m 12 t))))
    (λ g.
    let q : m ≡ 12 = omega (arith, ltb-false m 12 g, a_month y m d v) in
    rw (f, g) (next_year y m d l q p e, first_day (y + 1) 1 (omega arith) (omega arith))))

-- the latest day, and the latest instant of a day
pub latest_day : (x : Moment) → InRange x → day_number x.year x.month x.day ≤ 36524
unfolding day_number
latest_day x r =
    let k : x.year - 1969 < 100 = omega (arith, r.year.0, r.year.1) in
    omega (arith, k, (day_within x.year x.month x.day r.day).1, years_sum (x.year - 1969) k, most_before x.year x.month r.month)

latest : (x : Moment) → InRange x → instant_of x ≤ 3155759999
unfolding instant_of
latest x r = omega (arith, latest_day x r, r.hour, r.minute, r.second)

pub calendar : CalendarDays
unfolding day_number is_day days_in before_month of_years leap
calendar = record { first = refl; onward = onward; common = refl; leap_day = refl; march = refl; common_march = refl; millennium = refl; last = refl; century = refl; latest = latest }
