-- Instants (request 6): 'Days follow the Gregorian calendar'.
use Rattle.std.specs.Prelude.{◌≡◌, Bool, true, false, cond, not, ◌&&◌, ◌||◌, List, [], ◌∷◌, ℕ, zero, suc, ◌+◌, ◌-◌, ◌*◌, ◌%◌, ◌≤◌, ltb, eqb, get_or}
use Rattle.utf8.specs.Utf8.{within}
use Rattle.calendar.specs.declared.Moment.{Moment}

-- every fourth year; of those that end a century every fourth
unfoldable pub leap : ℕ → Bool
leap y = eqb (y % 4) 0 && (not (eqb (y % 100) 0) || eqb (y % 400) 0)

-- the days of month 0, which is none, and of months 1 to 12 of a common year
abbrev pub common_days : List ℕ
common_days = 0 ∷ 31 ∷ 28 ∷ 31 ∷ 30 ∷ 31 ∷ 30 ∷ 31 ∷ 31 ∷ 30 ∷ 31 ∷ 30 ∷ 31 ∷ []

-- the days of a month of a year
unfoldable pub days_in : ℕ → ℕ → ℕ
days_in y m = get_or common_days m 0 + cond (eqb m 2 && leap y) 1 0

-- whether a month of a year has such a day
unfoldable pub is_day : ℕ → ℕ → ℕ → Bool
is_day y m d = within 1 (days_in y m) d

-- the days of a year before a month
unfoldable pub before_month : ℕ → ℕ → ℕ
before_month y zero = 0
before_month y (suc m) = before_month y m + days_in y m

-- the days of so many years from 1969 on
unfoldable pub of_years : ℕ → ℕ
of_years zero = 0
of_years (suc k) = of_years k + before_month (1969 + k) 13

-- how many days after 1 January 1969 a day is
unfoldable pub day_number : ℕ → ℕ → ℕ → ℕ
day_number y m d = of_years (y - 1969) + before_month y m + (d - 1)

-- 'a whole number of seconds from 1 January 1969, 00:00:00'
unfoldable pub instant_of : Moment → ℕ
instant_of x = ((day_number x.year x.month x.day * 24 + x.hour) * 60 + x.minute) * 60 + x.second

-- ---- What is asked of numbers.

-- the years that two digits stand for
abbrev pub Printed : ℕ → Type 0
Printed y = (1969 ≤ y) × (y ≤ 2068)

pub record InRange (x : Moment) : Type 0 where
  pub year : Printed x.year
  pub month : x.month ≤ 12
  pub day : is_day x.year x.month x.day ≡ true
  pub hour : x.hour ≤ 23
  pub minute : x.minute ≤ 59
  pub second : x.second ≤ 59

-- ---- The laws.

pub record Day : Type 0 where
  pub year : ℕ
  pub month : ℕ
  pub day : ℕ

abbrev pub day : ℕ → ℕ → ℕ → Day
day y m d = record { year = y; month = m; day = d }

abbrev pub valid : Day → Bool
valid x = is_day x.year x.month x.day

abbrev pub number : Day → ℕ
number x = day_number x.year x.month x.day

-- the next day of the calendar: of the month, or else the first of the next month, or else of the next year
abbrev pub next : Day → Day
next x = cond (is_day x.year x.month (x.day + 1)) (day x.year x.month (x.day + 1)) (cond (ltb x.month 12) (day x.year (x.month + 1) 1) (day (x.year + 1) 1 1))

pub record CalendarDays : Type 0 where
  pub first : number (day 1969 1 1) ≡ 0
  pub onward : (x : Day) → 1969 ≤ x.year → valid x ≡ true → (number (next x) ≡ number x + 1) × (valid (next x) ≡ true)
  -- to look at: a common year; the day before, on and after 29 February 2000; the last day; 2000 and 2068 are leap years, 2100 is none
  pub common : number (day 1970 1 1) ≡ 365
  pub leap_day : next (day 2000 2 28) ≡ day 2000 2 29
  pub march : next (day 2000 2 29) ≡ day 2000 3 1
  pub common_march : next (day 2001 2 28) ≡ day 2001 3 1
  pub millennium : number (day 2000 3 1) ≡ 11382
  pub last : number (day 2068 12 31) ≡ 36524
  pub century : leap 2100 ≡ false
  pub latest : (x : Moment) → InRange x → instant_of x ≤ 3155759999
