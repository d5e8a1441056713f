-- Run dates (request 6): 'Read the run date in four forms'.
use Prim.Native.Char.{Char, code}
use Rattle.std.specs.Prelude.{cond, List, [], ◌∷◌, ◌++◌, Option, None, Some, ℕ, ◌+◌, ◌%◌, ◌≤◌, ◌<◌, leb, eqb, length, drop, get_or}
use Rattle.calendar.specs.declared.Moment.{Moment}
use Rattle.calendar.specs.Calendar.{is_day, instant_of, Printed}
use Rattle.items.specs.declared.Item.{Item}
use Rattle.items.specs.declared.Item.TheVariants.{Sign, Two, OneOrTwo, MonthName, HalfDay, PlusMinus}
use Rattle.dates.specs.declared.Form.{Form}
use Rattle.dates.specs.declared.Form.TheVariants.{First, Second, Third, Fourth}
use Rattle.items.specs.declared.Found.{Found}
use Rattle.items.specs.Items.{stands_at}

-- ---- The forms, item by item.

abbrev pub is : Char → Item
is c = Sign (code c)

abbrev pub blank : Item
blank = is " "

-- `05-Mar-21, 14:02:09`
abbrev pub first_form : List Item
first_form =
    Two 1 31 ∷ is "-" ∷ MonthName ∷ is "-" ∷ Two 0 99 ∷ is "," ∷ blank
    ∷ Two 0 23 ∷ is ":" ∷ Two 0 59 ∷ is ":" ∷ Two 0 59 ∷ []

-- `5 Mar 21 2:02 pm`: 'day and hour may have one digit'
abbrev pub second_form : List Item
second_form =
    OneOrTwo 1 31 ∷ blank ∷ MonthName ∷ blank ∷ Two 0 99 ∷ blank
    ∷ OneOrTwo 1 12 ∷ is ":" ∷ Two 0 59 ∷ blank ∷ HalfDay ∷ []

-- 'a space and a zone such as `+0100` .. a sign, hours 00 to 23 and minutes 00 to 59'
abbrev pub zone : List Item
zone = blank ∷ PlusMinus ∷ Two 0 23 ∷ Two 0 59 ∷ []

-- 'the same', and a zone
abbrev pub third_form : List Item
third_form = second_form ++ zone

-- `03/05/21 02:02:09 PM`: 'month/day/year'
abbrev pub fourth_form : List Item
fourth_form =
    Two 1 12 ∷ is "/" ∷ Two 1 31 ∷ is "/" ∷ Two 0 99 ∷ blank
    ∷ Two 1 12 ∷ is ":" ∷ Two 0 59 ∷ is ":" ∷ Two 0 59 ∷ blank ∷ HalfDay ∷ []

abbrev pub items_of : Form → List Item
items_of First = first_form
items_of Second = second_form
items_of Third = third_form
items_of Fourth = fourth_form

-- ---- What the values say.

-- 'Years 00 to 68 are 2000 to 2068, 69 to 99 are 1969 to 1999'
abbrev pub year_of : ℕ → ℕ
year_of y = cond (leb y 68) (2000 + y) (1900 + y)

-- '12 am is hour 0 and 12 pm hour 12'; the half of the day as the hours before it, 0 or 12
abbrev pub hour_of : ℕ → ℕ → ℕ
hour_of h half = h % 12 + half

abbrev pub moment : ℕ → ℕ → ℕ → ℕ → ℕ → ℕ → Moment
moment y m d h mi s = record { year = year_of y; month = m; day = d; hour = h; minute = mi; second = s }

-- of the values day, month, year, hour, minute, half of the day; 'a form without seconds has 0'
abbrev pub half_day_moment : List ℕ → Moment
half_day_moment vs = moment (get_or vs 2 0) (get_or vs 1 0) (get_or vs 0 0) (hour_of (get_or vs 3 0) (get_or vs 5 0)) (get_or vs 4 0) 0

-- the values in the order of the form: the first has the second behind the minute; the third a zone behind the rest, which 'does not change the result';
-- the fourth is month, day, year, hour, minute, second, half of the day
unfoldable pub moment_of : Form → List ℕ → Moment
moment_of First vs = moment (get_or vs 2 0) (get_or vs 1 0) (get_or vs 0 0) (get_or vs 3 0) (get_or vs 4 0) (get_or vs 5 0)
moment_of Second vs = half_day_moment vs
moment_of Third vs = half_day_moment vs
moment_of Fourth vs = moment (get_or vs 2 0) (get_or vs 0 0) (get_or vs 1 0) (hour_of (get_or vs 3 0) (get_or vs 6 0)) (get_or vs 4 0) (get_or vs 5 0)

-- ---- Reading.

-- the values that a text has of the items one behind the other, where it has these and nothing behind them
abbrev pub Values : Type 0
Values = Option (List ℕ)

abbrev pub before : ℕ → Values → Values
before v None = None
before v (Some vs) = Some (v ∷ vs)

-- an item's value, if it has one, and those behind it
abbrev pub with_value : Option ℕ → Values → Values
with_value None vs = vs
with_value (Some v) vs = before v vs

abbrev pub onward : Option Found → (ℕ → Values) → Values
onward None rest = None
onward (Some f) rest = with_value f.value (rest f.width)

unfoldable pub values_of : List Item → List ℕ → Values
values_of [] t = cond (eqb (length t) 0) (Some []) None
values_of (i ∷ is) t = onward (stands_at i t) (λ n. values_of is (drop n t))

-- ---- The date.

abbrev pub date_at : Moment → Option ℕ
date_at x = cond (is_day x.year x.month x.day) (Some (instant_of x)) None

abbrev pub date_from : Form → Values → Option ℕ
date_from f None = None
date_from f (Some vs) = date_at (moment_of f vs)

abbrev pub date_by : Form → List ℕ → Option ℕ
date_by f t = date_from f (values_of (items_of f) t)

abbrev pub or_else : Option ℕ → Option ℕ → Option ℕ
or_else (Some i) d = Some i
or_else None d = d

-- 'Anything else is 'no date''
unfoldable pub date_of : List ℕ → Option ℕ
date_of t = or_else (date_by First t) (or_else (date_by Second t) (or_else (date_by Third t) (date_by Fourth t)))

-- ---- Steps of the code.

-- by its length a text can have one form only: 16 to 18 characters, 19, 20, or 22 to 24
abbrev pub form_of : ℕ → Form
form_of n = cond (leb n 18) Second (cond (leb n 19) First (cond (leb n 20) Fourth Third))

-- the least and the most values of the items that have one
abbrev pub lows : List Item → List ℕ
lows [] = []
lows (Sign c ∷ is) = lows is
lows (Two least most ∷ is) = least ∷ lows is
lows (OneOrTwo least most ∷ is) = least ∷ lows is
lows (MonthName ∷ is) = 1 ∷ lows is
lows (HalfDay ∷ is) = 0 ∷ lows is
lows (PlusMinus ∷ is) = lows is

abbrev pub highs : List Item → List ℕ
highs [] = []
highs (Sign c ∷ is) = highs is
highs (Two least most ∷ is) = most ∷ highs is
highs (OneOrTwo least most ∷ is) = most ∷ highs is
highs (MonthName ∷ is) = 12 ∷ highs is
highs (HalfDay ∷ is) = 12 ∷ highs is
highs (PlusMinus ∷ is) = highs is

-- each value is between those of its item
pub record InRanges (is : List Item) (vs : List ℕ) : Type 0 where
  pub each : (k : ℕ) → k < length (lows is) → (get_or (lows is) k 0 ≤ get_or vs k 0) × (get_or vs k 0 ≤ get_or (highs is) k 0)

-- a moment whose day may be none
pub record InSpan (x : Moment) : Type 0 where
  pub year : Printed x.year
  pub month : x.month ≤ 12
  pub hour : x.hour ≤ 23
  pub minute : x.minute ≤ 59
  pub second : x.second ≤ 59
