-- The sums of days, by tests that are computed over all years and months.
use mathlib.Core.Path.{◌≡◌, refl, ap, ◌∙◌}
use mathlib.Core.List.{map}
use mathlib.Core.Bool.{Bool, true, false, cond, ◌&&◌}
use Prim.Native.Nat.{ℕ, zero, suc, ◌+◌, ◌*◌, ◌/◌, ◌≤◌, ◌<◌}
use native.Mathlib.Numerals.{add-one}
use native.Mathlib.Omega.{arith}
use lib.Dec.{leb, eqb}
use lib.ListN.{get_or, get_or-eq_default}
use borrow.Author.Tests.{eqb-true, leb-true, leb-false, ne_eqb}
use borrow.Table.Steps.{cases as by}
use Rattle.std.specs.List.{sum, range_with_len}
use Rattle.std.proofs.lemmas.List.FromFn.{sum_by-map-range_with_len_more}
use Rattle.utf8.proofs.Cases.{least, most, inside, every, each}
use Rattle.calendar.specs.Calendar.{leap, common_days, days_in, is_day, before_month, of_years}

-- ---- years

abbrev summed : ℕ → Bool
summed k = eqb (k * 365 + k / 4) (of_years k)

sums : every summed 100 ≡ true
unfolding of_years before_month days_in leap
sums = refl

pub years_sum : (k : ℕ) → k < 100 → k * 365 + k / 4 ≡ of_years k
years_sum k h = eqb-true (k * 365 + k / 4) (of_years k) (each summed 100 sums k h)

-- ---- months

-- the days before a month, by whether the year is a leap year
before_in : Bool → ℕ → ℕ
before_in b zero = 0
before_in b (suc m) = before_in b m + (get_or common_days m 0 + cond (eqb m 2 && b) 1 0)

by_leap : (y m : ℕ) → before_month y m ≡ before_in (leap y) m
unfolding before_month days_in before_in
by_leap y zero = refl
by_leap y (suc m) = ap (λ (n : ℕ). n + (get_or common_days m 0 + cond (eqb m 2 && leap y) 1 0)) (by_leap y m)

-- what the code adds up
pub months_sum : (y m : ℕ) → sum (map (days_in y) (range_with_len 0 m)) ≡ before_month y m
unfolding before_month
months_sum y zero = refl
months_sum y (suc m) =
    let more = rw (add-one m) at (sum_by-map-range_with_len_more (λ (n : ℕ). n) (days_in y) 0 m m (omega arith)) in
    more ∙ ap (λ (n : ℕ). n + days_in y m) (months_sum y m)

abbrev few : Bool → ℕ → Bool
few b m = leb (before_in b m) 335

all_few : (b : Bool) → every (few b) 13 ≡ true
unfolding before_in
all_few true = refl
all_few false = refl

pub most_before : (y m : ℕ) → m ≤ 12 → before_month y m ≤ 335
most_before y m h = let f = leb-true _ _ (each (few (leap y)) 13 (all_few (leap y)) m (omega arith)) in omega (arith, by_leap y m, f)

-- ---- a day of a month

abbrev short : ℕ → Bool
short m = leb (get_or common_days m 0 + cond (eqb m 2) 1 0) 31

all_short : every short 13 ≡ true
all_short = refl

no_month : (m : ℕ) → 12 < m → get_or common_days m 0 ≡ 0
no_month m h = get_or-eq_default common_days 0 {n = m} (omega arith)

pub month_days : (y m : ℕ) → days_in y m ≤ 31
unfolding days_in
month_days y m =
    let n : cond (eqb m 2 && leap y) 1 0 ≤ cond (eqb m 2) 1 0 = both_less (eqb m 2) (leap y) in
    by (leb m 12)
    (λ t.
    let l : get_or common_days m 0 + cond (eqb m 2) 1 0 ≤ 31 = leb-true _ _ (each short 13 all_short m (omega (arith, leb-true m 12 t))) in
    omega arith)
    (λ f.
    let h = leb-false m 12 f in
    let none = no_month m (omega (arith, h)) in
    let out : cond (eqb m 2) 1 0 ≤ 1 = at_most (eqb m 2) in
    omega arith)
  where
    both_less : (p q : Bool) → cond (p && q) 1 0 ≤ cond p 1 0
    both_less true true = omega arith
    both_less true false = omega arith
    both_less false q = omega arith

    at_most : (b : Bool) → cond b 1 0 ≤ 1
    at_most true = omega arith
    at_most false = omega arith

pub day_within : (y m d : ℕ) → is_day y m d ≡ true → (1 ≤ d) × (d ≤ 31)
unfolding is_day
day_within y m d e = (least 1 (days_in y m) d e, omega (arith, most 1 (days_in y m) d e, month_days y m))

abbrev some : ℕ → Bool
some m = leb 1 (get_or common_days (suc m) 0)

all_some : every some 12 ≡ true
all_some = refl

-- each month has a first day, and there is none behind the twelfth
pub first_day : (y m : ℕ) → 1 ≤ m → m ≤ 12 → is_day y m 1 ≡ true
unfolding is_day days_in
first_day y zero l h = absurd (omega arith)
first_day y (suc m) l h = inside 1 (days_in y (suc m)) 1 (omega arith) (omega (arith, leb-true 1 (get_or common_days (suc m) 0) (each some 12 all_some m (omega arith))))

pub a_month : (y m d : ℕ) → is_day y m d ≡ true → m ≤ 12
unfolding is_day days_in
a_month y m d e = by (leb m 12) (leb-true m 12)
    (λ f.
    let none = no_month m (omega (arith, leb-false m 12 f)) in
    let out : eqb m 2 ≡ false = ne_eqb m 2 (λ q. omega (arith, q, leb-false m 12 f)) in
    let few = simp (none, out) at (most 1 (days_in y m) d e) in
    omega (arith, few, least 1 (days_in y m) d e))
