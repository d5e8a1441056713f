-- The values are in the ranges of their items, and say a moment of the calendar's years.
use mathlib.Core.Path.{◌≡◌}
use mathlib.Core.List.{List, [], ◌∷◌}
use Prim.Native.Nat.{ℕ, zero, suc, ◌≤◌, ◌<◌}
use native.Mathlib.Omega.{arith}
use lib.ListN.{length, get_or}
use borrow.Table.Steps.{cases as by}
use lib.Dec.{leb}
use Rattle.calendar.specs.Calendar.{Printed}
use Rattle.items.specs.declared.Item.{Item}
use Rattle.std.proofs.Common.{Some}
use borrow.Author.Tests.{leb-true, leb-false}
use Rattle.dates.specs.declared.Form.{Form}
use Rattle.dates.specs.declared.Form.TheVariants.{First, Second, Third, Fourth}
use Rattle.dates.specs.Dates.{first_form, fourth_form, items_of, year_of, half_day_moment, moment_of, values_of, lows, highs, InRanges, InSpan}
use Rattle.dates.specs.Grammar.{Written, none, next}
use Rattle.items.specs.Writing.{sign, two, one, or_two, month, am, pm, plus, minus}
use Rattle.dates.proofs.Sound.{written}

-- values between numbers, one by one
data Between : List ℕ → List ℕ → List ℕ → Type 0 where
  nil : Between [] [] []
  also : {l h v : ℕ} {ls hs vs : List ℕ} → l ≤ v → v ≤ h → Between ls hs vs → Between (l ∷ ls) (h ∷ hs) (v ∷ vs)

between : {is : List Item} {vs t : List ℕ} → Written is vs t → Between (lows is) (highs is) vs
between none = nil
between (next sign r) = between r
between (next (two p q a b) r) = also a b (between r)
between (next (one p a b) r) = also a b (between r)
between (next (or_two p q a b) r) = also a b (between r)
between (next (month a b x) r) = also a b (between r)
between (next (am x) r) = also {l = 0} {h = 12} {v = 0} (omega arith) (omega arith) (between r)
between (next (pm x) r) = also {l = 0} {h = 12} {v = 12} (omega arith) (omega arith) (between r)
between (next plus r) = between r
between (next minus r) = between r

at : {ls hs vs : List ℕ} → Between ls hs vs → (k : ℕ) → k < length ls → (get_or ls k 0 ≤ get_or vs k 0) × (get_or vs k 0 ≤ get_or hs k 0)
at nil k h = absurd (omega arith)
at (also p q b) zero h = (p, q)
at (also p q b) (suc k) h = at b k (omega arith)

pub written_ranges : {is : List Item} {vs t : List ℕ} → Written is vs t → InRanges is vs
written_ranges r = record { each = at (between r) }

-- ---- the moment that they say

printed_year : (y : ℕ) → y ≤ 99 → Printed (year_of y)
printed_year y h = by (leb y 68) (λ t. rw t (omega arith, omega (arith, leb-true y 68 t))) (λ f. rw f (omega (arith, leb-false y 68 f), omega arith))

half_day_span : (v : List ℕ) → get_or v 2 0 ≤ 99 → get_or v 1 0 ≤ 12 → get_or v 4 0 ≤ 59 → get_or v 5 0 ≤ 12 → InSpan (half_day_moment v)
half_day_span v y m mi h = record { year = printed_year (get_or v 2 0) y; month = m; hour = omega arith; minute = mi; second = omega arith }

pub in_span : (f : Form) (v : List ℕ) → InRanges (items_of f) v → InSpan (moment_of f v)
unfolding moment_of
in_span First v r =
    let m : (k : ℕ) → k < 6 → get_or v k 0 ≤ get_or (highs first_form) k 0 = λ k h. (r.each k h).1 in
    record { year = printed_year (get_or v 2 0) (m 2 (omega arith)); month = m 1 (omega arith); hour = m 3 (omega arith); minute = m 4 (omega arith); second = m 5 (omega arith) }
in_span Second v r = half_day_span v (r.each 2 (omega arith)).1 (r.each 1 (omega arith)).1 (r.each 4 (omega arith)).1 (r.each 5 (omega arith)).1
in_span Third v r = half_day_span v (r.each 2 (omega arith)).1 (r.each 1 (omega arith)).1 (r.each 4 (omega arith)).1 (r.each 5 (omega arith)).1
in_span Fourth v r =
    let m : (k : ℕ) → k < 7 → get_or v k 0 ≤ get_or (highs fourth_form) k 0 = λ k h. (r.each k h).1 in
    record { year = printed_year (get_or v 2 0) (m 2 (omega arith)); month = m 0 (omega arith); hour = omega (arith, m 6 (omega arith)); minute = m 4 (omega arith); second = m 5 (omega arith) }

-- ---- the values that a text has

pub of_ranges : (is : List Item) (t vs : List ℕ) → values_of is t ≡ Some vs → InRanges is vs
of_ranges is t vs e = written_ranges (written is t vs e)

pub all_there : (is : List Item) (t vs : List ℕ) → values_of is t ≡ Some vs → length (lows is) ≤ length vs
all_there is t vs e = size (between (written is t vs e))
  where
    size : {ls hs us : List ℕ} → Between ls hs us → length ls ≤ length us
    size nil = omega arith
    size (also p q b) = omega (arith, size b)

pub five : (f : Form) → 5 ≤ length (lows (items_of f))
five First = omega arith
five Second = omega arith
five Third = omega arith
five Fourth = omega arith
