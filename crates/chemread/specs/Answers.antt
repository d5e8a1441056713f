-- One number for each answer of Open, of Fetch, of a sum, of a run date and of a window; those of the others are in error/specs/Number.
use Rattle.std.specs.Prelude.{ℕ, Some, None, Ok, Err}
use Rattle.rules.specs.Rule.{Read, got, stops}
use Rattle.error.specs.Number.{stop_number, number_of, stop_of}
use Rattle.fetch.specs.Fetch.{Outcome, wrote, refuse}
use Rattle.volumes.specs.Volume.{Told, instant, no_date, refuse as refuse_date, Place, inside, outside, undated, refused}
use Rattle.sums.specs.Sums.{AnyTotal}
use Rattle.chemread.specs.declared.Answer.{Answer}
use Rattle.chemread.specs.declared.Answer.TheVariants.{Stopped, Full, Given, NoDate, InWindow, OutOfWindow}

-- what a call answers as a number
abbrev pub answer_number : Answer → ℕ
answer_number (Stopped z) = stop_number (stop_of z)
answer_number Full = 102
answer_number Given = 103
answer_number NoDate = 104
answer_number InWindow = 105
answer_number OutOfWindow = 106

-- 103: a header was opened, a text or all eight fetched, a column added up, or a run date read
abbrev pub read_number : {A : Type 0} → Read A → ℕ
read_number (got a n) = 103
read_number (stops z) = stop_number z

abbrev pub outcome_number : Outcome → ℕ
outcome_number (wrote n) = 103
outcome_number (refuse c) = c

-- 17 is the number of the refusal
abbrev pub total_number : AnyTotal → ℕ
total_number None = 103
total_number (Some (Ok z)) = 103
total_number (Some (Err c)) = number_of c

-- 'no date' has no number in the request: one beyond all refusals
abbrev pub told_number : Told → ℕ
told_number (instant i) = 103
told_number no_date = 104
told_number (refuse_date c) = c

abbrev pub place_number : Place → ℕ
place_number undated = 104
place_number inside = 105
place_number outside = 106
place_number (refused c) = c
