-- Document 01, 'Record streams' (FORMAT 5): what the fields of a record tell, and what several kinds share of it.
use Rattle.std.specs.Prelude.{Bool, false, cond, List, ℕ, ◌/◌, ◌%◌, eqb, ℤ, pos, negsuc, Float, Result, Ok, Err}
use Rattle.std.specs.Float.{binary64}
use Rattle.std.specs.Float.Ieee.{add, mul, div}
use Rattle.rules.specs.Rule.{Rule, gives, ◌>>=◌, map_rule, Read, got, stops}
use Rattle.error.specs.Number.{stop_of}
use Rattle.error.specs.declared.Stopped.{Stopped}
use Rattle.common.specs.Fields.{i16, i32}
use Rattle.floats.specs.Doubles.{double}
use Rattle.floats.specs.Wholes.{Sum}
use Rattle.streams.specs.Changes.{Change, adds, becomes}
use Rattle.streams.specs.declared.Delta.{Delta}
use Rattle.streams.specs.declared.Delta.TheVariants.{By, Absolute}
use Rattle.streams.specs.declared.State.{State}
use Rattle.streams.specs.declared.Record.{Record}

-- the record that a value makes, and the state after it
pub record Made : Type 0 where
  pub shows : Float → Record
  pub then : Sum Float → State

-- what the fields of a record tell: what they do to the value, and what the value then makes
pub record Told : Type 0 where
  pub does : List Change
  pub makes : Made

abbrev pub told : Made → List Change → Told
told m cs = record { does = cs; makes = m }

-- ---- numbers as doubles, each operation rounded once

-- '/ 20'
abbrev pub twentieths : ℕ → Float
twentieths n = div binary64 (double n) (double 20)

-- FID and MWD: 'the value is multiplied by the correction, then the offset added, each rounded once'
abbrev pub corrected : Float → Float → Float → Float
corrected mult offset y = add binary64 (mul binary64 y mult) offset

-- ---- a stored time

-- 'whole minutes and leftover milliseconds from the stored u32': of a time in milliseconds
abbrev pub whole_minutes : ℕ → ℕ
whole_minutes ms = ms / 60000

abbrev pub leftover : ℕ → ℕ
leftover ms = ms % 60000

-- ---- integers compared

abbrev pub is_int : ℤ → ℤ → Bool
is_int (pos m) (pos n) = eqb m n
is_int (pos m) (negsuc n) = false
is_int (negsuc m) (pos n) = false
is_int (negsuc m) (negsuc n) = eqb m n

-- ---- a delta

-- MWD, DAD and UV: 'i16: −32768 means an absolute i32 follows, else add'
unfoldable pub delta : (List ℕ → ℕ) → Rule Delta
delta order = do
  v ← i16 order
  cond (is_int v (negsuc 32767)) (map_rule Absolute (i32 order)) (gives (By v))

abbrev pub change_of : Delta → Change
change_of (By v) = adds v
change_of (Absolute z) = becomes z

-- what an answer says
abbrev pub delta_read : Result (Delta × ℕ) Stopped → Read Delta
delta_read (Ok (d, n)) = got d n
delta_read (Err z) = stops (stop_of z)
