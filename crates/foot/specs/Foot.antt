-- Request 1 within demand 3's bounds: the number at the foot of a log is the sum of the added-up values, in whole numbers never rounded.
use Rattle.std.specs.Prelude.{◌≡◌, cond, ℕ, ◌-◌, ◌^◌, ltb, ℤ, pos, negsuc, nat_abs, ◌+ℤ◌, length, drop, replicate, Some, None, Ok, Err}
use mathlib.Core.List.{List, [], ◌∷◌, ◌++◌, foldl, map}
use Prim.Native.String.{String}
use Rattle.rules.specs.Rule.{Stop, finished, got, stops}
use Rattle.rules.specs.Calls.{by_rules}
use Rattle.common.specs.Bytes.{AreBytes}
use Rattle.metadata.specs.Metadata.{Header}
use Rattle.streams.specs.declared.Record.{Record}
use Rattle.streams.specs.declared.Mode.{Mode}
use Rattle.streams.specs.declared.Mode.TheVariants.{Plain}
use Rattle.modes.specs.Modes.{open_by, begins_by}
use Rattle.whole.specs.Whole.{Added, whole_rule, Within, AllExact}
use Rattle.demand3.specs.Demand3.{whole_start}
use Rattle.sums.specs.Sums.{AnyTotal, out_of_range, amount, total_from}
use Rattle.lines.specs.Lines.{total_line, end_line}
use Rattle.lines.specs.Left.{ascii}
use Rattle.runlog.specs.Runs.{lines_of, unscaled}
use Rattle.runlog.specs.Log.{in_buffer, Reads, header_text, first_total, LogOf}

-- ---- the added-up values

-- demand 3's, of the first n records of a file, by a reading
abbrev pub added_up : Mode → ℕ → ℕ → List ℕ → List Added
added_up mode kind n F = (by_rules whole_rule (whole_start mode kind) n F).records

-- each where demand 3 claims that it is the record's double
abbrev pub AllWithin : List Added → Type 0
AllWithin [] = Unit
AllWithin (w ∷ ws) = Within w.state w.deltas × AllWithin ws

-- ---- their total

-- one more: 17 'where a value's size is 2^53 or more, or the sum after some record leaves 64 bits'
abbrev pub plus_added : AnyTotal → Added → AnyTotal
plus_added None w = None
plus_added (Some (Ok a)) w = cond (ltb (nat_abs w.value) (2 ^ 53)) (amount (a +ℤ w.value)) out_of_range
plus_added (Some (Err c)) w = Some (Err c)

abbrev pub total_added : AnyTotal → List Added → AnyTotal
total_added t ws = foldl plus_added t ws

abbrev pub sum_added : ℤ → List Added → ℤ
sum_added a ws = foldl (λ z w. z +ℤ w.value) a ws

-- ---- the theorem

-- what a log is made of where the opening gives a header (`opened_run`)
pub record OpenedLog (mode : Mode) (size kind : ℕ) (F : List ℕ) : Type 0 where
  pub header : Header
  pub taken : ℕ
  pub records : List Record
  pub answer : Stop
  pub opens : in_buffer size (open_by mode kind) F ≡ got header taken
  pub reads : Reads size (begins_by mode kind header) (drop taken F) records answer

-- the added-up values of its records
abbrev pub values_of : {mode : Mode} {size kind : ℕ} {F : List ℕ} → OpenedLog mode size kind F → List Added
values_of {mode} {size} {kind} {F} l = added_up mode kind (length l.records) F

-- its text, with what those values add up to
abbrev pub text_added : {mode : Mode} {size kind : ℕ} {F : List ℕ} → OpenedLog mode size kind F → List ℕ
text_added l = header_text l.header ++ (lines_of l.records ++ (total_line (total_added (Some (Ok (pos 0))) (values_of l)) ++ end_line l.answer (length l.records)))

-- document 01's printed run: '512 zero bytes but for byte 251 = 2 and 267 = 2, then 00 05 00 02', and its log with request 1's `t 17`
unfoldable pub printed_run : List ℕ
printed_run = replicate 251 0 ++ (2 ∷ (replicate 15 0 ++ (2 ∷ (replicate 244 0 ++ (0 ∷ 5 ∷ 0 ∷ 2 ∷ [])))))

unfoldable pub printed_log : List ℕ
printed_log = ascii "h 2 512\nr 0000000000000000 - 4014000000000000 4014000000000000\nr 3FC999999999999A - 4028000000000000 4028000000000000\nt 17\ne 0 2\n"

-- 0, a negative one, both ends of 64 bits, a refused one, and none
abbrev pub some_totals : List AnyTotal
some_totals = Some (Ok (pos 0)) ∷ Some (Ok (negsuc 16)) ∷ Some (Ok (pos (2 ^ 63 - 1))) ∷ Some (Ok (negsuc (2 ^ 63 - 1))) ∷ out_of_range ∷ None ∷ []

abbrev pub some_lines : List String
some_lines = "t 0\n" ∷ "t -17\n" ∷ "t 9223372036854775807\n" ∷ "t -9223372036854775808\n" ∷ "t -\n" ∷ "" ∷ []

-- by either reading
pub record FootOfLog : Type 0 where
  -- the records of a log are demand 3's: each unscaled intensity is its added-up value, as far as that is claimed
  pub exact : (mode : Mode) (size kind : ℕ) (F : List ℕ) → AreBytes F → (l : OpenedLog mode size kind F) → AllExact l.records (values_of l)
  -- where it is claimed of all of them, what they add up to is what the added-up values do
  pub sum : (mode : Mode) (size kind : ℕ) (F : List ℕ) → AreBytes F → ¬ (kind ≡ 6) → (l : OpenedLog mode size kind F) → AllWithin (values_of l) →
      total_from (first_total kind) (unscaled l.records) ≡ total_added (Some (Ok (pos 0))) (values_of l)
  -- so the log has that in its line t
  pub foot : (mode : Mode) (size kind : ℕ) (F : List ℕ) → AreBytes F → ¬ (kind ≡ 6) → (l : OpenedLog mode size kind F) → AllWithin (values_of l) → LogOf mode size kind F l.answer (text_added l)
  -- and the number in it is their sum
  pub number : (a z : ℤ) (ws : List Added) → total_added (Some (Ok a)) ws ≡ Some (Ok z) → z ≡ sum_added a ws
  -- kind 6 has no line t, whatever its records
  pub array : (mode : Mode) (size : ℕ) (F : List ℕ) (l : OpenedLog mode size 6 F) → LogOf mode size 6 F l.answer (header_text l.header ++ (lines_of l.records ++ end_line l.answer (length l.records)))
  -- nor has a refused opening: e stands alone
  pub refused : (mode : Mode) (size kind : ℕ) (F : List ℕ) (z : Stop) → in_buffer size (open_by mode kind) F ≡ stops z → LogOf mode size kind F z (end_line z 0)
  -- the line t of some totals
  pub lines : map total_line some_totals ≡ map ascii some_lines
  -- of document 01's printed run it is so
  pub printed : LogOf Plain 32768 1 printed_run finished printed_log
  pub within : AllWithin (added_up Plain 1 2 printed_run)
