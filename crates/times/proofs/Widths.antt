-- A row; the lengths of the six columns; a u32 as a double; the run to look at.
use mathlib.Core.Path.{◌≡◌, refl}
use mathlib.Core.Bool.{Bool, true, false}
use mathlib.Core.List.{List, [], ◌∷◌}
use Prim.Native.Nat.{ℕ, ◌^◌, ◌<◌}
use native.Mathlib.Omega.{arith}
use lib.IntN.{pos}
use lib.ListN.{length}
use lib.Ieee.{binary64}
use borrow.Author.Tests.{eq-eqb}
use Rattle.rules.specs.Rule.{refused, read, ◌>>=◌}
use Rattle.rules.specs.Calls.{stopped, nothing, read_up_to}
use Rattle.floats.specs.Doubles.{double}
use Rattle.floats.specs.Wholes.{IsWhole}
use Rattle.floats.proofs.Exact.{whole_of_lem}
use Rattle.chemstation.specs.Next.{rule}
use Rattle.streams.specs.Scanning.{scanning}
use Rattle.streams.specs.declared.State.{State}
use Rattle.ms.specs.Ms.{ms_scans, ms_point}
use Rattle.streams.specs.declared.Record.{Record}
use Rattle.streams.specs.declared.Record.TheVariants.{Trace, Mass, Spectrum}
use Rattle.reader.specs.Columns.{row_of, Held, equal_lengths, columns_with, fill_of}
use Rattle.reader.proofs.ColumnLaws.{even_if}
use Rattle.times.specs.Times.{Carries, CarriesRow, OneLength, shown_run, shown_columns}

equal_if : (c : Held) → OneLength c → equal_lengths c ≡ true
equal_if c e = rw (eq-eqb _ _ e.axis, eq-eqb _ _ e.unscaled, eq-eqb _ _ e.scaled, eq-eqb _ _ e.minutes, eq-eqb _ _ e.leftover) refl

pub equal : (st : State) (s : List ℕ) (last : Bool) (c : Held) → OneLength c → fill_of st s last c ≡ read_up_to rule last (length c.time) st s
equal st s last c h = rw (equal_if c h) refl

one_length : (c : Held) → equal_lengths c ≡ true → OneLength c
one_length c e = let h = even_if c e in record { axis = h.axis; unscaled = h.unscaled; scaled = h.scaled; minutes = h.minutes; leftover = h.leftover }

pub unequal : (st : State) (s : List ℕ) (last : Bool) (c : Held) → ¬ OneLength c → fill_of st s last c ≡ nothing st (stopped (refused 15))
unequal st s last c h = go (equal_lengths c) refl
  where
    go : (b : Bool) → equal_lengths c ≡ b → fill_of st s last c ≡ nothing st (stopped (refused 15))
    go true e = absurd (h (one_length c e))
    go false e = rw e refl

pub unwritten : (c : Held) → columns_with [] c ≡ c
unwritten c = refl

pub exact : (ms : ℕ) → ms < 2 ^ 32 → IsWhole binary64 (double ms) (pos ms)
exact ms h = whole_of_lem binary64 (pos ms) (omega arith)

pub rows : (b : Bool) (r : Record) (ms : ℕ) → Carries b r ms → CarriesRow b (row_of r) ms
rows true (Trace t u s) ms c = absurd c
rows true (Mass t m u s min left) ms c = c
rows true (Spectrum t w u s min left) ms c = c
rows false (Trace t u s) ms c = (refl, refl)
rows false (Mass t m u s min left) ms c = absurd c
rows false (Spectrum t w u s min left) ms c = absurd c

pub shown : (shown_columns.minutes ≡ 2 ∷ 2 ∷ 7 ∷ []) × (shown_columns.leftover ≡ 5001 ∷ 5001 ∷ 7 ∷ [])
unfolding shown_run read_up_to read ◌>>=◌ scanning ms_scans ms_point
shown = (refl, refl)
