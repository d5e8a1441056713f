-- Every file has a log: a record takes a byte at least, so that the records of a file come to an end.
use mathlib.Core.Path.{◌≡◌, refl}
use mathlib.Core.Bool.{true, false}
use mathlib.Core.List.{List, [], ◌∷◌}
use Prim.Native.Nat.{ℕ, zero, suc, ◌≤◌, ◌<◌}
use native.Mathlib.Omega.{arith}
use borrow.Table.Steps.{cases as by}
use lib.Dec.{ltb}
use lib.ListN.{length, take, drop, length-drop, length-take}
use Rattle.rules.specs.Rule.{Stop, Read, got, stops, read}
use Rattle.rules.specs.Calls.{Item}
use Rattle.rules.proofs.Laws.{taken_within}
use Rattle.metadata.specs.Metadata.{Header}
use Rattle.chemstation.specs.Next.{rule}
use Rattle.chemstation.proofs.Progress.{record_takes}
use Rattle.streams.specs.declared.State.{State}
use Rattle.streams.specs.declared.Record.{Record}
use Rattle.streams.specs.declared.Mode.{Mode}
use Rattle.modes.specs.Modes.{open_by, begins_by}
use Rattle.lines.specs.Lines.{end_line}
use Rattle.runlog.specs.Log.{in_buffer, Reads, one_more, no_more, opened_text, LogOf, refused_run, opened_run}

-- a record takes a byte at least and no more than there are
takes : (size : ℕ) (st : State) (bs : List ℕ) {x : Item State Record} {n : ℕ} → in_buffer size (rule st) bs ≡ got x n → (0 < n) × (n ≤ length bs)
takes size st bs {x} {n} e =
    by (ltb (length bs) size)
    (λ t. let f : read true (rule st) bs ≡ got x n = rw t at e in (record_takes st true bs f, taken_within true (rule st) bs f))
    (λ t. let f : read false (rule st) (take size bs) ≡ got x n = rw t at e in (record_takes st false (take size bs) f, omega (arith, taken_within false (rule st) (take size bs) f, length-take size bs)))

abbrev Records : ℕ → State → List ℕ → Type 0
Records size st bs = (rs : List Record) × (z : Stop) × Reads size st bs rs z

-- by what is read next: a record, and those behind it; or the answer that closes them
by_reading : (size : ℕ) (st : State) (bs : List ℕ) → ((x : Item State Record) (n : ℕ) → in_buffer size (rule st) bs ≡ got x n → Records size x.after (drop n bs)) → Records size st bs
by_reading size st bs onward = go (in_buffer size (rule st) bs) refl
  where
    go : (x : Read (Item State Record)) → in_buffer size (rule st) bs ≡ x → Records size st bs
    go (got x n) e = let r = onward x n e in (x.shows ∷ r.0, r.1, one_more e r.2)
    go (stops z) e = ([], z, no_more e)

-- what is due from a state on, of at most so many bytes
records_there : (most size : ℕ) (st : State) (bs : List ℕ) → length bs ≤ most → Records size st bs
records_there zero size st bs h = by_reading size st bs λ x n e. absurd (omega (arith, (takes size st bs e).0, (takes size st bs e).1))
records_there (suc most) size st bs h = by_reading size st bs λ x n e. records_there most size x.after (drop n bs) (omega (arith, length-drop n bs, (takes size st bs e).0))

pub there : (mode : Mode) (size kind : ℕ) (F : List ℕ) → (z : Stop) × (t : List ℕ) × LogOf mode size kind F z t
there mode size kind F = go (in_buffer size (open_by mode kind) F) refl
  where
    go : (x : Read Header) → in_buffer size (open_by mode kind) F ≡ x → (z : Stop) × (t : List ℕ) × LogOf mode size kind F z t
    go (got h n) e =
        let r = records_there (length (drop n F)) size (begins_by mode kind h) (drop n F) (omega arith) in
        (r.1, opened_text kind h r.0 r.1, opened_run e r.2)
    go (stops z) e = (z, end_line z 0, refused_run e)
