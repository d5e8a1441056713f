-- What the record loop does: records read one behind the other while there is room for their lines.
use Rattle.std.specs.Prelude.{ℕ, zero, suc, ◌-◌, ◌≡◌, Bool, cond, List, [], ◌∷◌, ◌++◌, map, ltb, length, drop, Float}
use Rattle.rules.specs.Rule.{Read, got, stops, read}
use Rattle.rules.specs.Calls.{Item, full, stopped, Reading, nothing, ahead}
use Rattle.chemstation.specs.Next.{rule}
use Rattle.streams.specs.Next.{unscaled_of}
use Rattle.streams.specs.declared.State.{State}
use Rattle.streams.specs.declared.Record.{Record}
use Rattle.reader.specs.Columns.{closing_of}
use Rattle.sums.specs.Sums.{AnyTotal, total_from}
use Rattle.digits.specs.Put.{Puts}
use Rattle.digits.specs.declared.Pen.{Pen}
use Rattle.lines.specs.Lines.{record_line}
use Rattle.runlog.specs.declared.Logged.{Logged}

unfoldable pub lines_of : List Record → List ℕ
lines_of [] = []
lines_of (r ∷ rs) = record_line r ++ lines_of rs

-- by what is read: a record, and what is read behind it; or the answer
abbrev pub go_on_by : State → List ℕ → (Item State Record → List ℕ → Reading State Record) → Read (Item State Record) → Reading State Record
go_on_by st bs onward (got x n) = ahead x.shows n (onward x (drop n bs))
go_on_by st bs onward (stops z) = nothing st (stopped z)

-- records until there is no room for a line of 70 bytes, at most so many
unfoldable pub read_into : ℕ → ℕ → Bool → State → List ℕ → Reading State Record
read_into zero room last st bs = nothing st full
read_into (suc most) room last st bs =
    cond (ltb room 70) (nothing st full) (go_on_by st bs (λ x left. read_into most (room - length (record_line x.shows)) last x.after left) (read last (rule st) bs))

-- the unscaled values of records, in their order
abbrev pub unscaled : List Record → List Float
unscaled rs = map unscaled_of rs

-- each line has a byte at least: there are at most as many as there is room
abbrev pub logged : ℕ → Bool → State → List ℕ → Reading State Record
logged room last st bs = read_into room room last st bs

-- the answer r and the pen before and after, by what is read and the total before it: the lines of the records are put, and only they
pub record LoggedBy (g : Reading State Record) (p : Pen) (t : AnyTotal) (r : Logged) (q : Pen) : Type 0 where
  pub state : r.state ≡ g.state
  pub from : r.from ≡ g.consumed
  pub count : r.count ≡ length g.records
  pub closing : closing_of r.closing ≡ g.closing
  -- request 1: 'the unscaled values of the r lines printed'
  pub total : r.total ≡ total_from t (unscaled g.records)
  pub put : Puts (lines_of g.records) p q
