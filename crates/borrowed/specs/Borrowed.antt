-- What the two forms that borrow say, by what a rule reads (document 01, 'Forms the Rust has and we cannot', 'Matching forms to places').
use Rattle.std.specs.Prelude.{Bool, List, ℕ, ◌+◌, drop, Result, Ok, Err}
use Rattle.rules.specs.Rule.{Read, got, stops, read, map_read}
use Rattle.rules.specs.Calls.{one_record}
use Rattle.error.specs.Number.{stop_of}
use Rattle.error.specs.declared.Stopped.{Stopped}
use Rattle.chemstation.specs.Next.{rule}
use Rattle.streams.specs.declared.State.{State}
use Rattle.streams.specs.declared.Record.{Record}
use Rattle.streams.specs.declared.Given.{Given}
use Rattle.borrowed.specs.declared.Shown.{Shown}
use Rattle.borrowed.specs.declared.Reader.{Reader}

abbrev pub shown_from : Given → Shown
shown_from g = record { «record» = g.«record»; bytes = g.bytes }

abbrev pub shown_of : Result Shown Stopped → Read Record
shown_of (Ok r) = got r.«record» r.bytes
shown_of (Err z) = stops (stop_of z)

-- Next record without its state: the record and its byte count, or why there is none
abbrev pub shown_by : State → Bool → List ℕ → Read Record
shown_by st last s = map_read (λ x. x.shows) (read last (rule st) s)

-- the state after it: 'every refusal, finished and more bytes .. returns the state it was given'
abbrev pub state_by : State → Bool → List ℕ → State
state_by st last s = (one_record st (read last (rule st) s)).state

-- the bytes that it takes: none without a record
abbrev pub taken_by : State → Bool → List ℕ → ℕ
taken_by st last s = (one_record st (read last (rule st) s)).consumed

-- 'The reading position travels with the bytes it counts over'; none are left from a position at or past the end
abbrev pub unread : Reader → List ℕ
unread r = drop r.at r.bytes.now

abbrev pub moved : Reader → ℕ → Reader
moved r n = record { bytes = r.bytes; at = r.at + n }
