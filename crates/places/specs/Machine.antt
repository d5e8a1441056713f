-- The log program without input and output: what a run asks for at a place, and where it stands then. Document 01, 'The log program', and request 1.
use Rattle.std.specs.Prelude.{ℕ, zero, suc, ◌+◌, ◌-◌, ◌≡◌, Bool, true, false, cond, ◌&&◌, ◌||◌, List, ◌++◌, eqb, leb, ltb, length, take, drop, get_or, None}
use Rattle.rules.specs.Rule.{Stop, refused, finished, more_bytes, Read, got, stops, read}
use Rattle.rules.specs.Calls.{Answer, full, stopped, Reading}
use Rattle.metadata.specs.Metadata.{Header}
use Rattle.modes.specs.Modes.{open_by, begins_by}
use Rattle.chemstation.specs.Next.{rule}
use Rattle.streams.specs.declared.State.{State}
use Rattle.streams.specs.declared.State.TheVariants.{Fid, Ms, Mwd, Dad, Uv, Array, AtlasDad, AtlasUv}
use Rattle.streams.specs.declared.Mode.{Mode}
use Rattle.streams.specs.declared.Record.{Record}
use Rattle.digits.specs.Numbers.{kind_of}
use Rattle.sums.specs.Sums.{AnyTotal, total_from}
use Rattle.lines.specs.Lines.{total_line, end_line}
use Rattle.lines.specs.Left.{left_line, too_long_line}
use Rattle.runlog.specs.Runs.{lines_of, unscaled, logged}
use Rattle.runlog.specs.Log.{header_text, first_total}
use Rattle.places.specs.declared.Phase.{Phase}
use Rattle.places.specs.declared.Phase.TheVariants.{Digit, Header as HeaderOf, Records, Ended, TooLong, Over}
use Rattle.places.specs.declared.Place.{Place}
use Rattle.places.specs.declared.Ask.{Ask}
use Rattle.places.specs.declared.Ask.TheVariants as ask

-- ---- places

-- the first of the bytes: none has come
abbrev pub started : Mode → Place
started mode = record { phase = Digit mode; from = 0; to = 0; last = false; at = 0; count = 0; total = None; came = 0 }

abbrev pub moved_to : Place → Phase → ℕ → ℕ → ℕ → ℕ → Place
moved_to p phase from to at count = record { phase = phase; from = from; to = to; last = p.last; at = at; count = count; total = p.total; came = p.came }

abbrev pub totalled : Place → AnyTotal → Place
totalled p t = record { phase = p.phase; from = p.from; to = p.to; last = p.last; at = p.at; count = p.count; total = t; came = p.came }

-- nothing is asked for any more but to write what stands in the output buffer: so ends a run that could not be read, without an `e`
abbrev pub over : Place → Place
over p = moved_to p Over p.from p.to p.at p.count

-- the bytes that have come and are not consumed
abbrev pub at_hand : List ℕ → Place → List ℕ
at_hand buf p = take (p.to - p.from) (drop p.from buf)

-- a text put at an index
abbrev pub put_at : ℕ → List ℕ → List ℕ → List ℕ
put_at at text out = take at out ++ (text ++ drop (at + length text) out)

-- its numbers are places of the buffers, which hold a byte and a line
abbrev pub fits : Place → List ℕ → List ℕ → Bool
fits p buf out = leb p.from p.to && (leb p.to (length buf) && (leb p.at (length out) && (leb 1 (length buf) && leb 128 (length out))))

-- ---- what is asked for

pub record Stepped : Type 0 where
  pub answer : Ask
  pub buf : List ℕ
  pub out : List ℕ

abbrev pub nothing_more : List ℕ → List ℕ → Stepped
nothing_more buf out = record { answer = ask.Closed; buf = buf; out = out }

-- what stands in the output buffer is written
abbrev pub writes : Place → Phase → List ℕ → List ℕ → Stepped
writes p phase buf out = record { answer = ask.Write (moved_to p phase p.from p.to 0 p.count) p.at; buf = buf; out = out }

-- 'a line `t` .. just before `e`', 'e: closing answer, record count' are put behind it, and all is written
abbrev pub closes : Place → Phase → Stop → List ℕ → List ℕ → Stepped
closes p phase z buf out =
    let text = total_line p.total ++ end_line z p.count in
    record { answer = ask.Write (moved_to p phase p.from p.to 0 p.count) (p.at + length text); buf = buf; out = put_at p.at text out }

abbrev pub tells : Place → List ℕ → List ℕ → List ℕ → Stepped
tells p line buf out = record { answer = ask.Tell (moved_to p Over p.from p.to 0 p.count) (length line); buf = buf; out = put_at 0 line out }

-- the bytes at hand are moved to the start, and more are read behind them; 'if it still gives *more bytes*' when full, `e m`
abbrev pub refills : Place → List ℕ → List ℕ → Stepped
refills p buf out =
    let n = p.to - p.from in
    cond (eqb n (length buf)) (closes p Over more_bytes buf out) (record { answer = ask.Read (moved_to p p.phase 0 n p.at p.count) n; buf = at_hand buf p ++ drop n buf; out = out })

-- ---- the end of a run

abbrev pub is_finished : {A : Type 0} → Read A → Bool
is_finished (got a n) = false
is_finished (stops finished) = true
is_finished (stops (refused c)) = false
is_finished (stops more_bytes) = false

abbrev pub finished_from : ℕ → ℕ → State → List ℕ → ℕ
finished_from zero n st bs = n
finished_from (suc others) n st bs = cond (is_finished (read false (rule st) (take n bs))) n (finished_from others (n + 1) st bs)

-- the fields that closed a run: the fewest bytes on which it is *finished*, whatever follows
abbrev pub closing_bytes : State → List ℕ → ℕ
closing_bytes st bs = finished_from (length bs) 0 st bs

-- the bytes of the last scan that a DAD run leaves; under the atlas reading it leaves none, as it ends where none are due
abbrev pub scan_left : State → ℕ
scan_left (Fid st) = 0
scan_left (Ms st) = 0
scan_left (Mwd st) = 0
scan_left (Dad st) = st.n_bytes_left.0
scan_left (Uv st) = 0
scan_left (Array st) = 0
scan_left (AtlasDad st) = 0
scan_left (AtlasUv st) = 0

abbrev pub ends_by : State → Place → List ℕ → List ℕ → List ℕ → Stepped
ends_by st p hand buf out = closes (moved_to p p.phase (p.from + closing_bytes st hand) p.to p.at p.count) (Ended (scan_left st) (scan_left st)) finished buf out

-- what is left is told, if anything is
abbrev pub tells_left : ℕ → ℕ → Place → List ℕ → List ℕ → Stepped
tells_left scan behind p buf out = cond (eqb scan 0 && eqb behind 0) (nothing_more buf out) (tells p (left_line scan behind) buf out)

-- of all bytes that the last scan left so many are still due: they are passed over, and then what is left is told
abbrev pub leaves : ℕ → ℕ → Place → List ℕ → List ℕ → Stepped
leaves all due p buf out =
    let hand = p.to - p.from in
    cond (ltb due hand || p.last) (tells_left (all - (due - hand)) (hand - due) p buf out) (record { answer = ask.Read (moved_to p (Ended all (due - hand)) 0 0 0 p.count) 0; buf = buf; out = out })

-- ---- records

-- by what closed the records at hand
abbrev pub goes_on : Place → State → Answer → List ℕ → List ℕ → Stepped
goes_on p st full buf out = writes p p.phase buf out
goes_on p st (stopped more_bytes) buf out = refills p buf out
goes_on p st (stopped (refused c)) buf out = closes p Over (refused c) buf out
goes_on p st (stopped finished) buf out = ends_by st p (at_hand buf p) buf out

-- the most that 64 bits count
abbrev pub most : ℕ
most = 18446744073709551615

abbrev pub behind : Place → State → List ℕ → List ℕ → Reading State Record → Stepped
behind p st buf out g =
    let text = lines_of g.records in
    let count = p.count + length g.records in
    cond (ltb most count)
    (writes (moved_to p TooLong (p.from + g.consumed) p.to (p.at + length text) p.count) TooLong buf (put_at p.at text out))
    (goes_on (totalled (moved_to p (Records g.state) (p.from + g.consumed) p.to (p.at + length text) count) (total_from p.total (unscaled g.records))) g.state g.closing buf (put_at p.at text out))

-- the records at hand are logged
unfoldable pub logs_records : State → Place → List ℕ → List ℕ → Stepped
logs_records st p buf out = behind p st buf out (logged (length out - p.at) p.last st (at_hand buf p))

-- ---- the header

-- 'A refused opening prints only e'
abbrev pub opens : Mode → ℕ → Place → List ℕ → List ℕ → Read Header → Stepped
opens mode kind p buf out (got h n) =
    let st = begins_by mode kind h in
    logs_records st (totalled (moved_to p (Records st) (p.from + n) p.to (p.at + length (header_text h)) p.count) (first_total kind)) buf (put_at p.at (header_text h) out)
opens mode kind p buf out (stops more_bytes) = refills p buf out
opens mode kind p buf out (stops (refused c)) = closes p Over (refused c) buf out
opens mode kind p buf out (stops finished) = closes p Over finished buf out

-- ---- a step

-- once the log is closed and written
abbrev pub afterwards : Phase → Place → List ℕ → List ℕ → Stepped
afterwards (Ended all due) p buf out = leaves all due p buf out
afterwards TooLong p buf out = tells p too_long_line buf out
afterwards Over p buf out = nothing_more buf out
afterwards (Digit mode) p buf out = nothing_more buf out
afterwards (HeaderOf mode kind) p buf out = nothing_more buf out
afterwards (Records st) p buf out = nothing_more buf out

abbrev pub once_written : Place → List ℕ → List ℕ → Stepped
once_written p buf out = cond (eqb p.at 0) (afterwards p.phase p buf out) (writes p p.phase buf out)

abbrev pub by_phase : Phase → Place → List ℕ → List ℕ → Stepped
-- 'No digit: `e 1 0`'
by_phase (Digit mode) p buf out = cond p.last (closes p Over (refused 1) buf out) (record { answer = ask.Read (moved_to p (Digit mode) 0 0 p.at p.count) 0; buf = buf; out = out })
by_phase (HeaderOf mode kind) p buf out = opens mode kind p buf out (read p.last (open_by mode kind) (at_hand buf p))
by_phase (Records st) p buf out = logs_records st p buf out
by_phase (Ended all due) p buf out = once_written p buf out
by_phase TooLong p buf out = once_written p buf out
by_phase Over p buf out = once_written p buf out

-- where there is no room for a line, what stands there is written first
unfoldable pub step_of : Place → List ℕ → List ℕ → Stepped
step_of p buf out = cond (fits p buf out) (cond (ltb (length out - p.at) 70) (writes p p.phase buf out) (by_phase p.phase p buf out)) (nothing_more buf out)

-- the answer and the lent memory after a step
pub record IsStep (s : Stepped) (r : Ask) (buf out : List ℕ) : Type 0 where
  pub answer : r ≡ s.answer
  pub buffer : buf ≡ s.buf
  pub text : out ≡ s.out

-- ---- what a read answers, and a write

abbrev pub grown : Place → Phase → ℕ → ℕ → Place
grown p phase from k = record { phase = phase; from = from; to = p.to + k; last = p.last; at = p.at; count = p.count; total = p.total; came = p.came + k }

-- so many bytes came behind those at hand: 'one kind digit, then the file'
abbrev pub came : Phase → Place → ℕ → List ℕ → Place
came (Digit mode) p k buf = grown p (HeaderOf mode (kind_of (get_or buf p.to 0))) (p.to + 1) k
came (HeaderOf mode kind) p k buf = grown p p.phase p.from k
came (Records st) p k buf = grown p p.phase p.from k
came (Ended all due) p k buf = grown p p.phase p.from k
came TooLong p k buf = grown p p.phase p.from k
came Over p k buf = grown p p.phase p.from k

-- none is the end of the input; a count that there was no room for ends the run as a read that failed does
unfoldable pub took_of : Place → ℕ → List ℕ → Place
took_of p k buf =
    cond (eqb k 0) (record { phase = p.phase; from = p.from; to = p.to; last = true; at = p.at; count = p.count; total = p.total; came = p.came })
    (cond (ltb (length buf - p.to) k) (over p)
    (cond (ltb most (p.came + k)) (moved_to p TooLong p.from p.to p.at p.count)
    (came p.phase p k buf)))

-- nothing follows what could not be written
abbrev pub wrote_of : Place → Bool → Place
wrote_of p ok = cond ok p (moved_to p Over p.from p.to 0 p.count)
