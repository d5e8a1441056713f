-- What a step asks for lies in the buffers, and the measure falls.
use mathlib.Core.Path.{◌≡◌, refl, sym, ap, ◌∙◌, subst}
use mathlib.Core.Bool.{Bool, true, false, cond, ◌&&◌, ◌||◌, false≢true}
use mathlib.Core.List.{List, [], ◌∷◌, ◌++◌}
use Prim.Native.Nat.{ℕ, zero, suc, ◌+◌, ◌-◌, ◌*◌, ◌≤◌, ◌<◌}
use native.Mathlib.Omega.{arith}
use borrow.Author.Tests.{ltb-true, ltb-false, eqb-false, ne_eqb}
use borrow.Table.Steps.{cases as by}
use lib.Dec.{eqb, ltb}
use lib.ListN.{length, drop}
use Rattle.rules.specs.Rule.{Stop, refused, finished, more_bytes, Read, got, stops, read}
use Rattle.rules.specs.Calls.{Answer, full, stopped, Reading}
use Rattle.rules.proofs.Laws.{taken_within}
use Rattle.metadata.specs.Metadata.{Header}
use Rattle.chemstation.specs.Next.{rule}
use Rattle.streams.specs.declared.Mode.{Mode}
use Rattle.modes.specs.Modes.{open_by, begins_by}
use Rattle.streams.specs.declared.State.{State}
use Rattle.streams.specs.declared.Record.{Record}
use Rattle.lines.specs.Lines.{total_line, end_line, record_line}
use Rattle.lines.specs.Left.{left_line, too_long_line}
use Rattle.sums.specs.Sums.{AnyTotal, total_from}
use Rattle.runlog.specs.Log.{header_text, first_total}
use Rattle.runlog.specs.Runs.{lines_of, unscaled, logged, read_into}
use Rattle.runlog.proofs.Logs.{by_step, no_room, read_inside, read_room, read_some, read_few}
use Rattle.runlog.proofs.Cuts.{never_waits}
use Rattle.places.specs.declared.Phase.{Phase}
use Rattle.places.specs.declared.Phase.TheVariants.{Digit, Header as HeaderOf, Records, Ended, TooLong, Over}
use Rattle.places.specs.declared.Place.{Place}
use Rattle.places.specs.declared.Ask.{Ask}
use Rattle.places.specs.declared.Ask.TheVariants as ask
use Rattle.places.specs.Machine.{most, moved_to, totalled, over, at_hand, put_at, fits, Stepped, nothing_more, writes, closes, tells, refills, closing_bytes, scan_left, tells_left, leaves, goes_on, behind, logs_records, opens, afterwards, once_written, by_phase, step_of, grown, came, took_of, wrote_of}
use Rattle.places.proofs.Steps.{Inside, fits_inside, hand_long}
use Rattle.runs.specs.Whole.{rank, weight, Falls}
use Rattle.runs.proofs.Lengths.{header_long, foot_long, left_long, too_long_long, lines_fit, put_same}

-- ---- the measure

-- whether text stands there
abbrev held : ℕ → ℕ
held a = cond (eqb a 0) 0 1

held_low : (a : ℕ) → held a ≤ 1
held_low a = go (eqb a 0)
  where
    go : (b : Bool) → cond b 0 1 ≤ 1
    go true = omega arith
    go false = omega arith

held_some : (a : ℕ) → eqb a 0 ≡ false → held a ≡ 1
held_some a e = rw e refl

rank_some : (ph : Phase) → 1 ≤ rank ph
rank_some (Digit mode) = omega arith
rank_some (HeaderOf mode kind) = omega arith
rank_some (Records st) = omega arith
rank_some (Ended all due) = omega arith
rank_some TooLong = omega arith
rank_some Over = omega arith

module _ (p : Place) (ph : Phase) (f t a c : ℕ) where
  less : 2 * (t - f) + (held a + rank ph) < 2 * (p.to - p.from) + (held p.at + rank p.phase) → weight (moved_to p ph f t a c) < weight p
  less h = omega arith

  low : 2 * (t - f) + (held a + rank ph) ≤ 2 * (p.to - p.from) + (held p.at + rank p.phase) → weight (moved_to p ph f t a c) ≤ weight p
  low h = omega arith

-- records whose lines stand there took a byte each
held_lines : (rs : List Record) (a n : ℕ) → length rs ≤ n → held (a + length (lines_of rs)) ≤ held a + n
unfolding lines_of
held_lines [] a n h = let e : a + 0 ≡ a = omega arith in subst (λ b. held b ≤ held a + n) (sym e) (omega arith)
held_lines (r ∷ rs) a n h = omega (arith, held_low (a + length (lines_of (r ∷ rs))))

-- ---- what is asked for

-- from a place of a smaller measure, and memory that is as long
falls_from : (p q : Place) (buf out text : List ℕ) (a : Ask) → weight q ≤ weight p → length text ≡ length out → Falls q buf text a → Falls p buf out a
falls_from p q buf out text (ask.Write r n) h e f = (omega (arith, f.0), omega (arith, f.1))
falls_from p q buf out text (ask.Tell r n) h e f = (omega (arith, f.0), omega (arith, f.1))
falls_from p q buf out text (ask.Read r n) h e f = (omega (arith, f.0), f.1, f.2, f.3)
falls_from p q buf out text ask.Closed h e f = tt

-- told last, no run waits
no_wait : (most room : ℕ) (st : State) (bs : List ℕ) → ¬ ((read_into most room true st bs).closing ≡ stopped more_bytes)
unfolding read_into
no_wait zero room st bs = λ e. false≢true cc
no_wait (suc most) room st bs =
    by_step most room true st bs (λ x left. read_into most (room - length (record_line x.shows)) true x.after left) (λ g. ¬ (g.closing ≡ stopped more_bytes)) (λ h e. false≢true cc)
    (λ z h r e. never_waits (rule st) bs (r ∙ (let q : z ≡ more_bytes = cc in ap stops q))) (λ x n h r. no_wait most (room - length (record_line x.shows)) x.after _)

waits_before : (last : Bool) (most room : ℕ) (st : State) (bs : List ℕ) → (read_into most room last st bs).closing ≡ stopped more_bytes → last ≡ false
waits_before true most room st bs e = absurd (no_wait most room st bs e)
waits_before false most room st bs e = refl

read_before : (last : Bool) (mode : Mode) (kind : ℕ) (bs : List ℕ) → read last (open_by mode kind) bs ≡ stops more_bytes → last ≡ false
read_before true mode kind bs e = absurd (never_waits (open_by mode kind) bs e)
read_before false mode kind bs e = refl

or_not : (a b : Bool) → a || b ≡ false → b ≡ false
or_not true b e = absurd (false≢true (sym e))
or_not false b e = e

abbrev asks : Place → ℕ → List ℕ → List ℕ → Stepped
asks q n buf out = record { answer = ask.Read q n; buf = buf; out = out }

module _ (p : Place) (buf out : List ℕ) where
  abbrev Down : Stepped → Type 0
  Down s = Falls p buf out s.answer

  by_test : (b : Bool) (s t : Stepped) → (b ≡ true → Down s) → (b ≡ false → Down t) → Down (cond b s t)
  by_test true s t f g = f refl
  by_test false s t f g = g refl

  -- what stands in the output buffer is written, where it is some
  write_down : p.at ≤ length out → eqb p.at 0 ≡ false → Down (writes p p.phase buf out)
  write_down h e = (less p p.phase p.from p.to 0 p.count (omega (arith, held_some p.at e)), h)

  close_down : (z : Stop) → 2 ≤ rank p.phase → 70 ≤ length out - p.at → Down (closes p Over z buf out)
  close_down z h k = (less p Over p.from p.to 0 p.count (omega arith), omega (arith, foot_long p.total z p.count))

  tell_down : (line : List ℕ) → 2 ≤ rank p.phase → length line ≤ length out → Down (tells p line buf out)
  tell_down line h k = (less p Over p.from p.to 0 p.count (omega arith), k)

  -- ---- once the log is closed

  module _ (i : Inside p buf out) where
    left_down : (scan n : ℕ) → 2 ≤ rank p.phase → Down (tells_left scan n p buf out)
    left_down scan n h = by_test (eqb scan 0 && eqb n 0) (nothing_more buf out) (tells p (left_line scan n) buf out) (λ e. tt) (λ e. tell_down (left_line scan n) h (omega (arith, left_long scan n, i.line)))

    leave_down : (all due : ℕ) → 3 ≤ rank p.phase → Down (leaves all due p buf out)
    leave_down all due h =
        let hand = p.to - p.from in
        by_test (ltb due hand || p.last) (tells_left (all - (due - hand)) (hand - due) p buf out) (asks (moved_to p (Ended all (due - hand)) 0 0 0 p.count) 0 buf out) (λ e. left_down (all - (due - hand)) (hand - due) (omega arith))
        (λ e. (low p (Ended all (due - hand)) 0 0 0 p.count (omega arith), or_not (ltb due hand) p.last e, omega arith, i.some))

    after_down : (ph : Phase) → p.phase ≡ ph → Down (afterwards ph p buf out)
    after_down (Ended all due) e = leave_down all due (let r = ap rank e in omega (arith, r))
    after_down TooLong e = tell_down too_long_line (let r = ap rank e in omega (arith, r)) (omega (arith, too_long_long, i.line))
    after_down Over e = tt
    after_down (Digit mode) e = tt
    after_down (HeaderOf mode kind) e = tt
    after_down (Records st) e = tt

    once_down : Down (once_written p buf out)
    once_down = by_test (eqb p.at 0) (afterwards p.phase p buf out) (writes p p.phase buf out) (λ e. after_down p.phase refl) (λ e. write_down i.room e)

-- ---- records

-- at a place with room for a line
module _ (p : Place) (st : State) (buf out : List ℕ) (low_bytes : p.from ≤ p.to) (filled : p.to ≤ length buf) (at_records : rank p.phase ≡ 4) (room : 70 ≤ length out - p.at) where
  abbrev reading : Reading State Record
  reading = logged (length out - p.at) p.last st (at_hand buf p)

  abbrev text : ℕ
  text = length (lines_of reading.records)

  abbrev count : ℕ
  count = p.count + length reading.records

  abbrev total : AnyTotal
  total = total_from p.total (unscaled reading.records)

  abbrev next : Place
  next = totalled (moved_to p (Records reading.state) (p.from + reading.consumed) p.to (p.at + text) count) total

  text_fits : text ≤ length out - p.at
  text_fits = lines_fit (length out - p.at) (length out - p.at) p.last st (at_hand buf p)

  some_taken : reading.consumed ≤ p.to - p.from
  some_taken = omega (arith, read_inside (length out - p.at) (length out - p.at) p.last st (at_hand buf p), hand_long p buf low_bytes filled)

  close_behind : (ph : Phase) (from : ℕ) (y z : Stop) → rank ph < 4 → p.to - from ≤ p.to - p.from → reading.closing ≡ stopped y →
      (weight (moved_to p ph from p.to 0 count) < weight p) × (p.at + text + length (total_line total ++ end_line z count) ≤ length out)
  close_behind ph from y z h k e =
      (less p ph from p.to 0 count (omega arith), omega (arith, read_room (length out - p.at) (length out - p.at) p.last st (at_hand buf p) e, foot_long total z count))

  refill_behind : (new : List ℕ) → reading.closing ≡ stopped more_bytes → Down p buf out (refills next buf new)
  refill_behind new e =
      by_test p buf out (eqb (p.to - (p.from + reading.consumed)) (length buf)) (closes next Over more_bytes buf new)
      (asks (moved_to next next.phase 0 (p.to - (p.from + reading.consumed)) next.at count) (p.to - (p.from + reading.consumed)) (at_hand buf next ++ drop (p.to - (p.from + reading.consumed)) buf) new) (λ t. close_behind Over (p.from + reading.consumed) more_bytes more_bytes (omega arith) (omega arith) e)
      (λ t. (
        low p (Records reading.state) 0 (p.to - (p.from + reading.consumed)) (p.at + text) count
            (omega (arith, some_taken, held_lines reading.records p.at reading.consumed (read_few (length out - p.at) (length out - p.at) p.last st (at_hand buf p)))),
        waits_before p.last (length out - p.at) (length out - p.at) st (at_hand buf p) e,
        omega arith,
        let d = eqb-false (p.to - (p.from + reading.consumed)) (length buf) t in omega (arith, d),
      ))

  go_behind : (new : List ℕ) (a : Answer) → reading.closing ≡ a → Down p buf out (goes_on next reading.state a buf new)
  go_behind new full e = (
    less p (Records reading.state) (p.from + reading.consumed) p.to 0 count (omega (arith, some_taken, read_some (length out - p.at) (length out - p.at) p.last st (at_hand buf p) room (omega arith) e)),
    omega (arith, text_fits),
  )
  go_behind new (stopped more_bytes) e = refill_behind new e
  go_behind new (stopped (refused c)) e = close_behind Over (p.from + reading.consumed) (refused c) (refused c) (omega arith) (omega arith) e
  go_behind new (stopped finished) e =
      close_behind (Ended (scan_left reading.state) (scan_left reading.state)) (p.from + reading.consumed + closing_bytes reading.state (at_hand buf next)) finished finished (omega arith) (omega arith) e

  records_down : Down p buf out (logs_records st p buf out)
  unfolding logs_records
  records_down =
      by_test p buf out (ltb most count) (writes (moved_to p TooLong (p.from + reading.consumed) p.to (p.at + text) p.count) TooLong buf (put_at p.at (lines_of reading.records) out))
      (goes_on next reading.state reading.closing buf (put_at p.at (lines_of reading.records) out)) (λ t. (less p TooLong (p.from + reading.consumed) p.to 0 p.count (omega (arith, at_records)), omega (arith, text_fits)))
      (λ t. go_behind (put_at p.at (lines_of reading.records) out) reading.closing refl)

-- ---- the header

module _ (p : Place) (mode : Mode) (kind : ℕ) (buf out : List ℕ) (i : Inside p buf out) (at_header : rank p.phase ≡ 7) (room : 70 ≤ length out - p.at) (h : Header) (n : ℕ) (within : n ≤ p.to - p.from) where
  abbrev opened : Place
  opened = totalled (moved_to p (Records (begins_by mode kind h)) (p.from + n) p.to (p.at + length (header_text h)) p.count) (first_total kind)

  abbrev headed : List ℕ
  headed = put_at p.at (header_text h) out

  headed_long : length headed ≡ length out
  headed_long = put_same p.at (header_text h) out (omega (arith, header_long h))

  -- no room for a line behind it
  full_down : length headed - opened.at < 70 → Down p buf out (logs_records (begins_by mode kind h) opened buf headed)
  unfolding logs_records lines_of
  full_down k =
      subst (λ g. Down p buf out (behind opened (begins_by mode kind h) buf headed g)) (sym (no_room (length headed - opened.at) (length headed - opened.at) p.last (begins_by mode kind h) (at_hand buf opened) k))
      (by_test p buf out (ltb most (p.count + 0)) (writes (moved_to opened TooLong (p.from + n + 0) p.to (opened.at + 0) p.count) TooLong buf (put_at opened.at [] headed))
      (writes (moved_to opened (Records (begins_by mode kind h)) (p.from + n + 0) p.to (opened.at + 0) (p.count + 0)) (Records (begins_by mode kind h)) buf (put_at opened.at [] headed))
      (λ t. (less p TooLong (p.from + n + 0) p.to 0 p.count (omega arith), omega (arith, header_long h)))
      (λ t. (less p (Records (begins_by mode kind h)) (p.from + n + 0) p.to 0 (p.count + 0) (omega arith), omega (arith, header_long h))))

  opened_down : Down p buf out (logs_records (begins_by mode kind h) opened buf headed)
  opened_down =
      by (ltb (length headed - opened.at) 70) (λ t. full_down (ltb-true _ _ t))
      (λ t. falls_from p opened buf out headed (logs_records (begins_by mode kind h) opened buf headed).answer (low p (Records (begins_by mode kind h)) (p.from + n) p.to (p.at + length (header_text h)) p.count (omega (arith, held_low (p.at + length (header_text h))))) headed_long
      (records_down opened (begins_by mode kind h) buf headed (omega (arith, i.low)) i.filled refl (ltb-false _ _ t)))

open_down : (p : Place) (mode : Mode) (kind : ℕ) (buf out : List ℕ) → Inside p buf out → rank p.phase ≡ 7 → 70 ≤ length out - p.at → (x : Read Header) → read p.last (open_by mode kind) (at_hand buf p) ≡ x → Down p buf out (opens mode kind p buf out x)
open_down p mode kind buf out i r room (got h n) e = opened_down p mode kind buf out i r room h n (omega (arith, taken_within p.last (open_by mode kind) (at_hand buf p) e, hand_long p buf i.low i.filled))
open_down p mode kind buf out i r room (stops (refused c)) e = close_down p buf out (refused c) (omega arith) room
open_down p mode kind buf out i r room (stops finished) e = close_down p buf out finished (omega arith) room
open_down p mode kind buf out i r room (stops more_bytes) e =
    by_test p buf out (eqb (p.to - p.from) (length buf)) (closes p Over more_bytes buf out) (asks (moved_to p p.phase 0 (p.to - p.from) p.at p.count) (p.to - p.from) (at_hand buf p ++ drop (p.to - p.from) buf) out) (λ t. close_down p buf out more_bytes (omega arith) room)
    (λ t. (low p p.phase 0 (p.to - p.from) p.at p.count (omega arith), read_before p.last mode kind (at_hand buf p) e, omega arith, (let d = eqb-false (p.to - p.from) (length buf) t in omega (arith, d, i.filled))))

-- ---- a step

phase_down : (p : Place) (buf out : List ℕ) → Inside p buf out → 70 ≤ length out - p.at → (ph : Phase) → p.phase ≡ ph → Down p buf out (by_phase ph p buf out)
phase_down p buf out i room (Digit mode) e =
    let r = ap rank e in
    by_test p buf out p.last (closes p Over (refused 1) buf out) (asks (moved_to p (Digit mode) 0 0 p.at p.count) 0 buf out) (λ t. close_down p buf out (refused 1) (omega (arith, r)) room) (λ t. (low p (Digit mode) 0 0 p.at p.count (omega (arith, r)), t, omega arith, i.some))
phase_down p buf out i room (HeaderOf mode kind) e = open_down p mode kind buf out i (ap rank e) room (read p.last (open_by mode kind) (at_hand buf p)) refl
phase_down p buf out i room (Records st) e = records_down p st buf out i.low i.filled (ap rank e) room
phase_down p buf out i room (Ended all due) e = once_down p buf out i
phase_down p buf out i room TooLong e = once_down p buf out i
phase_down p buf out i room Over e = once_down p buf out i

pub falls : (p : Place) (buf out : List ℕ) → Falls p buf out (step_of p buf out).answer
unfolding step_of
falls p buf out =
    by_test p buf out (fits p buf out) (cond (ltb (length out - p.at) 70) (writes p p.phase buf out) (by_phase p.phase p buf out)) (nothing_more buf out)
    (λ e. let i = fits_inside p buf out e in
    by_test p buf out (ltb (length out - p.at) 70) (writes p p.phase buf out) (by_phase p.phase p buf out) (λ t. write_down p buf out i.room (some_there i t)) (λ t. phase_down p buf out i (ltb-false (length out - p.at) 70 t) p.phase refl))
    (λ e. tt)
  where
    some_there : Inside p buf out → ltb (length out - p.at) 70 ≡ true → eqb p.at 0 ≡ false
    some_there i t = ne_eqb p.at 0 (λ e. absurd (omega (arith, i.line, ltb-true (length out - p.at) 70 t)))

-- ---- what is answered

pub wrote_falls : (p q : Place) → weight q < weight p → (ok : Bool) → weight (wrote_of q ok) < weight p
wrote_falls p q h true = h
wrote_falls p q h false = let l = low q Over q.from q.to 0 q.count (omega (arith, rank_some q.phase)) in omega arith

pub unread_falls : (p q : Place) (buf out : List ℕ) (n : ℕ) → Falls p buf out (ask.Read q n) → weight (over q) < weight p
unread_falls p q buf out n f = let l = less q Over q.from q.to q.at q.count (omega (arith, f.2)) in omega (arith, f.0)

-- bytes came
grown_less : (q : Place) (ph : Phase) (from k : ℕ) → 0 < k → q.came + k ≤ most → rank ph ≤ rank q.phase → q.from ≤ from → weight (grown q ph from k) < weight q
grown_less q ph from k h m r l = omega arith

came_less : (ph : Phase) (q : Place) (k : ℕ) (new : List ℕ) → q.phase ≡ ph → 0 < k → q.came + k ≤ most → weight (came ph q k new) < weight q
came_less (Digit mode) q k new e h m = let r = ap rank e in omega (arith, r)
came_less (HeaderOf mode kind) q k new e h m = grown_less q q.phase q.from k h m (omega arith) (omega arith)
came_less (Records st) q k new e h m = grown_less q q.phase q.from k h m (omega arith) (omega arith)
came_less (Ended all due) q k new e h m = grown_less q q.phase q.from k h m (omega arith) (omega arith)
came_less TooLong q k new e h m = grown_less q q.phase q.from k h m (omega arith) (omega arith)
came_less Over q k new e h m = grown_less q q.phase q.from k h m (omega arith) (omega arith)

abbrev told : Place → Place
told q = record { phase = q.phase; from = q.from; to = q.to; last = true; at = q.at; count = q.count; total = q.total; came = q.came }

told_less : (q : Place) → q.last ≡ false → weight (told q) < weight q
told_less q e = omega (arith, before q.last e)
  where
    before : (b : Bool) → b ≡ false → 1 ≤ cond b 0 1
    before true e = absurd (false≢true (sym e))
    before false e = omega arith

module _ (q : Place) (k : ℕ) (new : List ℕ) where
  by_place : (b : Bool) (s t : Place) → (b ≡ true → weight s < weight q) → (b ≡ false → weight t < weight q) → weight (cond b s t) < weight q
  by_place true s t g h = g refl
  by_place false s t g h = h refl

  abbrev long : Place
  long = moved_to q TooLong q.from q.to q.at q.count

  some_came : eqb k 0 ≡ false → 0 < k
  some_came e = let c = eqb-false k 0 e in omega (arith, c)

  took_less : q.last ≡ false → 3 ≤ rank q.phase → weight (took_of q k new) < weight q
  unfolding took_of
  took_less l r =
      by_place (eqb k 0) (told q) (cond (ltb (length new - q.to) k) (over q) (cond (ltb most (q.came + k)) long (came q.phase q k new))) (λ e. told_less q l) λ e.
      by_place (ltb (length new - q.to) k) (over q) (cond (ltb most (q.came + k)) long (came q.phase q k new)) (λ t. less q Over q.from q.to q.at q.count (omega arith)) λ t.
      by_place (ltb most (q.came + k)) long (came q.phase q k new) (λ m. less q TooLong q.from q.to q.at q.count (omega arith)) λ m.
      came_less q.phase q k new refl (some_came e) (ltb-false most (q.came + k) m)

pub took_falls : (p q : Place) (buf out : List ℕ) (n k : ℕ) (new : List ℕ) → Falls p buf out (ask.Read q n) → weight (took_of q k new) < weight p
took_falls p q buf out n k new f = omega (arith, took_less q k new f.1 f.2, f.0)
