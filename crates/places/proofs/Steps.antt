-- Texts put and bytes moved, as the definitions of a step say it.
use mathlib.Core.Path.{◌≡◌, refl, sym, ap, ap₂, ◌∙◌, subst}
use mathlib.Core.Bool.{Bool, true, false, cond, ◌&&◌, ◌||◌, false≢true}
use mathlib.Core.List.{List, ◌++◌}
use mathlib.Core.Logic.{◌⊎◌, inl, inr}
use Prim.Native.Nat.{ℕ, zero, suc, ◌+◌, ◌-◌, ◌≤◌, ◌<◌}
use native.Mathlib.Nat.{add-zero, zero-add}
use native.Mathlib.Omega.{arith}
use borrow.Author.Tests.{leb-true, ltb-true, ltb-false, lt-ltb, le-ltb, eq-eqb, ne_eqb}
use borrow.Table.Steps.{cases as by}
use lib.Dec.{eqb, leb, ltb}
use lib.ListN.{length, take, drop, length-drop}
use lib.Seq.{length-take-le}
use Rattle.digits.specs.Put.{Put}
use Rattle.digits.specs.declared.Pen.{Pen}
use Rattle.places.specs.declared.Ask.{Ask}
use Rattle.rules.specs.Rule.{Stop, refused, finished, more_bytes, Read, got, stops, read}
use Rattle.rules.specs.Calls.{Item, Answer, full, stopped, Reading, nothing}
use Rattle.error.specs.Number.{stop_of}
use Rattle.error.specs.declared.Refusal.{Refusal}
use Rattle.error.specs.declared.Stopped.{Stopped}
use Rattle.error.specs.declared.Stopped.TheVariants.{Refused}
use Rattle.reader.specs.Columns.{closing_of}
use Rattle.std.specs.Prelude.{Result, Err, Option, Some, None, MatchOption}
use Rattle.std.specs.Option.{unwrap_or}
use Rattle.sums.specs.Sums.{AnyTotal, total_from}
use Rattle.runlog.specs.Runs.{lines_of, unscaled, logged, LoggedBy}
use Rattle.runlog.proofs.Logs.{line_some, no_room, logged_got, logged_stops, read_inside, read_room, room_of}
use Rattle.lines.specs.Lines.{record_line}
use Rattle.runlog.specs.declared.Logged.{Logged}
use Rattle.chemstation.specs.Next.{rule}
use Rattle.streams.specs.declared.State.{State}
use Rattle.streams.specs.declared.Record.{Record}
use Rattle.places.specs.declared.Phase.{Phase}
use Rattle.places.specs.declared.Phase.TheVariants.{Records, Ended, TooLong, Over}
use Rattle.places.specs.declared.Place.{Place}
use Rattle.places.specs.Machine.{at_hand, put_at, moved_to, totalled, Stepped, IsStep, most, writes, closes, fits, goes_on, behind, afterwards, once_written, by_phase, step_of, is_finished, finished_from, closing_bytes, scan_left, ends_by}

-- the lent memory after a text was put
pub put_at_lem : {l old new : List ℕ} {at r : ℕ} → Put l at old r new → new ≡ put_at at l old
put_at_lem {l} {old} {at = at} p = p.holds ∙ ap (λ n. take at old ++ (l ++ drop n old)) p.next

-- tests
pub some : {n : ℕ} → 0 < n → eqb n 0 ≡ false
some {n} h = ne_eqb n 0 (λ e. absurd (omega (arith, h, e)))

pub none : {n : ℕ} → n ≤ 0 → eqb n 0 ≡ true
none {n} h = eq-eqb n 0 (omega (arith, h))

pub or_so : {a : Bool} (b : Bool) → a ≡ true → a || b ≡ true
or_so b e = ap (λ x. x || b) e

pub or_then : {a b x : Bool} → a ≡ false → b ≡ x → a || b ≡ x
or_then {b = b} e f = ap (λ x. x || b) e ∙ f

pub and_not : {a : Bool} (b : Bool) → a ≡ false → a && b ≡ false
and_not b e = ap (λ x. x && b) e

pub and_then : {a b x : Bool} → a ≡ true → b ≡ x → a && b ≡ x
and_then {b = b} e f = ap (λ x. x && b) e ∙ f

-- by a test
pub then_step : {b : Bool} {s : Stepped} (t : Stepped) {r : Ask} {buf out : List ℕ} → b ≡ true → IsStep s r buf out → IsStep (cond b s t) r buf out
then_step {s = s} t {r} {buf} {out} e i = subst (λ x. IsStep (cond x s t) r buf out) (sym e) i

pub else_step : {b : Bool} (s : Stepped) {t : Stepped} {r : Ask} {buf out : List ℕ} → b ≡ false → IsStep t r buf out → IsStep (cond b s t) r buf out
else_step s {t} {r} {buf} {out} e i = subst (λ x. IsStep (cond x s t) r buf out) (sym e) i

pub then_place : {b : Bool} {s : Place} (t : Place) {r : Place} → b ≡ true → r ≡ s → r ≡ cond b s t
then_place {s = s} t {r} e i = subst (λ x. r ≡ cond x s t) (sym e) i

pub else_place : {b : Bool} (s : Place) {t : Place} {r : Place} → b ≡ false → r ≡ t → r ≡ cond b s t
else_place s {t} {r} e i = subst (λ x. r ≡ cond x s t) (sym e) i

-- the same step, said otherwise
pub step_as : {s t : Stepped} {r : Ask} {buf out : List ℕ} → s ≡ t → IsStep s r buf out → IsStep t r buf out
step_as {r = r} {buf} {out} e i = subst (λ x. IsStep x r buf out) e i

pub step_out : {s : Stepped} {r : Ask} {buf out last : List ℕ} → last ≡ out → IsStep s r buf out → IsStep s r buf last
step_out e i = record { answer = i.answer; buffer = i.buffer; text = e ∙ i.text }

-- whether the record loop with room for a line stopped as a finished run does
abbrev pub is_end : Answer → Bool
is_end full = false
is_end (stopped finished) = true
is_end (stopped (refused c)) = false
is_end (stopped more_bytes) = false

pub end_so : (st : State) (bs : List ℕ) → is_end (logged 70 false st bs).closing ≡ is_finished (read false (rule st) bs)
end_so st bs = go (read false (rule st) bs) refl
  where
    one : (r : Record) (after : State) (left : List ℕ) → logged (70 - length (record_line r)) false after left ≡ nothing after full
    one r after left = no_room (70 - length (record_line r)) (70 - length (record_line r)) false after left (omega (arith, line_some r))

    stops_so : (z : Stop) → is_end (stopped z) ≡ is_finished {A = Item State Record} (stops z)
    stops_so finished = refl
    stops_so (refused c) = refl
    stops_so more_bytes = refl

    go : (x : Read (Item State Record)) → read false (rule st) bs ≡ x → is_end (logged 70 false st bs).closing ≡ is_finished x
    go (got x n) e = ap (λ g. is_end g.closing) (logged_got 70 false st bs (omega arith) e) ∙ ap (λ g. is_end g.closing) (one x.shows x.after (drop n bs))
    go (stops z) e = ap (λ g. is_end g.closing) (logged_stops 70 false st bs (omega arith) e) ∙ stops_so z

pub finished_so : (st : State) (bs : List ℕ) (c : Result (Unit {0}) Stopped) (b : Bool) → b ≡ is_end (closing_of c) → closing_of c ≡ (logged 70 false st bs).closing → b ≡ is_finished (read false (rule st) bs)
finished_so st bs c b e f = e ∙ ap is_end f ∙ end_so st bs

-- the search for the fields that closed a run, from n bytes on
module _ (st : State) (bs : List ℕ) where
  abbrev pub Found : Bool → ℕ → Type 0
  Found b n = is_finished (read false (rule st) (take n bs)) ≡ b

  found_none : (k n : ℕ) → ((j : ℕ) → n ≤ j → j < n + k → Found false j) → n + k ≡ finished_from k n st bs
  found_none zero n before = add-zero n
  found_none (suc k) n before = rw (before n (omega arith) (omega arith)) (omega (arith, found_none k (n + 1) (λ j a b. before j (omega arith) (omega arith))))

  found_at : (k n i : ℕ) → n ≤ i → i < n + k → Found true i → ((j : ℕ) → n ≤ j → j < i → Found false j) → i ≡ finished_from k n st bs
  found_at zero n i low high ends before = absurd (omega arith)
  found_at (suc k) n i low high ends before =
      by (ltb n i)
      (λ t. let later = ltb-true n i t in rw (before n (omega arith) later) (found_at k (n + 1) i (omega (arith, later)) (omega arith) ends (λ j a b. before j (omega arith) b)))
      (λ t. let here : i ≡ n = omega (arith, ltb-false n i t) in rw (subst (Found true) here ends) here)

  pub first_found : (r : Option ℕ) → MatchOption r ((j : ℕ) → 0 ≤ j → j < length bs → Found false j) (λ i. (0 ≤ i) × (i < length bs) × Found true i × ((j : ℕ) → 0 ≤ j → j < i → Found false j)) →
      (unwrap_or r (length bs) ≡ closing_bytes st bs) × (unwrap_or r (length bs) ≤ length bs)
  first_found None before = (sym (zero-add (length bs)) ∙ found_none (length bs) 0 (λ j a b. before j a (omega arith)), omega arith)
  first_found (Some i) h = (found_at (length bs) 0 i h.0 (omega (arith, h.1)) h.2 h.3, omega (arith, h.1))

-- a run closed with 0
pub ends_as : (st : State) (p q : Place) (hand buf out : List ℕ) (due n : ℕ) → q ≡ moved_to p p.phase (p.from + n) p.to p.at p.count → due ≡ scan_left st → n ≡ closing_bytes st hand →
    closes q (Ended due due) finished buf out ≡ ends_by st p hand buf out
ends_as st p q hand buf out due n e f g =
    ap (λ x. closes x (Ended due due) finished buf out) (e ∙ ap (λ k. moved_to p p.phase (p.from + k) p.to p.at p.count) g)
    ∙ ap (λ d. closes (moved_to p p.phase (p.from + closing_bytes st hand) p.to p.at p.count) (Ended d d) finished buf out) f

-- ---- by the answer

module _ (p : Place) (st : State) (buf out : List ℕ) {r : Ask} {b o : List ℕ} where
  pub go_as : (z y : Stopped) → z ≡ y → IsStep (goes_on p st (stopped (stop_of y)) buf out) r b o → IsStep (goes_on p st (stopped (stop_of z)) buf out) r b o
  go_as z y e i = subst (λ x. IsStep (goes_on p st (stopped (stop_of x)) buf out) r b o) (sym e) i

  pub go_refused : (z : Stopped) (c : Refusal) → z ≡ Refused c → IsStep (closes p Over (stop_of z) buf out) r b o → IsStep (goes_on p st (stopped (stop_of z)) buf out) r b o
  go_refused z c e = subst (λ x. IsStep (closes p Over (stop_of x) buf out) r b o → IsStep (goes_on p st (stopped (stop_of x)) buf out) r b o) (sym e) (λ i. i)

  pub closing_as : (c d : Result (Unit {0}) Stopped) → c ≡ d → IsStep (goes_on p st (closing_of d) buf out) r b o → IsStep (goes_on p st (closing_of c) buf out) r b o
  closing_as c d e i = subst (λ x. IsStep (goes_on p st (closing_of x) buf out) r b o) (sym e) i

-- ---- records logged

module _ (p : Place) (st : State) (buf : List ℕ) (pen next : Pen) (at_start : pen.at ≡ p.at) (g : Reading State Record) (w : Logged) (l : LoggedBy g pen p.total w next) where
  abbrev here : List ℕ
  here = put_at p.at (lines_of g.records) pen.out.now

  -- the place behind them
  placed : (phase : Phase) (count : ℕ) → moved_to p phase (p.from + w.from) p.to next.at count ≡ moved_to p phase (p.from + g.consumed) p.to (p.at + length (lines_of g.records)) count
  placed phase count = ap₂ (λ f a. moved_to p phase (p.from + f) p.to a count) l.from (l.put.put.next ∙ ap (λ n. n + length (lines_of g.records)) at_start)

  texts : next.out.now ≡ here
  texts = put_at_lem l.put.put ∙ ap (λ n. put_at n (lines_of g.records) pen.out.now) at_start

  pub too_many : {r : Ask} {out : List ℕ} → out ≡ next.out.now → most < p.count + w.count →
      IsStep (writes (moved_to p TooLong (p.from + w.from) p.to next.at p.count) TooLong buf out) r buf out → IsStep (behind p st buf pen.out.now g) r buf out
  too_many {out = out} same h i =
      then_step _ (lt-ltb most (p.count + length g.records) (omega (arith, l.count)))
      record { answer = i.answer ∙ ap (λ x. (writes x TooLong buf out).answer) (placed TooLong p.count); buffer = refl; text = same ∙ texts }

  abbrev onward : Place
  onward = totalled (moved_to p (Records g.state) (p.from + g.consumed) p.to (p.at + length (lines_of g.records)) (p.count + length g.records)) (total_from p.total (unscaled g.records))

  pub logged_on : {r : Ask} {b o : List ℕ} → p.count + w.count ≤ most →
      IsStep (goes_on (totalled (moved_to p (Records w.state) (p.from + w.from) p.to next.at (p.count + w.count)) w.total) w.state (closing_of w.closing) buf next.out.now) r b o → IsStep (behind p st buf pen.out.now g) r b o
  logged_on h i =
      let moved = placed (Records w.state) (p.count + w.count) ∙ ap₂ (λ s n. moved_to p (Records s) (p.from + g.consumed) p.to (p.at + length (lines_of g.records)) (p.count + n)) l.state l.count in
      else_step _ (le-ltb most (p.count + length g.records) (omega (arith, l.count)))
      (step_as (ap₂ (λ x s. goes_on x s (closing_of w.closing) buf next.out.now) (ap₂ totalled moved l.total) l.state ∙ ap₂ (λ c t. goes_on onward g.state c buf t) l.closing texts) i)

-- ---- by the phase

pub after_as : (p : Place) (phase : Phase) (buf out : List ℕ) {r : Ask} {b o : List ℕ} → p.phase ≡ phase → IsStep (afterwards phase p buf out) r b o → IsStep (afterwards p.phase p buf out) r b o
after_as p phase buf out {r} {b} {o} e i = subst (λ x. IsStep (afterwards x p buf out) r b o) (sym e) i

pub phase_as : (p : Place) (phase : Phase) (buf out : List ℕ) {r : Ask} {b o : List ℕ} → p.phase ≡ phase → IsStep (by_phase phase p buf out) r b o → IsStep (by_phase p.phase p buf out) r b o
phase_as p phase buf out {r} {b} {o} e i = subst (λ x. IsStep (by_phase x p buf out) r b o) (sym e) i

-- once the log is closed
pub after_phase : (p : Place) (buf out : List ℕ) → ((all : ℕ) × (due : ℕ) × (p.phase ≡ Ended all due)) ⊎ ((p.phase ≡ TooLong) ⊎ (p.phase ≡ Over)) → by_phase p.phase p buf out ≡ once_written p buf out
after_phase p buf out (inl (all, due, e)) = ap (λ x. by_phase x p buf out) e
after_phase p buf out (inr (inl e)) = ap (λ x. by_phase x p buf out) e
after_phase p buf out (inr (inr e)) = ap (λ x. by_phase x p buf out) e

-- a step at a place that fits, with room for a line
pub at_place : (p : Place) (buf out : List ℕ) {r : Ask} {b o : List ℕ} → fits p buf out ≡ true → 70 ≤ length out - p.at → IsStep (by_phase p.phase p buf out) r b o → IsStep (step_of p buf out) r b o
unfolding step_of
at_place p buf out e h i = then_step _ e (else_step _ (le-ltb (length out - p.at) 70 h) i)

-- what it is to fit
pub record Inside (p : Place) (buf out : List ℕ) : Type 0 where
  pub low : p.from ≤ p.to
  pub filled : p.to ≤ length buf
  pub room : p.at ≤ length out
  pub some : 1 ≤ length buf
  pub line : 128 ≤ length out

pub fits_inside : (p : Place) (buf out : List ℕ) → fits p buf out ≡ true → Inside p buf out
fits_inside p buf out e =
    let a = and_true (leb p.from p.to) _ e in
    let b = and_true (leb p.to (length buf)) _ a.1 in
    let c = and_true (leb p.at (length out)) _ b.1 in
    let d = and_true (leb 1 (length buf)) _ c.1 in
    record { low = leb-true _ _ a.0; filled = leb-true _ _ b.0; room = leb-true _ _ c.0; some = leb-true _ _ d.0; line = leb-true _ _ d.1 }
  where
    and_true : (a b : Bool) → a && b ≡ true → (a ≡ true) × (b ≡ true)
    and_true true b e = (refl, e)
    and_true false b e = absurd (false≢true e)

-- the bytes at hand are as many as between the two indices
pub hand_long : (p : Place) (buf : List ℕ) → p.from ≤ p.to → p.to ≤ length buf → length (at_hand buf p) ≡ p.to - p.from
hand_long p buf h k = length-take-le (p.to - p.from) (drop p.from buf) (omega (arith, length-drop p.from buf))

-- behind the records logged there is room for the closing line where they stopped, and no byte but those at hand was consumed
module _ (p : Place) (buf : List ℕ) (pen next : Pen) (last : Bool) (st : State) (t : AnyTotal) (w : Logged) (l : LoggedBy (logged (room_of pen) last st (at_hand buf p)) pen t w next) where
  pub line_behind : pen.at ≤ length pen.out.now → (z : Stopped) → w.closing ≡ Err z → next.at + 68 ≤ length next.out.now
  line_behind room z c =
      let free = read_room (room_of pen) (room_of pen) last st (at_hand buf p) (sym l.closing ∙ ap closing_of c) in
      omega (arith, l.put.put.next, l.put.put.same)

  pub taken_inside : p.from ≤ p.to → p.to ≤ length buf → p.from + w.from ≤ p.to
  taken_inside low filled =
      let hand = hand_long p buf low filled in
      let inside = read_inside (room_of pen) (room_of pen) last st (at_hand buf p) in
      omega (arith, l.from)
