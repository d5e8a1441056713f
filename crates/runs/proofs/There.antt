-- Every input has a run: a step keeps the buffer's length, so that as many bytes come as there is room for.
use mathlib.Core.Path.{◌≡◌, refl, sym, ap, ◌∙◌, subst}
use mathlib.Core.Bool.{Bool, true, false, cond, ◌||◌, ◌&&◌}
use mathlib.Core.List.{List, [], ◌∷◌, ◌++◌}
use Prim.Native.Nat.{ℕ, zero, suc, ◌+◌, ◌-◌, ◌≤◌, ◌<◌}
use native.Mathlib.Omega.{arith}
use borrow.Table.Steps.{cases as by}
use lib.Dec.{eqb, ltb}
use lib.ListN.{length, take, drop, length-append, length-drop, length-take, take-append-drop}
use lib.Seq.{length-take-le, take-append_seam}
use Rattle.rules.specs.Rule.{Stop, refused, finished, more_bytes, Read, got, stops, read}
use Rattle.rules.specs.Calls.{Answer, full, stopped, Reading}
use Rattle.rules.proofs.Laws.{taken_within}
use Rattle.metadata.specs.Metadata.{Header}
use Rattle.streams.specs.declared.State.{State}
use Rattle.streams.specs.declared.Record.{Record}
use Rattle.streams.specs.declared.Mode.{Mode}
use Rattle.modes.specs.Modes.{open_by, begins_by}
use Rattle.runlog.specs.Log.{header_text, first_total}
use Rattle.sums.specs.Sums.{total_from}
use Rattle.runlog.specs.Runs.{lines_of, unscaled, logged}
use Rattle.runlog.proofs.Logs.{read_inside}
use Rattle.places.specs.declared.Phase.{Phase}
use Rattle.places.specs.declared.Phase.TheVariants.{Digit, Header as HeaderOf, Records, Ended, TooLong, Over}
use Rattle.places.specs.declared.Place.{Place}
use Rattle.places.specs.declared.Ask.{Ask}
use Rattle.places.specs.declared.Ask.TheVariants as ask
use Rattle.places.specs.Machine.{most, moved_to, totalled, at_hand, put_at, fits, Stepped, nothing_more, writes, refills, tells_left, leaves, goes_on, behind, logs_records, opens, afterwards, once_written, by_phase, step_of}
use Rattle.places.proofs.Steps.{Inside, fits_inside, hand_long}
use Rattle.digits.specs.Numbers.{decimal}
use Rattle.lines.specs.Lines.{answer_text}
use Rattle.lines.specs.Left.{ascii}
use Rattle.runs.specs.Whole.{LogOfInput, no_digit, Falls, Writes, closed, written, told, taken, Ends, each_ends}
use Rattle.runs.proofs.Falls.{falls}

-- ---- a step keeps the buffer's length

abbrev Long : ℕ → Stepped → Type 0
Long size s = length s.buf ≡ size

refills_long : (p : Place) (buf out : List ℕ) → p.from ≤ p.to → p.to ≤ length buf → Long (length buf) (refills p buf out)
refills_long p buf out low filled =
    let n = p.to - p.from in
    let moved : length (at_hand buf p ++ drop n buf) ≡ length buf = omega (arith, length-append (at_hand buf p) (drop n buf), length-drop n buf, hand_long p buf low filled) in
    by (eqb n (length buf)) (λ t. rw t refl) (λ t. rw t moved)

goes_long : (p : Place) (st : State) (a : Answer) (buf out : List ℕ) → p.from ≤ p.to → p.to ≤ length buf → Long (length buf) (goes_on p st a buf out)
goes_long p st full buf out low filled = refl
goes_long p st (stopped more_bytes) buf out low filled = refills_long p buf out low filled
goes_long p st (stopped (refused c)) buf out low filled = refl
goes_long p st (stopped finished) buf out low filled = refl

logs_long : (st : State) (p : Place) (buf out : List ℕ) → p.from ≤ p.to → p.to ≤ length buf → Long (length buf) (logs_records st p buf out)
unfolding logs_records
logs_long st p buf out low filled =
    let room = length out - p.at in
    let g : Reading State Record = logged room p.last st (at_hand buf p) in
    let count = p.count + length g.records in
    let next : Place = totalled (moved_to p (Records g.state) (p.from + g.consumed) p.to (p.at + length (lines_of g.records)) count) (total_from p.total (unscaled g.records)) in
    let inside : p.from + g.consumed ≤ p.to = omega (arith, read_inside room room p.last st (at_hand buf p), hand_long p buf low filled) in
    by (ltb most count) (λ t. rw t refl) (λ t. rw t (goes_long next g.state g.closing buf (put_at p.at (lines_of g.records) out) inside filled))

opens_long : (mode : Mode) (kind : ℕ) (p : Place) (buf out : List ℕ) → p.from ≤ p.to → p.to ≤ length buf → (x : Read Header) → read p.last (open_by mode kind) (at_hand buf p) ≡ x → Long (length buf) (opens mode kind p buf out x)
opens_long mode kind p buf out low filled (got h n) e =
    let opened : Place = totalled (moved_to p (Records (begins_by mode kind h)) (p.from + n) p.to (p.at + length (header_text h)) p.count) (first_total kind) in
    let inside : p.from + n ≤ p.to = omega (arith, taken_within p.last (open_by mode kind) (at_hand buf p) e, hand_long p buf low filled) in
    logs_long (begins_by mode kind h) opened buf (put_at p.at (header_text h) out) inside filled
opens_long mode kind p buf out low filled (stops more_bytes) e = refills_long p buf out low filled
opens_long mode kind p buf out low filled (stops (refused c)) e = refl
opens_long mode kind p buf out low filled (stops finished) e = refl

after_long : (ph : Phase) (p : Place) (buf out : List ℕ) → Long (length buf) (afterwards ph p buf out)
after_long (Ended all due) p buf out =
    let hand = p.to - p.from in
    by (ltb due hand || p.last) (λ t. rw t (by (eqb (all - (due - hand)) 0 && eqb (hand - due) 0) (λ u. rw u refl) (λ u. rw u refl))) (λ t. rw t refl)
after_long TooLong p buf out = refl
after_long Over p buf out = refl
after_long (Digit mode) p buf out = refl
after_long (HeaderOf mode kind) p buf out = refl
after_long (Records st) p buf out = refl

once_long : (p : Place) (buf out : List ℕ) → Long (length buf) (once_written p buf out)
once_long p buf out = by (eqb p.at 0) (λ t. rw t (after_long p.phase p buf out)) (λ t. rw t refl)

phase_long : (ph : Phase) (p : Place) (buf out : List ℕ) → Inside p buf out → Long (length buf) (by_phase ph p buf out)
phase_long (Digit mode) p buf out i = by p.last (λ t. rw t refl) (λ t. rw t refl)
phase_long (HeaderOf mode kind) p buf out i = opens_long mode kind p buf out i.low i.filled (read p.last (open_by mode kind) (at_hand buf p)) refl
phase_long (Records st) p buf out i = logs_long st p buf out i.low i.filled
phase_long (Ended all due) p buf out i = once_long p buf out
phase_long TooLong p buf out i = once_long p buf out
phase_long Over p buf out i = once_long p buf out

step_long : (p : Place) (buf out : List ℕ) → Long (length buf) (step_of p buf out)
unfolding step_of
step_long p buf out =
    by (fits p buf out)
    (λ t. rw t (by (ltb (length out - p.at) 70) (λ u. rw u refl) (λ u. rw u (phase_long p.phase p buf out (fits_inside p buf out t)))))
    (λ t. rw t refl)

-- ---- a run

abbrev Runs : Place → List ℕ → List ℕ → List ℕ → Type 0
Runs p buf out input = (t : List ℕ) × Writes p buf out input t

-- as many bytes as there is room for come behind the first n
module _ (n : ℕ) (old input : List ℕ) (size : ℕ) (h : n < size) (k : length old ≡ size) where
  abbrev part : List ℕ
  part = take (size - n) input

  abbrev new : List ℕ
  new = (take n old ++ part) ++ drop (n + length part) old

  part_fits : length part ≤ size - n
  part_fits = omega (arith, length-take (size - n) input)

  front : length (take n old ++ part) ≡ n + length part
  front = omega (arith, length-append (take n old) part, length-take-le n old (omega arith))

  new_long : length new ≡ size
  new_long = omega (arith, length-append (take n old ++ part) (drop (n + length part) old), length-drop (n + length part) old, front, part_fits)

  new_holds : take (n + length part) new ≡ take n old ++ part
  new_holds = ap (λ m. take m new) (sym front) ∙ take-append_seam (take n old ++ part) (drop (n + length part) old)

  none_left : part ≡ [] → drop (size - n) input ≡ []
  none_left e = nothing (drop (size - n) input) (omega (arith, length-drop (size - n) input, length-take (size - n) input, ap length e))
    where
      nothing : (l : List ℕ) → length l ≡ 0 → l ≡ []
      nothing [] q = refl
      nothing (b ∷ l) q = absurd (omega arith)

by_answer : (p : Place) (buf out input : List ℕ) → Ends p buf out input → (a : Ask) → (step_of p buf out).answer ≡ a → Runs p buf out input
by_answer p buf out input (each_ends w t r f) ask.Closed e = ([], closed e)
by_answer p buf out input (each_ends w t r f) (ask.Write q n) e = let x = by_answer q _ _ input (w q n true e) _ refl in (_, written q n e x.1)
by_answer p buf out input (each_ends w t r f) (ask.Tell q n) e = let x = by_answer q _ _ input (t q n true e) _ refl in (x.0, told q n e x.1)
by_answer p buf out input (each_ends w t r f) (ask.Read q n) e =
    let old = (step_of p buf out).buf in
    let long = step_long p buf out in
    let some : n < length buf = (subst (Falls p buf out) e (falls p buf out)).3 in
    let came = part n old input (length buf) some long in
    let rest = drop (length buf - n) input in
    let now = new n old input (length buf) some long in
    let whole = take-append-drop (length buf - n) input in
    let x = by_answer _ now _ rest (r q n came rest now e (sym whole)) _ refl in
    (x.0, subst (λ i. Writes p buf out i x.0) whole (taken q n came rest now e (part_fits n old input (length buf) some long) (none_left n old input (length buf) some long) (new_long n old input (length buf) some long) (new_holds n old input (length buf) some long) x.1))

-- ---- no digit

pub empty_log : (mode : Mode) (size : ℕ) (t : List ℕ) → LogOfInput mode size [] t → t ≡ ascii "e 1 0\n"
unfolding answer_text decimal
empty_log mode size t no_digit = refl

-- ---- the theorem

pub runs_there : ((p : Place) (buf out input : List ℕ) → Ends p buf out input) → (p : Place) (buf out input : List ℕ) → Runs p buf out input
runs_there ends p buf out input = by_answer p buf out input (ends p buf out input) _ refl
