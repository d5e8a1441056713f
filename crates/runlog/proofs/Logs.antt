-- The record loop: what is read and put so far, and what is left to read.
use mathlib.Core.Path.{◌≡◌, refl, sym, ap, ap₂, ◌∙◌, subst}
use mathlib.Core.Bool.{Bool, cond, false≢true}
use mathlib.Core.List.{List, [], ◌∷◌, ◌++◌, append_assoc, append-nil}
use Prim.Native.Nat.{ℕ, zero, suc, ◌+◌, ◌-◌, ◌≤◌, ◌<◌}
use native.Mathlib.Nat.{add-zero, zero-add, add_assoc}
use native.Mathlib.Omega.{arith}
use borrow.Author.Tests.{ltb-true, ltb-false, lt-ltb, le-ltb}
use borrow.Table.Steps.{cases as by}
use lib.Dec.{ltb}
use lib.ListN.{length, drop, length-append, length-drop}
use lib.Seq.{drop-drop}
use Rattle.rules.specs.Rule.{Stop, Read, got, stops, read}
use Rattle.rules.specs.Calls.{Item, full, stopped, Reading, nothing, ahead}
use Rattle.rules.proofs.Laws.{taken_within}
use Rattle.chemstation.specs.Next.{rule}
use Rattle.chemstation.proofs.Progress.{record_takes}
use Rattle.streams.specs.declared.State.{State}
use Rattle.streams.specs.declared.Record.{Record}
use Rattle.streams.specs.declared.Record.TheVariants.{Trace, Mass, Spectrum}
use Rattle.digits.specs.Put.{Put, Puts}
use Rattle.digits.specs.declared.Pen.{Pen}
use Rattle.lines.specs.Lines.{record_line}
use Rattle.reader.specs.Columns.{closing_of}
use Rattle.std.specs.Prelude.{Result}
use Rattle.error.specs.declared.Stopped.{Stopped}
use Rattle.sums.specs.Sums.{AnyTotal, plus, total_from}
use Rattle.tally.specs.Tally.{start_of}
use Rattle.tally.specs.declared.Tally.{Tally}
use Rattle.runlog.specs.declared.Logged.{Logged}
use Rattle.streams.specs.Next.{unscaled_of}
use Rattle.runlog.specs.Runs.{unscaled, lines_of, go_on_by, read_into, logged, LoggedBy}
use Rattle.digits.proofs.Puts.{puts_as, puts_then, puts_none}

pub lines_append : (rs ss : List Record) → lines_of (rs ++ ss) ≡ lines_of rs ++ lines_of ss
unfolding lines_of
lines_append [] ss = refl
lines_append (r ∷ rs) ss = ap (λ t. record_line r ++ t) (lines_append rs ss) ∙ sym (append_assoc (record_line r) (lines_of rs) (lines_of ss))

-- a line has a byte
pub line_some : (r : Record) → 1 ≤ length (record_line r)
unfolding record_line
line_some (Trace t u s) = omega arith
line_some (Mass t m u s min left) = omega arith
line_some (Spectrum t w u s min left) = omega arith

full≢stopped : {z : Stop} → ¬ (full ≡ stopped z)
full≢stopped e = false≢true cc

-- no room for a line
pub no_room : (most room : ℕ) (last : Bool) (st : State) (bs : List ℕ) → room < 70 → read_into most room last st bs ≡ nothing st full
unfolding read_into
no_room zero room last st bs h = refl
no_room (suc most) room last st bs h = rw (lt-ltb room 70 h) refl

-- as many as there is room are enough
pub enough : (a b room : ℕ) (last : Bool) (st : State) (bs : List ℕ) → room ≤ a → room ≤ b → read_into a room last st bs ≡ read_into b room last st bs
unfolding read_into
enough zero b room last st bs h k = sym (no_room b room last st bs (omega arith))
enough (suc a) zero room last st bs h k = no_room (suc a) room last st bs (omega arith)
enough (suc a) (suc b) room last st bs h k =
    go (read last (rule st) bs) (λ x n. enough a b (room - length (record_line x.shows)) last x.after (drop n bs) (omega (arith, line_some x.shows)) (omega (arith, line_some x.shows)))
  where
    go : (x : Read (Item State Record)) →
        ((x : Item State Record) (n : ℕ) → read_into a (room - length (record_line x.shows)) last x.after (drop n bs) ≡ read_into b (room - length (record_line x.shows)) last x.after (drop n bs)) →
        cond (ltb room 70) (nothing st full) (go_on_by st bs (λ x left. read_into a (room - length (record_line x.shows)) last x.after left) x)
        ≡ cond (ltb room 70) (nothing st full) (go_on_by st bs (λ x left. read_into b (room - length (record_line x.shows)) last x.after left) x)
    go (stops z) ih = refl
    go (got x n) ih = ap (λ w. cond (ltb room 70) (nothing st full) (ahead x.shows n w)) (ih x n)

-- with room for a line, by what is read
pub logged_got : (room : ℕ) (last : Bool) (st : State) (bs : List ℕ) {x : Item State Record} {n : ℕ} → 70 ≤ room → read last (rule st) bs ≡ got x n →
    logged room last st bs ≡ ahead x.shows n (logged (room - length (record_line x.shows)) last x.after (drop n bs))
unfolding read_into
logged_got zero last st bs h e = absurd (omega arith)
logged_got (suc room) last st bs {x} {n} h e =
    let rest = suc room - length (record_line x.shows) in
    rw (le-ltb (suc room) 70 h, e) (ap (ahead x.shows n) (enough room rest rest last x.after (drop n bs) (omega (arith, line_some x.shows)) (omega arith)))

pub logged_stops : (room : ℕ) (last : Bool) (st : State) (bs : List ℕ) {z : Stop} → 70 ≤ room → read last (rule st) bs ≡ stops z → logged room last st bs ≡ nothing st (stopped z)
unfolding read_into
logged_stops zero last st bs h e = absurd (omega arith)
logged_stops (suc room) last st bs h e = rw (le-ltb (suc room) 70 h, e) refl

-- ---- how far it goes

-- what is read by a step, where there is room for a line
module _ (most room : ℕ) (last : Bool) (st : State) (bs : List ℕ) (onward : Item State Record → List ℕ → Reading State Record) (P : Reading State Record → Type 0) where
  pub by_step : (room < 70 → P (nothing st full)) → ((z : Stop) → 70 ≤ room → read last (rule st) bs ≡ stops z → P (nothing st (stopped z))) →
      ((x : Item State Record) (n : ℕ) → 70 ≤ room → read last (rule st) bs ≡ got x n → P (ahead x.shows n (onward x (drop n bs)))) → P (cond (ltb room 70) (nothing st full) (go_on_by st bs onward (read last (rule st) bs)))
  by_step none stop more =
      by (ltb room 70)
      (λ t. subst (λ b. P (cond b (nothing st full) (go_on_by st bs onward (read last (rule st) bs)))) (sym t) (none (ltb-true room 70 t)))
      (λ t. subst (λ b. P (cond b (nothing st full) (go_on_by st bs onward (read last (rule st) bs)))) (sym t) (go (read last (rule st) bs) refl (ltb-false room 70 t)))
    where
      go : (x : Read (Item State Record)) → read last (rule st) bs ≡ x → 70 ≤ room → P (go_on_by st bs onward x)
      go (got x n) e h = more x n h e
      go (stops z) e h = stop z h e

-- no further than the bytes
pub read_inside : (most room : ℕ) (last : Bool) (st : State) (bs : List ℕ) → (read_into most room last st bs).consumed ≤ length bs
unfolding read_into
read_inside zero room last st bs = omega arith
read_inside (suc most) room last st bs =
    by_step most room last st bs (λ x left. read_into most (room - length (record_line x.shows)) last x.after left) (λ g. g.consumed ≤ length bs) (λ h. omega arith) (λ z h e. omega arith)
    (λ x n h e. let ih = read_inside most (room - length (record_line x.shows)) last x.after (drop n bs) in omega (arith, ih, length-drop n bs, taken_within last (rule st) bs e))

-- where it stops by another answer there is still room for a line
pub read_room : (most room : ℕ) (last : Bool) (st : State) (bs : List ℕ) {z : Stop} → (read_into most room last st bs).closing ≡ stopped z → length (lines_of (read_into most room last st bs).records) + 70 ≤ room
unfolding read_into lines_of
read_room zero room last st bs = λ e. absurd (full≢stopped e)
read_room (suc most) room last st bs {z} =
    by_step most room last st bs (λ x left. read_into most (room - length (record_line x.shows)) last x.after left) (λ g. g.closing ≡ stopped z → length (lines_of g.records) + 70 ≤ room) (λ h e. absurd (full≢stopped e)) (λ y h r e. omega arith)
    (λ x n h r e. let ih = read_room most (room - length (record_line x.shows)) last x.after (drop n bs) e in omega (arith, ih, length-append (record_line x.shows) (lines_of (read_into most (room - length (record_line x.shows)) last x.after (drop n bs)).records)))

-- where the room is used up there was a record
pub read_some : (most room : ℕ) (last : Bool) (st : State) (bs : List ℕ) → 70 ≤ room → room ≤ most → (read_into most room last st bs).closing ≡ full → 0 < (read_into most room last st bs).consumed
unfolding read_into
read_some zero room last st bs h k = λ e. absurd (omega arith)
read_some (suc most) room last st bs h k =
    by_step most room last st bs (λ x left. read_into most (room - length (record_line x.shows)) last x.after left) (λ g. g.closing ≡ full → 0 < g.consumed) (λ l e. absurd (omega arith)) (λ z l r e. absurd (full≢stopped (sym e)))
    (λ x n l r e. omega (arith, record_takes st last bs r))

-- each record takes a byte at least
pub read_few : (most room : ℕ) (last : Bool) (st : State) (bs : List ℕ) → length (read_into most room last st bs).records ≤ (read_into most room last st bs).consumed
unfolding read_into
read_few zero room last st bs = omega arith
read_few (suc most) room last st bs =
    by_step most room last st bs (λ x left. read_into most (room - length (record_line x.shows)) last x.after left) (λ g. length g.records ≤ g.consumed) (λ l. omega arith) (λ z l r. omega arith)
    (λ x n l r. let ih = read_few most (room - length (record_line x.shows)) last x.after (drop n bs) in omega (arith, ih, record_takes st last bs r))

-- ---- the loop

-- one value more
total_more : (t : AnyTotal) (rs : List Record) (r : Record) → plus (total_from t (unscaled rs)) (unscaled_of r) ≡ total_from t (unscaled (rs ++ (r ∷ [])))
total_more t [] r = refl
total_more t (x ∷ rs) r = total_more (plus t (unscaled_of x)) rs r

-- the total before, by the tally that it was put into
pub logged_as : {g : Reading State Record} {p q : Pen} {s : Tally} {t : AnyTotal} {r : Logged} → s ≡ start_of t → LoggedBy g p s.far r q → LoggedBy g p t r q
logged_as {g} {p} {q} {r = r} e l = subst (λ (x : Tally). LoggedBy g p x.far r q) e l

-- the log put by a pen over the memory that another lends it
pub logged_lent : {g : Reading State Record} {p q x y : Pen} {t : AnyTotal} {r : Logged} →
    x.out.now ≡ p.out.now → x.at ≡ p.at → y.out.now ≡ q.out.now → y.at ≡ q.at → q.out.ghost_name ≡ p.out.ghost_name → LoggedBy g x t r y → LoggedBy g p t r q
logged_lent {g} {p} {q} {x} {y} before from after to same l =
    let lines = lines_of g.records in
    let start = subst (λ old. Put lines x.at old y.at y.out.now) before l.put.put in
    let begun = subst (λ a. Put lines a p.out.now y.at y.out.now) from start in
    let ended = subst (λ new. Put lines p.at p.out.now y.at new) after begun in
    record {
      state = l.state;
      from = l.from;
      count = l.count;
      closing = l.closing;
      total = l.total;
      put = record { put = subst (λ b. Put lines p.at p.out.now b q.out.now) to ended; same_reference = same };
    }

-- the room that a pen has
abbrev pub room_of : Pen → ℕ
room_of p = length p.out.now - p.at

module _ (last : Bool) (st : State) (src : List ℕ) (p : Pen) (total : AnyTotal) where
  abbrev all : Reading State Record
  all = logged (room_of p) last st src

  abbrev left : Pen → State → ℕ → Reading State Record
  left q cur f = logged (room_of q) last cur (drop f src)

  -- the records read so far, and what is left: together they are all
  pub record Logging (q : Pen) (cur : State) (f count : ℕ) (sum : AnyTotal) : Type 0 where
    pub done : List Record
    pub records : all.records ≡ done ++ (left q cur f).records
    pub taken : all.consumed ≡ f + (left q cur f).consumed
    pub state : all.state ≡ (left q cur f).state
    pub closing : all.closing ≡ (left q cur f).closing
    pub inside : f ≤ length src
    pub put : Puts (lines_of done) p q
    pub counted : count ≡ length done
    pub few : count ≤ q.at
    pub added : sum ≡ total_from total (unscaled done)

  pub logging_start : p.at ≤ length p.out.now → Logging p st 0 0 total
  unfolding lines_of
  logging_start h = record { done = []; records = refl; taken = sym (zero-add all.consumed); state = refl; closing = refl; inside = omega arith; put = puts_none h; counted = refl; few = omega arith; added = refl }

  pub logging_more : (q : Pen) (cur : State) (f count : ℕ) (sum : AnyTotal) (r : Record) (after : State) (k : ℕ) (next : Pen) → Logging q cur f count sum → 70 ≤ room_of q →
      read last (rule cur) (drop f src) ≡ got (record { shows = r; after = after }) k → Puts (record_line r) q next → Logging next after (f + k) (count + 1) (plus sum (unscaled_of r))
  unfolding lines_of
  logging_more q cur f count sum r after k next g h e p =
      let room : room_of q - length (record_line r) ≡ room_of next = omega (arith, p.put.next, p.put.same, p.put.fits) in
      let step : left q cur f ≡ ahead r k (left next after (f + k)) =
      logged_got (room_of q) last cur (drop f src) h e ∙ ap₂ (λ n l. ahead r k (logged n last after l)) room (drop-drop k f src) in
      record {
        done = g.done ++ (r ∷ []);
        records = g.records ∙ ap (λ w. g.done ++ w.records) step ∙ sym (append_assoc g.done (r ∷ []) (left next after (f + k)).records);
        taken = g.taken ∙ ap (λ w. f + w.consumed) step ∙ sym (add_assoc f k (left next after (f + k)).consumed);
        state = g.state ∙ ap (λ w. w.state) step;
        closing = g.closing ∙ ap (λ w. w.closing) step;
        inside = omega (arith, taken_within last (rule cur) (drop f src) e, length-drop f src, g.inside);
        put = puts_as (ap (λ t. lines_of g.done ++ t) (sym (append-nil (record_line r))) ∙ sym (lines_append g.done (r ∷ []))) (puts_then g.put p);
        counted = ap (λ n. n + 1) g.counted ∙ sym (length-append g.done (r ∷ []));
        few = omega (arith, g.few, p.put.next, line_some r);
        added = ap (λ t. plus t (unscaled_of r)) g.added ∙ total_more total g.done r;
      }

  -- the same total, said otherwise
  pub summed : {q : Pen} {cur : State} {f count : ℕ} {s t : AnyTotal} → s ≡ t → Logging q cur f count t → Logging q cur f count s
  summed {q} {cur} {f} {count} e g = subst (Logging q cur f count) (sym e) g

  -- where nothing is left, by the answer that the loop stopped at
  pub logging_end : (q : Pen) (cur : State) (f count : ℕ) (sum : AnyTotal) (c : Result (Unit {0}) Stopped) → Logging q cur f count sum → left q cur f ≡ nothing cur (closing_of c) →
      LoggedBy all p total (record { state = cur; from = f; count = count; total = sum; closing = c }) q
  logging_end q cur f count sum c g e =
      let rs : all.records ≡ g.done = g.records ∙ ap (λ w. g.done ++ w.records) e ∙ append-nil g.done in
      record {
        state = sym (g.state ∙ ap (λ w. w.state) e);
        from = sym (g.taken ∙ ap (λ w. f + w.consumed) e ∙ add-zero f);
        count = g.counted ∙ ap length (sym rs);
        closing = sym (g.closing ∙ ap (λ w. w.closing) e);
        total = g.added ∙ ap (λ l. total_from total (unscaled l)) (sym rs);
        put = puts_as (ap lines_of (sym rs)) g.put;
      }
