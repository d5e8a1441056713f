-- What a run still owes at a place: the text that is to be written from there on. Each step keeps to it, so what is written is the log.
use mathlib.Core.Path.{◌≡◌, refl, sym, ap, ap₂, ◌∙◌, subst, subst₂}
use mathlib.Core.Bool.{Bool, true, false, cond, ◌||◌, ◌&&◌, false≢true}
use mathlib.Core.List.{List, [], ◌∷◌, ◌++◌, append_assoc, append-nil}
use Prim.Native.Nat.{ℕ, zero, suc, ◌+◌, ◌-◌, ◌≤◌, ◌<◌}
use native.Mathlib.Nat.{zero-add, add-zero, add_assoc}
use native.Mathlib.Omega.{arith}
use borrow.Author.Tests.{ltb-true, ltb-false, lt-ltb, le-ltb, le-leb, eqb-true, eqb-false}
use borrow.Table.Steps.{cases as by}
use lib.Dec.{eqb, ltb}
use lib.ListN.{length, take, drop, get_or, length-append, length-drop, length-take, take-append-drop}
use lib.Seq.{length-take-le, take_all, take_at, drop_at, take-take, drop-drop, take-add, drop-append-le, get_or-take, get_or-drop}
use Rattle.rules.specs.Rule.{Rule, Stop, refused, finished, more_bytes, Read, got, stops, read}
use Rattle.rules.specs.Calls.{Item, Answer, full, stopped, Reading, nothing, ahead}
use Rattle.rules.proofs.Laws.{got≢stops, taken_within}
use Rattle.metadata.specs.Metadata.{Header}
use Rattle.streams.specs.declared.Mode.{Mode}
use Rattle.modes.specs.Modes.{open_by, begins_by}
use Rattle.chemstation.specs.Next.{rule}
use Rattle.streams.specs.Next.{unscaled_of}
use Rattle.streams.specs.declared.State.{State}
use Rattle.streams.specs.declared.Record.{Record}
use Rattle.digits.specs.Numbers.{kind_of}
use Rattle.std.specs.Prelude.{Some, None, Ok, Err}
use Rattle.sums.specs.Sums.{AnyTotal, plus, total_from}
use Rattle.lines.specs.Lines.{record_line, total_line, end_line}
use Rattle.lines.specs.Left.{left_line}
use Rattle.runlog.specs.Runs.{lines_of, unscaled, go_on_by, read_into, logged}
use Rattle.runlog.specs.Log.{in_buffer, Reads, header_text, first_total, foot_text, LogOf}
use Rattle.runlog.proofs.Logs.{read_inside, read_room, read_few, by_step}
use Rattle.runlog.proofs.Cuts.{never_waits, Behind, in_buffer_lem, full_waits, reads_step, reads_stop, log_step, log_stop, one_log}
use Rattle.places.specs.declared.Phase.{Phase}
use Rattle.places.specs.declared.Phase.TheVariants.{Digit, Header as HeaderOf, Records, Ended, TooLong, Over}
use Rattle.places.specs.declared.Place.{Place}
use Rattle.places.specs.declared.Ask.{Ask}
use Rattle.places.specs.declared.Ask.TheVariants as ask
use Rattle.places.specs.Machine.{most, started, moved_to, totalled, over, at_hand, put_at, Stepped, writes, closes, tells, refills, fits, goes_on, behind, logs_records, opens, leaves, closing_bytes, is_finished, finished_from, scan_left, afterwards, once_written, by_phase, step_of, took_of, came, grown}
use Rattle.places.proofs.Steps.{Inside, fits_inside, hand_long}
use Rattle.runs.specs.Whole.{LogOfInput, no_digit, a_digit, Writes, closed, written, told, taken}

-- ---- the text of a log from a state on

-- with so many records before, and what they add up to: the lines of the records behind it, t and e
pub record RestOf (size : ℕ) (st : State) (bs : List ℕ) (count : ℕ) (t : AnyTotal) (z : Stop) (v : List ℕ) : Type 0 where
  pub records : List Record
  pub reads : Reads size st bs records z
  pub text : v ≡ lines_of records ++ foot_text t records z (count + length records)

-- where the rule gives a record it begins with its line
rest_step : {size : ℕ} {cur : State} {left : List ℕ} {c : ℕ} {t : AnyTotal} {z : Stop} {u : List ℕ} (x : Item State Record) (n : ℕ) → RestOf size cur left c t z u → in_buffer size (rule cur) left ≡ got x n →
    (v : List ℕ) × (u ≡ record_line x.shows ++ v) × RestOf size x.after (drop n left) (c + 1) (plus t (unscaled_of x.shows)) z v
unfolding lines_of
rest_step {c = c} {t = t} {z = z} x n r e =
    let p = reads_step x n r.reads e in
    let vs = p.0 in
    let foot = foot_text (plus t (unscaled_of x.shows)) vs z in
    let many : c + suc (length vs) ≡ c + 1 + length vs = omega arith in (
      lines_of vs ++ foot (c + 1 + length vs),
      r.text ∙ ap (λ rs. lines_of rs ++ foot_text t rs z (c + length rs)) p.1 ∙ append_assoc (record_line x.shows) (lines_of vs) (foot (c + suc (length vs))) ∙ ap (λ m. record_line x.shows ++ (lines_of vs ++ foot m)) many,
      record { records = vs; reads = p.2; text = refl },
    )

-- where it stops, t and e are left
rest_stop : {size : ℕ} {cur : State} {left : List ℕ} {c : ℕ} {t : AnyTotal} {z : Stop} {u : List ℕ} (y : Stop) → RestOf size cur left c t z u → in_buffer size (rule cur) left ≡ stops y → u ≡ total_line t ++ end_line y c
unfolding lines_of
rest_stop {c = c} {t = t} {z = z} y r e =
    let p = reads_stop y r.reads e in
    r.text ∙ ap₂ (λ rs w. lines_of rs ++ foot_text t rs w (c + length rs)) p.0 p.1 ∙ ap (λ m. total_line t ++ end_line y m) (add-zero c)

-- ---- records read from what is at hand

-- a log through the buffer where the records at hand are read: their lines, and what is owed behind them
pub record Through (size : ℕ) (G : List ℕ) (bs : List ℕ) (c : ℕ) (t : AnyTotal) (z : Stop) (v : List ℕ) (g : Reading State Record) : Type 0 where
  pub rest : List ℕ
  pub lines : v ≡ lines_of g.records ++ rest
  pub owed : RestOf size g.state (drop g.consumed bs ++ G) (c + length g.records) (total_from t (unscaled g.records)) z rest

smaller : (last : Bool) (size : ℕ) (bs G : List ℕ) (n : ℕ) → Behind last size bs G → Behind last size (drop n bs) G
smaller last size bs G n b = record { held = omega (arith, b.held, length-drop n bs); told = λ e. ((b.told e).0, omega (arith, (b.told e).1, length-drop n bs)) }

through : (most room size : ℕ) (last : Bool) (G : List ℕ) (st : State) (bs : List ℕ) (c : ℕ) (t : AnyTotal) (z : Stop) (v : List ℕ) → Behind last size bs G → RestOf size st (bs ++ G) c t z v →
    Through size G bs c t z v (read_into most room last st bs)
unfolding read_into lines_of
through zero room size last G st bs c t z v b r = record { rest = v; lines = refl; owed = subst (λ n. RestOf size st (bs ++ G) n t z v) (sym (add-zero c)) r }
through (suc most) room size last G st bs c t z v b r =
    by_step most room last st bs (λ x left. read_into most (room - length (record_line x.shows)) last x.after left) (Through size G bs c t z v) (λ h. none full) (λ y h e. none (stopped y))
    (λ x n h e.
    let within = taken_within last (rule st) bs e in
    let here = in_buffer_lem last size (rule st) bs G (got x n) b e (λ q. got≢stops q) in
    let s = rest_step x n r here in
    let left = drop-append-le n bs G within in
    let g = read_into most (room - length (record_line x.shows)) last x.after (drop n bs) in
    let u = plus t (unscaled_of x.shows) in
    let w = through most (room - length (record_line x.shows)) size last G x.after (drop n bs) (c + 1) u z s.0 (smaller last size bs G n b) (subst (λ l. RestOf size x.after l (c + 1) u z s.0) left s.2) in
    record {
      rest = w.rest;
      lines = s.1 ∙ ap (λ l. record_line x.shows ++ l) w.lines ∙ sym (append_assoc (record_line x.shows) (lines_of g.records) w.rest);
      owed = subst₂ (λ l m. RestOf size g.state (l ++ G) m (total_from u (unscaled g.records)) z w.rest) (drop-drop g.consumed n bs) (let m : c + 1 + length g.records ≡ c + suc (length g.records) = omega arith in m) w.owed;
    })
  where
    none : (a : Answer) → Through size G bs c t z v (nothing st a)
    none a = record { rest = v; lines = refl; owed = subst (λ n. RestOf size st (bs ++ G) n t z v) (sym (add-zero c)) r }

-- ---- what is owed

pub record Kept (size : ℕ) (p : Place) (buf out input : List ℕ) : Type 0 where
  pub whole : length buf ≡ size
  pub inside : Inside p buf out
  pub held : Behind p.last size (at_hand buf p) input
  pub came : p.came + length input ≤ most
  pub few : p.count + (p.to - p.from) ≤ p.came

-- behind what stands in the output buffer
abbrev pub Owed : ℕ → Phase → ℕ → AnyTotal → List ℕ → List ℕ → List ℕ → Type 0
Owed size (Digit mode) count t hand input v = (count ≡ 0) × (t ≡ None) × LogOfInput mode size input v
Owed size (HeaderOf mode kind) count t hand input v = (count ≡ 0) × (t ≡ None) × (z : Stop) × LogOf mode size kind (hand ++ input) z v
Owed size (Records st) count t hand input v = (z : Stop) × RestOf size st (hand ++ input) count t z v
Owed size (Ended all due) count t hand input v = v ≡ []
Owed size TooLong count t hand input v = ⊥
Owed size Over count t hand input v = v ≡ []

pub record Owes (size : ℕ) (p : Place) (buf out input u : List ℕ) : Type 0 where
  pub kept : Kept size p buf out input
  pub rest : List ℕ
  pub text : u ≡ take p.at out ++ rest
  pub owed : Owed size p.phase p.count p.total (at_hand buf p) input rest

-- what a step leads to
abbrev pub Continues : ℕ → Ask → List ℕ → List ℕ → List ℕ → List ℕ → Type 0
Continues size (ask.Write q n) buf out input u = (v : List ℕ) × (u ≡ take n out ++ v) × Owes size q buf out input v
Continues size (ask.Tell q n) buf out input u = Owes size q buf out input u
Continues size (ask.Read q n) buf out input u = Owes size q buf out input u × (q.to ≡ n) × (q.last ≡ false) × (n < size)
Continues size ask.Closed buf out input u = u ≡ []

-- a text put stands behind what stood there
take_put : (at : ℕ) (line out : List ℕ) → at ≤ length out → take (at + length line) (put_at at line out) ≡ take at out ++ line
take_put at line out h =
    ap (take (at + length line)) (sym (append_assoc (take at out) line (drop (at + length line) out)))
    ∙ take_at (take at out ++ line) (drop (at + length line) out) (at + length line) (length-append (take at out) line ∙ ap (λ n. n + length line) (length-take-le at out h))

put_long : (at : ℕ) (line out : List ℕ) → at ≤ length out → length out ≤ length (put_at at line out)
put_long at line out h =
    omega (arith, length-append (take at out) (line ++ drop (at + length line) out), length-append line (drop (at + length line) out), length-take-le at out h, length-drop (at + length line) out)

module _ (size : ℕ) (input u : List ℕ) where
  abbrev On : Stepped → Type 0
  On s = Continues size s.answer s.buf s.out input u

  cond_on : (b : Bool) (s t : Stepped) → (b ≡ true → On s) → (b ≡ false → On t) → On (cond b s t)
  cond_on true s t f g = f refl
  cond_on false s t f g = g refl

  -- what stands there is written
  write_on : (p : Place) (buf out : List ℕ) → Owes size p buf out input u → On (writes p p.phase buf out)
  write_on p buf out o =
      let k = o.kept in
      let i = k.inside in (
        o.rest,
        o.text,
        record {
          kept = record { whole = k.whole; inside = record { low = i.low; filled = i.filled; room = omega arith; some = i.some; line = i.line }; held = k.held; came = k.came; few = k.few };
          rest = o.rest;
          text = refl;
          owed = o.owed;
        },
      )

  -- the t line and the closing line are written, and nothing is owed
  close_on : (p : Place) (phase : Phase) (z : Stop) (buf out : List ℕ) → Kept size p buf out input → u ≡ take p.at out ++ (total_line p.total ++ end_line z p.count) → Owed size phase p.count p.total (at_hand buf p) input [] → On (closes p phase z buf out)
  close_on p phase z buf out k e d =
      let i = k.inside in
      let line = total_line p.total ++ end_line z p.count in (
        [],
        e ∙ sym (take_put p.at line out i.room) ∙ sym (append-nil _),
        record {
          kept = record {
            whole = k.whole;
            inside = record { low = i.low; filled = i.filled; room = omega arith; some = i.some; line = omega (arith, i.line, put_long p.at line out i.room) };
            held = k.held;
            came = k.came;
            few = k.few;
          };
          rest = [];
          text = refl;
          owed = d;
        },
      )

  -- the bytes at hand at the start of the buffer
  hand_moved_to_lem : (p : Place) (buf : List ℕ) → p.from ≤ p.to → p.to ≤ length buf → take (p.to - p.from - 0) (drop 0 (at_hand buf p ++ drop (p.to - p.from) buf)) ≡ at_hand buf p
  hand_moved_to_lem p buf h k = let e : p.to - p.from - 0 ≡ p.to - p.from = omega arith in ap (λ n. take n (at_hand buf p ++ drop (p.to - p.from) buf)) e ∙ take_at (at_hand buf p) (drop (p.to - p.from) buf) (p.to - p.from) (hand_long p buf h k)

  refill_on : (p : Place) (buf out : List ℕ) → Owes size p buf out input u → p.last ≡ false → (length (at_hand buf p) ≡ size → (rest : List ℕ) → Owed size p.phase p.count p.total (at_hand buf p) input rest → rest ≡ total_line p.total ++ end_line more_bytes p.count) →
      On (refills p buf out)
  refill_on p buf out o l f =
      let k = o.kept in
      let i = k.inside in
      let n = p.to - p.from in
      let long = hand_long p buf i.low i.filled in
      let back = hand_moved_to_lem p buf i.low i.filled in
      cond_on (eqb n (length buf)) _ _
      (λ t. close_on p Over more_bytes buf out k (o.text ∙ ap (λ v. take p.at out ++ v) (f (long ∙ eqb-true n (length buf) t ∙ k.whole) o.rest o.owed)) refl)
      (λ t.
      let same : length (at_hand buf p ++ drop n buf) ≡ length buf = omega (arith, length-append (at_hand buf p) (drop n buf), length-drop n buf, i.low, i.filled) in (
        record {
          kept = record {
            whole = same ∙ k.whole;
            inside = record { low = omega arith; filled = omega (arith, i.filled); room = i.room; some = omega (arith, i.some); line = i.line };
            held = subst (λ h. Behind p.last size h input) (sym back) k.held;
            came = k.came;
            few = omega (arith, k.few);
          };
          rest = o.rest;
          text = o.text;
          owed = subst (λ h. Owed size p.phase p.count p.total h input o.rest) (sym back) o.owed;
        },
        refl,
        l,
        omega (arith, eqb-false n (length buf) t, i.low, i.filled, k.whole),
      ))

-- ---- records

full≢stopped : {z : Stop} → ¬ (full ≡ stopped z)
full≢stopped e = false≢true cc

-- where the records at hand stop, the rule stops
stopped_at : (most room : ℕ) (last : Bool) (st : State) (bs : List ℕ) (y : Stop) → (read_into most room last st bs).closing ≡ stopped y → read last (rule (read_into most room last st bs).state) (drop (read_into most room last st bs).consumed bs) ≡ stops y
unfolding read_into
stopped_at zero room last st bs y = λ e. absurd (full≢stopped e)
stopped_at (suc most) room last st bs y =
    by_step most room last st bs (λ x left. read_into most (room - length (record_line x.shows)) last x.after left) (λ g. g.closing ≡ stopped y → read last (rule g.state) (drop g.consumed bs) ≡ stops y) (λ h e. absurd (full≢stopped e)) (λ z h r e. r ∙ ap stops (same z e))
    (λ x n h r e. let g = read_into most (room - length (record_line x.shows)) last x.after (drop n bs) in ap (read last (rule g.state)) (sym (drop-drop g.consumed n bs)) ∙ stopped_at most (room - length (record_line x.shows)) last x.after (drop n bs) y e)
  where
    same : (z : Stop) → stopped z ≡ stopped y → z ≡ y
    same z e = cc

-- a part of a part
drop_take : (c m : ℕ) (l : List ℕ) → c ≤ m → m ≤ length l → drop c (take m l) ≡ take (m - c) (drop c l)
drop_take c m l h k =
    let e : m ≡ c + (m - c) = omega arith in
    ap (λ n. drop c (take n l)) e ∙ ap (drop c) (take-add c (m - c) l) ∙ drop_at (take c l) (take (m - c) (drop c l)) c (length-take-le c l (omega arith))

-- the bytes at hand when some of them are consumed
hand_after : (p : Place) (buf : List ℕ) (c : ℕ) → p.from ≤ p.to → p.to ≤ length buf → c ≤ p.to - p.from → take (p.to - (p.from + c)) (drop (p.from + c) buf) ≡ drop c (at_hand buf p)
hand_after p buf c h k i =
    sym (drop_take c (p.to - p.from) (drop p.from buf) i (omega (arith, length-drop p.from buf)) ∙ ap₂ take (let e : p.to - p.from - c ≡ p.to - (p.from + c) = omega arith in e) (drop-drop c p.from buf))

-- what the rule waits for has not been told
not_last : {A : Type 0} (last : Bool) (r : Rule A) (bs : List ℕ) → read last r bs ≡ stops more_bytes → last ≡ false
not_last true r bs e = absurd (never_waits r bs e)
not_last false r bs e = refl

stops_so : {A : Type 0} (y : Stop) → ¬ (y ≡ more_bytes) → ¬ (◌≡◌ {A = Read A} (stops y) (stops more_bytes))
stops_so y d e = d cc

-- the fields that closed a run stand at hand
closing_from : (k n : ℕ) (st : State) (bs : List ℕ) → finished_from k n st bs ≤ n + k
closing_from zero n st bs = omega arith
closing_from (suc k) n st bs = go (is_finished (read false (rule st) (take n bs))) (closing_from k (n + 1) st bs)
  where
    go : (b : Bool) → finished_from k (n + 1) st bs ≤ n + 1 + k → cond b n (finished_from k (n + 1) st bs) ≤ n + suc k
    go true h = omega arith
    go false h = omega arith

module _ (size : ℕ) (input u : List ℕ) where
  -- the place behind some of the bytes at hand, with text put
  kept_on : (p : Place) (buf out line : List ℕ) (c m : ℕ) (phase : Phase) → Kept size p buf out input → c ≤ p.to - p.from → p.count + m + (p.to - p.from) ≤ p.came + c →
      Kept size (moved_to p phase (p.from + c) p.to (p.at + length line) (p.count + m)) buf (put_at p.at line out) input
  kept_on p buf out line c m phase k h f =
      let i = k.inside in
      record {
        whole = k.whole;
        inside = record {
          low = omega (arith, i.low);
          filled = i.filled;
          room = omega (arith, length-append (take p.at out) (line ++ drop (p.at + length line) out), length-append line (drop (p.at + length line) out), length-take-le p.at out i.room);
          some = i.some;
          line = omega (arith, i.line, put_long p.at line out i.room);
        };
        held = subst (λ l. Behind p.last size l input) (sym (hand_after p buf c i.low i.filled h)) (smaller p.last size (at_hand buf p) input c k.held);
        came = k.came;
        few = omega (arith, k.few);
      }

  -- the same place but for the total
  kept_total : {q : Place} {buf out : List ℕ} (t : AnyTotal) → Kept size q buf out input → Kept size (totalled q t) buf out input
  kept_total t k = let i = k.inside in record { whole = k.whole; inside = record { low = i.low; filled = i.filled; room = i.room; some = i.some; line = i.line }; held = k.held; came = k.came; few = k.few }

  -- by the answer, at a place where the records at hand are logged
  goes_on_lem : (q : Place) (st : State) (a : Answer) (buf out : List ℕ) → Owes size q buf out input u → q.phase ≡ Records st → ((y : Stop) → a ≡ stopped y → read q.last (rule st) (at_hand buf q) ≡ stops y) →
      Continues size (goes_on q st a buf out).answer (goes_on q st a buf out).buf (goes_on q st a buf out).out input u
  goes_on_lem q st full buf out o e r = write_on size input u q buf out o
  goes_on_lem q st (stopped more_bytes) buf out o e r =
      let waits = r more_bytes refl in
      let l = not_last q.last (rule st) (at_hand buf q) waits in
      refill_on size input u q buf out o l
      (λ h rest w. let d : Owed size (Records st) q.count q.total (at_hand buf q) input rest = subst (λ x. Owed size x q.count q.total (at_hand buf q) input rest) e w in rest_stop more_bytes d.1 (full_waits size (rule st) (at_hand buf q) input h (subst (λ b. read b (rule st) (at_hand buf q) ≡ stops more_bytes) l waits)))
  goes_on_lem q st (stopped (refused c)) buf out o e r =
      let d : Owed size (Records st) q.count q.total (at_hand buf q) input o.rest = subst (λ x. Owed size x q.count q.total (at_hand buf q) input o.rest) e o.owed in
      let s = rest_stop (refused c) d.1 (in_buffer_lem q.last size (rule st) (at_hand buf q) input (stops (refused c)) o.kept.held (r (refused c) refl) (stops_so (refused c) (λ x. false≢true cc))) in
      close_on size input u q Over (refused c) buf out o.kept (o.text ∙ ap (λ v. take q.at out ++ v) s) refl
  goes_on_lem q st (stopped finished) buf out o e r =
      let d : Owed size (Records st) q.count q.total (at_hand buf q) input o.rest = subst (λ x. Owed size x q.count q.total (at_hand buf q) input o.rest) e o.owed in
      let s = rest_stop finished d.1 (in_buffer_lem q.last size (rule st) (at_hand buf q) input (stops finished) o.kept.held (r finished refl) (stops_so finished (λ x. false≢true cc))) in
      let k = o.kept in
      let i = k.inside in
      let n = closing_bytes st (at_hand buf q) in
      let some : n ≤ q.to - q.from = omega (arith, closing_from (length (at_hand buf q)) 0 st (at_hand buf q), hand_long q buf i.low i.filled) in
      let p = moved_to q q.phase (q.from + n) q.to q.at q.count in
      close_on size input u p (Ended (scan_left st) (scan_left st)) finished buf out
      (record {
        whole = k.whole;
        inside = record { low = omega (arith, i.low); filled = i.filled; room = i.room; some = i.some; line = i.line };
        held = subst (λ l. Behind q.last size l input) (sym (hand_after q buf n i.low i.filled some)) (smaller q.last size (at_hand buf q) input n k.held);
        came = k.came;
        few = omega (arith, k.few);
      })
      (o.text ∙ ap (λ v. take q.at out ++ v) s) refl

  records_on : (st : State) (p : Place) (buf out rest : List ℕ) (z : Stop) → Kept size p buf out input → u ≡ take p.at out ++ rest → RestOf size st (at_hand buf p ++ input) p.count p.total z rest →
      Continues size (logs_records st p buf out).answer (logs_records st p buf out).buf (logs_records st p buf out).out input u
  unfolding logs_records
  records_on st p buf out rest z k e r =
      let i = k.inside in
      let room = length out - p.at in
      let g = logged room p.last st (at_hand buf p) in
      let hand = hand_long p buf i.low i.filled in
      let inside = read_inside room room p.last st (at_hand buf p) in
      let few = read_few room room p.last st (at_hand buf p) in
      let t = through room room size p.last input st (at_hand buf p) p.count p.total z rest k.held r in
      let total = total_from p.total (unscaled g.records) in
      let count : p.count + length g.records ≤ most = omega (arith, k.few, k.came) in
      let left = hand_after p buf g.consumed i.low i.filled (omega arith) in
      cond_on size input u (ltb most (p.count + length g.records)) _ _
      (λ b. absurd (omega (arith, ltb-true most (p.count + length g.records) b)))
      (λ b.
      goes_on_lem (totalled (moved_to p (Records g.state) (p.from + g.consumed) p.to (p.at + length (lines_of g.records)) (p.count + length g.records)) total) g.state g.closing buf (put_at p.at (lines_of g.records) out)
      (record {
        kept = kept_total total (kept_on p buf out (lines_of g.records) g.consumed (length g.records) (Records g.state) k (omega arith) (omega (arith, k.few)));
        rest = t.rest;
        text = e ∙ ap (λ v. take p.at out ++ v) t.lines ∙ sym (append_assoc (take p.at out) (lines_of g.records) t.rest) ∙ ap (λ v. v ++ t.rest) (sym (take_put p.at (lines_of g.records) out i.room));
        owed = (z, subst (λ l. RestOf size g.state (l ++ input) (p.count + length g.records) total z t.rest) (sym left) t.owed);
      })
      refl
      (λ y c. ap (read p.last (rule g.state)) left ∙ stopped_at room room p.last st (at_hand buf p) y c))

-- ---- the header, the digit, and behind the log

module _ (size : ℕ) (input u : List ℕ) where
  -- before the first record e stands alone
  unsummed : (z : Stop) {t : AnyTotal} {n : ℕ} → t ≡ None → n ≡ 0 → end_line z 0 ≡ total_line t ++ end_line z n
  unsummed z a c = ap₂ (λ t n. total_line t ++ end_line z n) (sym a) (sym c)

  header_on : (mode : Mode) (kind : ℕ) (p : Place) (buf out rest : List ℕ) (z : Stop) → Owes size p buf out input u → p.phase ≡ HeaderOf mode kind → p.count ≡ 0 → p.total ≡ None → u ≡ take p.at out ++ rest → LogOf mode size kind (at_hand buf p ++ input) z rest →
      (x : Read Header) → read p.last (open_by mode kind) (at_hand buf p) ≡ x → Continues size (opens mode kind p buf out x).answer (opens mode kind p buf out x).buf (opens mode kind p buf out x).out input u
  header_on mode kind p buf out rest z o ph c a e l (got h n) r =
      let k = o.kept in
      let i = k.inside in
      let within = taken_within p.last (open_by mode kind) (at_hand buf p) r in
      let hand = hand_long p buf i.low i.filled in
      let s = log_step h n l (in_buffer_lem p.last size (open_by mode kind) (at_hand buf p) input (got h n) k.held r (λ q. got≢stops q)) in
      let left = hand_after p buf n i.low i.filled (omega arith) in
      let q = moved_to p (Records (begins_by mode kind h)) (p.from + n) p.to (p.at + length (header_text h)) p.count in
      let v = lines_of s.0 ++ foot_text (first_total kind) s.0 z (length s.0) in
      let kept : Kept size q buf (put_at p.at (header_text h) out) input =
      subst (λ m. Kept size (moved_to p (Records (begins_by mode kind h)) (p.from + n) p.to (p.at + length (header_text h)) m) buf (put_at p.at (header_text h) out) input) (add-zero p.count) (kept_on size input u p buf out (header_text h) n 0 (Records (begins_by mode kind h)) k (omega arith) (omega (arith, k.few))) in
      let behind = drop-append-le n (at_hand buf p) input within ∙ ap (λ b. b ++ input) (sym left) in
      let many : length s.0 ≡ p.count + length s.0 = omega (arith, c) in
      records_on size input u (begins_by mode kind h) (totalled q (first_total kind)) buf (put_at p.at (header_text h) out) v z (kept_total size input u (first_total kind) kept)
      (e ∙ ap (λ v. take p.at out ++ v) s.1 ∙ sym (append_assoc (take p.at out) (header_text h) v) ∙ ap (λ w. w ++ v) (sym (take_put p.at (header_text h) out i.room)))
      record { records = s.0; reads = subst (λ b. Reads size (begins_by mode kind h) b s.0 z) behind s.2; text = ap (λ m. lines_of s.0 ++ foot_text (first_total kind) s.0 z m) many }
  header_on mode kind p buf out rest z o ph c a e l (stops more_bytes) r =
      let b = not_last p.last (open_by mode kind) (at_hand buf p) r in
      refill_on size input u p buf out o b
      (λ h v w. let d : Owed size (HeaderOf mode kind) p.count p.total (at_hand buf p) input v = subst (λ x. Owed size x p.count p.total (at_hand buf p) input v) ph w in
      log_stop more_bytes d.3 (full_waits size (open_by mode kind) (at_hand buf p) input h (subst (λ b. read b (open_by mode kind) (at_hand buf p) ≡ stops more_bytes) b r)) ∙ unsummed more_bytes a c)
  header_on mode kind p buf out rest z o ph c a e l (stops (refused y)) r =
      let s = log_stop (refused y) l (in_buffer_lem p.last size (open_by mode kind) (at_hand buf p) input (stops (refused y)) o.kept.held r (stops_so (refused y) (λ x. false≢true cc))) in
      close_on size input u p Over (refused y) buf out o.kept (e ∙ ap (λ v. take p.at out ++ v) (s ∙ unsummed (refused y) a c)) refl
  header_on mode kind p buf out rest z o ph c a e l (stops finished) r =
      let s = log_stop finished l (in_buffer_lem p.last size (open_by mode kind) (at_hand buf p) input (stops finished) o.kept.held r (stops_so finished (λ x. false≢true cc))) in
      close_on size input u p Over finished buf out o.kept (e ∙ ap (λ v. take p.at out ++ v) (s ∙ unsummed finished a c)) refl

  -- nothing at hand, and a read is due
  emptied : (p : Place) (phase : Phase) (at : ℕ) (buf out : List ℕ) → Kept size p buf out input → at ≤ length out → Kept size (moved_to p phase 0 0 at p.count) buf out input
  emptied p phase at buf out k h =
      let i = k.inside in
      record {
        whole = k.whole;
        inside = record { low = omega arith; filled = omega arith; room = h; some = i.some; line = i.line };
        held = record { held = omega arith; told = λ e. ((k.held.told e).0, omega (arith, k.whole, i.some)) };
        came = k.came;
        few = omega (arith, k.few);
      }

  no_digit_so : {mode : Mode} (f : List ℕ) (v : List ℕ) → f ≡ [] → LogOfInput mode size f v → v ≡ end_line (refused 1) 0
  no_digit_so f v e no_digit = refl
  no_digit_so f v e (a_digit l) = absurd (false≢true cc)

  digit_on : (mode : Mode) (p : Place) (buf out : List ℕ) (o : Owes size p buf out input u) → p.phase ≡ Digit mode → Continues size (by_phase (Digit mode) p buf out).answer (by_phase (Digit mode) p buf out).buf (by_phase (Digit mode) p buf out).out input u
  digit_on mode p buf out o ph =
      let d : Owed size (Digit mode) p.count p.total (at_hand buf p) input o.rest = subst (λ x. Owed size x p.count p.total (at_hand buf p) input o.rest) ph o.owed in
      let k = o.kept in
      cond_on size input u p.last _ _
      (λ b. close_on size input u p Over (refused 1) buf out k (o.text ∙ ap (λ v. take p.at out ++ v) (no_digit_so input o.rest (k.held.told b).0 d.2 ∙ unsummed (refused 1) d.1 d.0)) refl)
      (λ b. (record { kept = emptied p (Digit mode) p.at buf out k k.inside.room; rest = o.rest; text = o.text; owed = d }, refl, b, omega (arith, k.whole, k.inside.some)))

  or_false : (a b : Bool) → a || b ≡ false → b ≡ false
  or_false true b e = absurd (false≢true (sym e))
  or_false false b e = e

  -- the log is written: nothing is owed
  tell_on : (p : Place) (line buf out : List ℕ) → Kept size p buf out input → u ≡ [] → Continues size (tells p line buf out).answer (tells p line buf out).buf (tells p line buf out).out input u
  tell_on p line buf out k e =
      let i = k.inside in
      record {
        kept = record { whole = k.whole; inside = record { low = i.low; filled = i.filled; room = omega arith; some = i.some; line = omega (arith, i.line, put_long 0 line out (omega arith)) }; held = k.held; came = k.came; few = k.few };
        rest = [];
        text = e;
        owed = refl;
      }

  leave_on : (all due : ℕ) (p : Place) (buf out : List ℕ) → Kept size p buf out input → u ≡ [] → Continues size (leaves all due p buf out).answer (leaves all due p buf out).buf (leaves all due p buf out).out input u
  leave_on all due p buf out k e =
      let hand = p.to - p.from in
      cond_on size input u (ltb due hand || p.last) _ _
      (λ b. cond_on size input u (eqb (all - (due - hand)) 0 && eqb (hand - due) 0) _ _ (λ c. e) (λ c. tell_on p (left_line (all - (due - hand)) (hand - due)) buf out k e))
      (λ b. (record { kept = emptied p (Ended all (due - hand)) 0 buf out k (omega arith); rest = []; text = e; owed = refl }, refl, or_false (ltb due hand) p.last b, omega (arith, k.whole, k.inside.some)))

  -- once the log is written, by the phase
  once_on : (p : Place) (buf out : List ℕ) (o : Owes size p buf out input u) →
      (u ≡ [] → Continues size (afterwards p.phase p buf out).answer (afterwards p.phase p buf out).buf (afterwards p.phase p buf out).out input u) → o.rest ≡ [] →
      Continues size (once_written p buf out).answer (once_written p buf out).buf (once_written p buf out).out input u
  once_on p buf out o f d =
      cond_on size input u (eqb p.at 0) _ _
      (λ b. f (o.text ∙ ap₂ (λ n v. take n out ++ v) (eqb-true p.at 0 b) d))
      (λ b. write_on size input u p buf out o)

  phase_on : (phase : Phase) (p : Place) (buf out : List ℕ) (o : Owes size p buf out input u) → p.phase ≡ phase → Continues size (by_phase phase p buf out).answer (by_phase phase p buf out).buf (by_phase phase p buf out).out input u
  phase_on (Digit mode) p buf out o e = digit_on mode p buf out o e
  phase_on (HeaderOf mode kind) p buf out o e =
      let d : Owed size (HeaderOf mode kind) p.count p.total (at_hand buf p) input o.rest = subst (λ x. Owed size x p.count p.total (at_hand buf p) input o.rest) e o.owed in
      header_on mode kind p buf out o.rest d.2 o e d.0 d.1 o.text d.3 (read p.last (open_by mode kind) (at_hand buf p)) refl
  phase_on (Records st) p buf out o e =
      let d : Owed size (Records st) p.count p.total (at_hand buf p) input o.rest = subst (λ x. Owed size x p.count p.total (at_hand buf p) input o.rest) e o.owed in
      records_on size input u st p buf out o.rest d.0 o.kept o.text d.1
  phase_on (Ended all due) p buf out o e =
      let d : o.rest ≡ [] = subst (λ x. Owed size x p.count p.total (at_hand buf p) input o.rest) e o.owed in
      once_on p buf out o (λ f. subst (λ x. Continues size (afterwards x p buf out).answer (afterwards x p buf out).buf (afterwards x p buf out).out input u) (sym e) (leave_on all due p buf out o.kept f)) d
  phase_on TooLong p buf out o e = absurd (subst (λ x. Owed size x p.count p.total (at_hand buf p) input o.rest) e o.owed)
  phase_on Over p buf out o e =
      let d : o.rest ≡ [] = subst (λ x. Owed size x p.count p.total (at_hand buf p) input o.rest) e o.owed in
      once_on p buf out o (λ f. subst (λ x. Continues size (afterwards x p buf out).answer (afterwards x p buf out).buf (afterwards x p buf out).out input u) (sym e) f) d

  inside_fits : (p : Place) (buf out : List ℕ) → Inside p buf out → fits p buf out ≡ true
  inside_fits p buf out i = rw (le-leb _ _ i.low, le-leb _ _ i.filled, le-leb _ _ i.room, le-leb _ _ i.some) (le-leb 128 (length out) i.line)

  step_on : (p : Place) (buf out : List ℕ) → Owes size p buf out input u → Continues size (step_of p buf out).answer (step_of p buf out).buf (step_of p buf out).out input u
  unfolding step_of
  step_on p buf out o =
      cond_on size input u (fits p buf out) _ _
      (λ b. cond_on size input u (ltb (length out - p.at) 70) _ _ (λ c. write_on size input u p buf out o) (λ c. phase_on p.phase p buf out o refl))
      (λ b. absurd (false≢true (sym b ∙ inside_fits p buf out o.kept.inside)))

-- ---- a part of the input comes

digit_log : {mode : Mode} {size : ℕ} (x : ℕ) (F v : List ℕ) → LogOfInput mode size (x ∷ F) v → (z : Stop) × LogOf mode size (kind_of x) F z v
digit_log x F v (a_digit {z = z} l) = (z, l)

-- the bytes at hand, as the part of those that have come
hand_of : (p : Place) (buf : List ℕ) → p.from ≤ p.to → p.to ≤ length buf → at_hand buf p ≡ drop p.from (take p.to buf)
hand_of p buf h k = sym (drop_take p.from p.to buf h k)

module _ (size : ℕ) (q : Place) (buf out part rest new u : List ℕ) (o : Owes size q buf out (part ++ rest) u) (l : q.last ≡ false) (fit : length part ≤ length buf - q.to) (same : length new ≡ length buf)
    (stands : take (q.to + length part) new ≡ take q.to buf ++ part) where
  k : Kept size q buf out (part ++ rest)
  k = o.kept

  i : Inside q buf out
  i = k.inside

  -- behind those at hand
  hand_grown : take (q.to + length part - q.from) (drop q.from new) ≡ at_hand buf q ++ part
  hand_grown =
      sym (drop_take q.from (q.to + length part) new (omega (arith, i.low)) (omega (arith, i.filled)))
      ∙ ap (drop q.from) stands
      ∙ drop-append-le q.from (take q.to buf) part (omega (arith, i.low, length-take-le q.to buf i.filled))
      ∙ ap (λ b. b ++ part) (sym (hand_of q buf i.low i.filled))

  total : length (part ++ rest) ≡ length part + length rest
  total = length-append part rest

  -- the place where a part has come, if what is owed there is known
  grown_on : (phase : Phase) (from : ℕ) (hand : List ℕ) → from ≤ q.to + length part → q.count + (q.to + length part - from) ≤ q.came + length part → take (q.to + length part - from) (drop from new) ≡ hand →
      Owed size phase q.count q.total hand rest o.rest → Owes size (grown q phase from (length part)) new out rest u
  grown_on phase from hand low few e d =
      let p = grown q phase from (length part) in
      let long = hand_long p new low (omega (arith, i.filled)) in
      record {
        kept = record {
          whole = same ∙ k.whole;
          inside = record { low = low; filled = omega (arith, i.filled); room = i.room; some = omega (arith, i.some); line = i.line };
          held = record { held = omega (arith, i.filled, k.whole); told = λ b. absurd (false≢true (sym l ∙ b)) };
          came = omega (arith, k.came, total);
          few = few;
        };
        rest = o.rest;
        text = o.text;
        owed = subst (λ h. Owed size phase q.count q.total h rest o.rest) (sym e) d;
      }

  -- another phase than the digit's: the part stands behind the bytes at hand
  more_on : (phase : Phase) → Owed size phase q.count q.total (at_hand buf q ++ part) rest o.rest → Owes size (grown q phase q.from (length part)) new out rest u
  more_on phase d = grown_on phase q.from (at_hand buf q ++ part) (omega (arith, i.low)) (omega (arith, k.few, i.low)) hand_grown d

  cond_place : (b : Bool) (s t : Place) → (b ≡ true → Owes size s new out rest u) → (b ≡ false → Owes size t new out rest u) → Owes size (cond b s t) new out rest u
  cond_place true s t f g = f refl
  cond_place false s t f g = g refl

  joined : at_hand buf q ++ (part ++ rest) ≡ (at_hand buf q ++ part) ++ rest
  joined = sym (append_assoc (at_hand buf q) part rest)

  -- the first byte is the digit
  digit_comes : (mode : Mode) → Owed size (Digit mode) q.count q.total (at_hand buf q) (part ++ rest) o.rest → 0 < length part → Owes size (came (Digit mode) q (length part) new) new out rest u
  digit_comes mode d h = go part refl d.2
    where
      go : (b : List ℕ) → part ≡ b → LogOfInput mode size (part ++ rest) o.rest → Owes size (came (Digit mode) q (length part) new) new out rest u
      go [] e log = absurd (omega (arith, ap length e))
      go (x ∷ xs) e log =
          let here : take (length part) (drop q.to new) ≡ part =
          ap (λ n. take n (drop q.to new)) (let m : length part ≡ q.to + length part - q.to = omega arith in m)
          ∙ sym (drop_take q.to (q.to + length part) new (omega arith) (omega (arith, i.filled)))
          ∙ ap (drop q.to) stands
          ∙ drop_at (take q.to buf) part q.to (length-take-le q.to buf i.filled) in
          let first : get_or new q.to 0 ≡ x =
          ap (λ n. get_or new n 0) (sym (add-zero q.to))
          ∙ sym (get_or-drop q.to new 0 0)
          ∙ sym (get_or-take (length part) (drop q.to new) 0 0 h)
          ∙ ap (λ l. get_or l 0 0) (here ∙ e) in
          let others : take (q.to + length part - (q.to + 1)) (drop (q.to + 1) new) ≡ xs =
          ap₂ take (let m : q.to + length part - (q.to + 1) ≡ length part - 1 = omega arith in m) (sym (drop-drop 1 q.to new))
          ∙ sym (drop_take 1 (length part) (drop q.to new) (omega (arith, h)) (omega (arith, length-drop q.to new, i.filled)))
          ∙ ap (drop 1) (here ∙ e) in
          let log' : LogOfInput mode size (x ∷ (xs ++ rest)) o.rest = subst (λ b. LogOfInput mode size (b ++ rest) o.rest) e log in
          grown_on (HeaderOf mode (kind_of (get_or new q.to 0))) (q.to + 1) xs (omega (arith, h)) (omega (arith, d.0, h)) others
          (let w = digit_log x (xs ++ rest) o.rest log' in (d.0, d.1, w.0, subst (λ y. LogOf mode size (kind_of y) (xs ++ rest) w.0 o.rest) (sym first) w.1))

  came_on : (phase : Phase) → q.phase ≡ phase → 0 < length part → Owes size (came phase q (length part) new) new out rest u
  came_on (Digit mode) e h = digit_comes mode (subst (λ x. Owed size x q.count q.total (at_hand buf q) (part ++ rest) o.rest) e o.owed) h
  came_on (HeaderOf mode kind) e h =
      let d : Owed size (HeaderOf mode kind) q.count q.total (at_hand buf q) (part ++ rest) o.rest = subst (λ x. Owed size x q.count q.total (at_hand buf q) (part ++ rest) o.rest) e o.owed in
      more_on q.phase (subst (λ x. Owed size x q.count q.total (at_hand buf q ++ part) rest o.rest) (sym e) (d.0, d.1, d.2, subst (λ b. LogOf mode size kind b d.2 o.rest) joined d.3))
  came_on (Records st) e h =
      let d : Owed size (Records st) q.count q.total (at_hand buf q) (part ++ rest) o.rest = subst (λ x. Owed size x q.count q.total (at_hand buf q) (part ++ rest) o.rest) e o.owed in
      more_on q.phase (subst (λ x. Owed size x q.count q.total (at_hand buf q ++ part) rest o.rest) (sym e) (d.0, subst (λ b. RestOf size st b q.count q.total d.0 o.rest) joined d.1))
  came_on (Ended all due) e h =
      let d : o.rest ≡ [] = subst (λ x. Owed size x q.count q.total (at_hand buf q) (part ++ rest) o.rest) e o.owed in
      more_on q.phase (subst (λ x. Owed size x q.count q.total (at_hand buf q ++ part) rest o.rest) (sym e) d)
  came_on TooLong e h = absurd (subst (λ x. Owed size x q.count q.total (at_hand buf q) (part ++ rest) o.rest) e o.owed)
  came_on Over e h =
      let d : o.rest ≡ [] = subst (λ x. Owed size x q.count q.total (at_hand buf q) (part ++ rest) o.rest) e o.owed in
      more_on q.phase (subst (λ x. Owed size x q.count q.total (at_hand buf q ++ part) rest o.rest) (sym e) d)

  -- nothing came: the input has ended
  ended_on : part ≡ [] → rest ≡ [] → q.to < length buf → Owes size (record { phase = q.phase; from = q.from; to = q.to; last = true; at = q.at; count = q.count; total = q.total; came = q.came }) new out rest u
  ended_on e f free =
      let none : length part ≡ 0 = ap length e in
      let back : at_hand new q ≡ at_hand buf q =
      ap (λ n. take (n - q.from) (drop q.from new)) (let m : q.to ≡ q.to + length part = omega (arith, none) in m) ∙ hand_grown ∙ ap (λ b. at_hand buf q ++ b) e ∙ append-nil (at_hand buf q) in
      let input : part ++ rest ≡ rest = ap (λ b. b ++ rest) e in
      record {
        kept = record {
          whole = same ∙ k.whole;
          inside = record { low = i.low; filled = omega (arith, i.filled); room = i.room; some = omega (arith, i.some); line = i.line };
          held = record { held = omega (arith, ap length back, k.held.held); told = λ b. (f, omega (arith, ap length back, hand_long q buf i.low i.filled, k.whole)) };
          came = omega (arith, k.came, total);
          few = k.few;
        };
        rest = o.rest;
        text = o.text;
        owed = subst₂ (λ h b. Owed size q.phase q.count q.total h b o.rest) (sym back) input o.owed;
      }

  took_on : (part ≡ [] → rest ≡ []) → q.to < length buf → Owes size (took_of q (length part) new) new out rest u
  unfolding took_of
  took_on f free =
      cond_place (eqb (length part) 0) _ _
      (λ b. let e = none_of part (eqb-true (length part) 0 b) in ended_on e (f e) free)
      (λ b.
      let some : 0 < length part = omega (arith, eqb-false (length part) 0 b) in
      cond_place (ltb (length new - q.to) (length part)) _ _
      (λ c. absurd (omega (arith, ltb-true (length new - q.to) (length part) c)))
      (λ c.
      cond_place (ltb most (q.came + length part)) _ _
      (λ d. absurd (omega (arith, ltb-true most (q.came + length part) d, k.came, total)))
      (λ d. came_on q.phase refl some)))
    where
      none_of : (l : List ℕ) → length l ≡ 0 → l ≡ []
      none_of [] e = refl
      none_of (x ∷ xs) e = absurd (omega arith)

-- ---- a whole run

-- what is written is what is owed
follows : (size : ℕ) {p : Place} {buf out input t : List ℕ} (u : List ℕ) → Owes size p buf out input u → Writes p buf out input t → t ≡ u
follows size {p} {buf} {out} {input} u o (closed e) = sym (subst (λ a. Continues size a (step_of p buf out).buf (step_of p buf out).out input u) e (step_on size input u p buf out o))
follows size {p} {buf} {out} {input} u o (written q n e w) =
    let c = subst (λ a. Continues size a (step_of p buf out).buf (step_of p buf out).out input u) e (step_on size input u p buf out o) in
    ap (λ v. take n (step_of p buf out).out ++ v) (follows size c.0 c.2 w) ∙ sym c.1
follows size {p} {buf} {out} {input} u o (told q n e w) = follows size u (subst (λ a. Continues size a (step_of p buf out).buf (step_of p buf out).out input u) e (step_on size input u p buf out o)) w
follows size {p} {buf} {out} u o (taken q n part rest new e fit none same stands w) =
    let c = subst (λ a. Continues size a (step_of p buf out).buf (step_of p buf out).out (part ++ rest) u) e (step_on size (part ++ rest) u p buf out o) in
    let long : length (step_of p buf out).buf ≡ length buf = c.0.kept.whole ∙ sym o.kept.whole in
    follows size u (took_on size q (step_of p buf out).buf (step_of p buf out).out part rest new u c.0 c.2 (omega (arith, c.1)) (same ∙ sym long) (ap (λ m. take (m + length part) new) c.1 ∙ stands ∙ ap (λ m. take m (step_of p buf out).buf ++ part) (sym c.1)) none (omega (arith, c.1, c.3, o.kept.whole))) w

start_owes : (mode : Mode) (buf out input u : List ℕ) → 1 ≤ length buf → 128 ≤ length out → length input ≤ most → LogOfInput mode (length buf) input u → Owes (length buf) (started mode) buf out input u
start_owes mode buf out input u some line fit log = record {
  kept = record {
    whole = refl;
    inside = record { low = omega arith; filled = omega arith; room = omega arith; some = some; line = line };
    held = record { held = omega arith; told = λ e. absurd (false≢true e) };
    came = omega arith;
    few = omega arith;
  };
  rest = u;
  text = refl;
  owed = (refl, refl, log);
}

log_there : (mode : Mode) (size : ℕ) (input : List ℕ) → (u : List ℕ) × LogOfInput mode size input u
log_there mode size [] = (end_line (refused 1) 0, no_digit)
log_there mode size (x ∷ F) = let l = one_log.there mode size (kind_of x) F in (l.1, a_digit l.2)

pub writes_log : (mode : Mode) (buf out input t : List ℕ) → 1 ≤ length buf → 128 ≤ length out → length input ≤ most → Writes (started mode) buf out input t → LogOfInput mode (length buf) input t
writes_log mode buf out input t some line fit w =
    let l = log_there mode (length buf) input in
    subst (LogOfInput mode (length buf) input) (sym (follows (length buf) l.0 (start_owes mode buf out input l.0 some line fit l.1) w)) l.1
