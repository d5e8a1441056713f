-- The records of a log are those of demand 3's reading, and what their doubles add up to is the total of the added-up values.
use mathlib.Core.Path.{◌≡◌, refl, sym, ap, ◌∙◌, subst, subst₂}
use mathlib.Core.Logic.{◌⊎◌, ⊎_elim}
use mathlib.Core.Bool.{Bool, true, false, not, cond, false≢true}
use mathlib.Core.List.{List, [], ◌∷◌, ◌++◌}
use Prim.Native.Nat.{ℕ, zero, suc, ◌+◌, ◌^◌, ◌≤◌, ◌<◌}
use native.Mathlib.Nat.{add-zero}
use native.Mathlib.Omega.{arith}
use borrow.Author.Tests.{ltb-true, ltb-false, ne_eqb}
use borrow.Table.Steps.{cases as by}
use lib.Dec.{T, ltb, eqb}
use lib.Ieee.{Float, binary64}
use lib.Ieee.Bits.{is_true}
use lib.IntN.{ℤ, pos, nat_abs, ◌+ℤ◌}
use lib.ListN.{length, take, drop, take-append-drop}
use Rattle.rules.specs.Rule.{Rule, Stop, finished, more_bytes, refused, Read, got, stops, read, AtEnd, map_rule, map_read}
use Rattle.rules.specs.Calls.{Item, read_up_to, asked, fill, opening, result_of, by_calls, by_rules}
use Rattle.rules.proofs.Laws.{got≢stops, waiting?, waits_iff, Keeps, keeps, read_map}
use Rattle.rules.proofs.Last.{told_last}
use Rattle.common.specs.Bytes.{AreBytes}
use Rattle.floats.specs.Wholes.{IsWhole}
use Rattle.chemstation.specs.Next.{rule}
use Rattle.streams.specs.Next.{unscaled_of}
use Rattle.streams.specs.declared.State.{State}
use Rattle.streams.specs.declared.Record.{Record}
use Rattle.streams.specs.declared.Mode.{Mode}
use Rattle.modes.specs.Modes.{open_by, begins_by, start_by}
use Rattle.whole.specs.Whole.{Added, whole_rule, at_open, Exact, AllExact}
use Rattle.demand3.specs.Demand3.{whole_start, Demand3Holds}
use Rattle.std.specs.Prelude.{Some, None, Ok, Err}
use Rattle.sums.specs.Sums.{AnyTotal, counts, whole_of, in64, amount, out_of_range, plus, total_from, TotalsAreSums}
use Rattle.lines.specs.Lines.{total_line, end_line}
use Rattle.runlog.specs.Runs.{lines_of, unscaled}
use Rattle.runlog.specs.Log.{in_buffer, Reads, one_more, no_more, header_text, first_total, foot_text, LogOf, opened_run}
use Rattle.foot.specs.Foot.{added_up, AllWithin, plus_added, total_added, sum_added, OpenedLog, values_of, text_added}

-- ---- a record is read the same, told not last and with all bytes at hand

stops_at_end : {A : Type 0} (r : Rule A) (bs : List ℕ) {a : A} {n : ℕ} {y : Read A} → AtEnd r bs y → ¬ (y ≡ got a n)
stops_at_end r bs h e = ⊎_elim (λ p. got≢stops (sym e ∙ p.1)) (λ p. got≢stops (sym e ∙ p.1)) h

not_last : {A : Type 0} (r : Rule A) (bs : List ℕ) {a : A} {n : ℕ} → read true r bs ≡ got a n → read false r bs ≡ got a n
not_last {A} r bs {a} {n} e = go (read false r bs) refl
  where
    go : (y : Read A) → read false r bs ≡ y → read false r bs ≡ got a n
    go (got b m) f = sym ((told_last r bs).agrees (λ p. got≢stops (sym f ∙ (waits_iff r bs).1 p))) ∙ e
    go (stops z) f =
        ⊎_elim
        (λ w. absurd (stops_at_end r bs ((told_last r bs).differs ((waits_iff r bs).0 (f ∙ ap stops w))) e))
        (λ d. absurd (got≢stops (sym e ∙ (told_last r bs).agrees (λ p. let q : stops z ≡ stops more_bytes = sym f ∙ (waits_iff r bs).1 p in d cc) ∙ f)))
        (waiting? z)

straight : {A : Type 0} (size : ℕ) (r : Rule A) (bs : List ℕ) {a : A} {n : ℕ} → in_buffer size r bs ≡ got a n → read false r bs ≡ got a n
straight {A} size r bs {a} {n} e =
    by (ltb (length bs) size)
    (λ t. not_last r bs (rw t at e))
    (λ t.
    let f : read false r (take size bs) ≡ got a n = rw t at e in
    let k : Keeps (take size bs) (got a n) (read false r (take size bs ++ drop size bs)) = subst (λ y. Keeps (take size bs) y (read false r (take size bs ++ drop size bs))) f (keeps r (take size bs) (drop size bs)) in
    ap (read false r) (sym (take-append-drop size bs)) ∙ k.1)

all_straight : {size : ℕ} {st : State} {bs : List ℕ} {rs : List Record} {z : Stop} → Reads size st bs rs z → (read_up_to rule false (length rs) st bs).records ≡ rs
unfolding read_up_to
all_straight {size} {st} {bs} (one_more {x = x} {n = n} e r) = rw (straight size (rule st) bs e) (ap (λ l. x.shows ∷ l) (all_straight r))
all_straight (no_more e) = refl

-- ---- demand 3, of the records of a log

module _ (demand : Demand3Holds) {mode : Mode} {size kind : ℕ} {F : List ℕ} (b : AreBytes F) (l : OpenedLog mode size kind F) where
  opened : read false (start_by mode kind) F ≡ got (begins_by mode kind l.header) l.taken
  opened = read_map false (begins_by mode kind) (open_by mode kind) F ∙ ap (map_read (begins_by mode kind)) (straight size (open_by mode kind) F l.opens)

  by_rules_lem : (by_rules rule (start_by mode kind) (length l.records) F).records ≡ l.records
  by_rules_lem = rw opened (all_straight l.reads)

  some : (n : ℕ) → 1 ≤ n → AllExact (by_rules rule (start_by mode kind) n F).records (added_up mode kind n F)
  unfolding asked AreBytes
  some n h =
      let d = demand mode kind (fill n ∷ []) F [] b tt (omega arith) in
      let e : n + 0 ≡ n = add-zero n in
      subst (λ m. AllExact (by_rules rule (start_by mode kind) m F).records (added_up mode kind m F)) e
      (subst (λ r. AllExact r.records (added_up mode kind (n + 0) F)) d.calls.by_rules_lem d.exact)

  none : AllExact (by_rules rule (start_by mode kind) 0 F).records (added_up mode kind 0 F)
  unfolding read_up_to
  none =
      let e : added_up mode kind 0 F ≡ [] = ap (λ x. (opening F (λ st bs. result_of (read_up_to whole_rule false 0 st bs)) x).records) (read_map false at_open (start_by mode kind) F ∙ ap (map_read at_open) opened) in
      subst (AllExact (by_rules rule (start_by mode kind) 0 F).records) (sym e) (rw opened tt)

  every : (n : ℕ) → AllExact (by_rules rule (start_by mode kind) n F).records (added_up mode kind n F)
  every zero = none
  every (suc n) = some (suc n) (omega arith)

  pub exact : AllExact l.records (values_of l)
  exact = subst (λ rs. AllExact rs (values_of l)) by_rules_lem (every (length l.records))

-- ---- the total

is_false : (b : Bool) → T (not b) → b ≡ false
is_false true t = absurd t
is_false false t = refl

-- one more: its double counts exactly where it is below 2^53 in size, and as itself
one_added : TotalsAreSums → (t : AnyTotal) (v : Float) (w : Added) → IsWhole binary64 v w.value → plus t v ≡ plus_added t w
one_added s None v w i = refl
one_added s (Some (Err c)) v w i = refl
one_added s (Some (Ok a)) v w i =
    by (ltb (nat_abs w.value) (2 ^ 53))
    (λ t. let p = s.wholes v w.value i (ltb-true (nat_abs w.value) (2 ^ 53) t) in rw (t, is_true (counts v) p.0, p.1) refl)
    (λ t.
    let n : nat_abs w.value ≡ 2 ^ 53 = omega (arith, i.small, ltb-false (nat_abs w.value) (2 ^ 53) t) in
    rw (t, is_false (counts v) (s.large v w.value i n)) refl)

pub all_added : TotalsAreSums → (t : AnyTotal) (rs : List Record) (ws : List Added) → AllExact rs ws → AllWithin ws → total_from t (unscaled rs) ≡ total_added t ws
all_added s t [] [] e h = refl
all_added s t [] (w ∷ ws) e h = absurd e
all_added s t (r ∷ rs) [] e h = absurd e
all_added s t (r ∷ rs) (w ∷ ws) e h = ap (λ x. total_from x (unscaled rs)) (one_added s t (unscaled_of r) w (e.0 h.0)) ∙ all_added s (plus_added t w) rs ws e.1 h.1

first_total_lem : (kind : ℕ) → ¬ (kind ≡ 6) → first_total kind ≡ Some (Ok (pos 0))
first_total_lem kind d = rw (ne_eqb kind 6 d) refl

pub sum : TotalsAreSums → Demand3Holds → (mode : Mode) (size kind : ℕ) (F : List ℕ) → AreBytes F → ¬ (kind ≡ 6) → (l : OpenedLog mode size kind F) → AllWithin (values_of l) →
    total_from (first_total kind) (unscaled l.records) ≡ total_added (Some (Ok (pos 0))) (values_of l)
sum s demand mode size kind F b d l h =
    ap (λ t. total_from t (unscaled l.records)) (first_total_lem kind d) ∙ all_added s (Some (Ok (pos 0))) l.records (values_of l) (exact demand b l) h

pub foot : TotalsAreSums → Demand3Holds → (mode : Mode) (size kind : ℕ) (F : List ℕ) → AreBytes F → ¬ (kind ≡ 6) → (l : OpenedLog mode size kind F) → AllWithin (values_of l) → LogOf mode size kind F l.answer (text_added l)
foot s demand mode size kind F b d l h =
    let e = sum s demand mode size kind F b d l h in
    subst (λ t. LogOf mode size kind F l.answer (header_text l.header ++ (lines_of l.records ++ (total_line t ++ end_line l.answer (length l.records))))) e (opened_run l.opens l.reads)

-- ---- kind 6

absent_stays : (vs : List Float) → total_from None vs ≡ None
absent_stays [] = refl
absent_stays (v ∷ vs) = absent_stays vs

pub array : (mode : Mode) (size : ℕ) (F : List ℕ) (l : OpenedLog mode size 6 F) → LogOf mode size 6 F l.answer (header_text l.header ++ (lines_of l.records ++ end_line l.answer (length l.records)))
array mode size F l =
    subst (λ t. LogOf mode size 6 F l.answer (header_text l.header ++ (lines_of l.records ++ (total_line t ++ end_line l.answer (length l.records)))))
    (absent_stays (unscaled l.records)) (opened_run l.opens l.reads)

-- ---- an amount is the sum

refused_stays : (ws : List Added) → total_added out_of_range ws ≡ out_of_range
refused_stays [] = refl
refused_stays (w ∷ ws) = refused_stays ws

amount≢out : {z : ℤ} → ¬ (Some (Ok z) ≡ out_of_range)
amount≢out e = false≢true cc

pub number : (a z : ℤ) (ws : List Added) → total_added (Some (Ok a)) ws ≡ Some (Ok z) → z ≡ sum_added a ws
number a z [] e = cc
number a z (w ∷ ws) e = go (ltb (nat_abs w.value) (2 ^ 53)) (in64 (a +ℤ w.value)) (λ f. number (a +ℤ w.value) z ws f) e
  where
    go : (b c : Bool) → (total_added (Some (Ok (a +ℤ w.value))) ws ≡ Some (Ok z) → z ≡ sum_added (a +ℤ w.value) ws) → total_added (cond b (cond c (Some (Ok (a +ℤ w.value))) out_of_range) out_of_range) ws ≡ Some (Ok z) → z ≡ sum_added (a +ℤ w.value) ws
    go true true onward f = onward f
    go true false onward f = absurd (amount≢out (sym f ∙ refused_stays ws))
    go false c onward f = absurd (amount≢out (sym f ∙ refused_stays ws))
