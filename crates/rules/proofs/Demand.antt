-- The calls read what the rules read, and more bytes change nothing but a wait for them.
use mathlib.Core.Path.{◌≡◌, refl, sym, ap, ◌∙◌, subst, subst₂}
use mathlib.Core.Logic.{◌↔◌}
use mathlib.Core.Bool.{false, cond}
use mathlib.Core.List.{List, [], ◌∷◌, ◌++◌, append-nil}
use Prim.Native.Nat.{ℕ, zero, suc, ◌+◌, ◌≤◌, ◌<◌}
use native.Mathlib.Nat.{zero-add, add-zero, add_assoc, suc-add}
use native.Mathlib.Omega.{arith}
use lib.ListN.{length, drop}
use lib.Seq.{drop-append-le, drop-drop}
use lib.Dec.{eqb}
use borrow.Author.Tests.{lt-ltb, le-ltb, eq-eqb, ne_eqb}
use Rattle.rules.specs.Rule.{Rule, Stop, more_bytes, Read, got, stops, taking, read, ◌>>=◌}
use Rattle.rules.specs.Calls.{Item, Answer, full, stopped, Reading, ahead, one_record, go_on, Call, next, fill, fill_unequal, asks, asked, Result, result_of, opening}
use Rattle.rules.specs.Calls.{read_up_to, call, all_records, first_fewer, called, after_records, by_calls, by_rules, DueEndsPast, Demand}
use Rattle.rules.proofs.Filling.{joined}
use Rattle.rules.proofs.Laws.{taking_stops, read_then, read_then_lem, waits_iff, Keeps, keeps}

-- a reading, and behind it another unless it stopped
abbrev extend : {S R : Type 0} → (S → ℕ → Reading S R) → Reading S R → Answer → Reading S R
extend onward s full = joined s (onward s.state s.consumed)
extend onward s (stopped z) = s

module _ {S R : Type 0} (rule : S → Rule (Item S R)) where
  abbrev straight : ℕ → S → List ℕ → Reading S R
  straight n st bs = read_up_to rule false n st bs

  abbrev step : S → List ℕ → Read (Item S R)
  step st bs = read false (rule st) bs

  -- a reading of n more, from a place in the bytes on
  abbrev on_from : ℕ → List ℕ → S → ℕ → Reading S R
  on_from n bs st k = straight n st (drop k bs)

  ahead_extend : (n : ℕ) (bs : List ℕ) (r : R) (k : ℕ) (s : Reading S R) (z : Answer) → ahead r k (extend (on_from n (drop k bs)) s z) ≡ extend (on_from n bs) (ahead r k s) z
  ahead_extend n bs r k s full = rw (drop-drop s.consumed k bs, add_assoc) refl
  ahead_extend n bs r k s (stopped z) = refl

  -- m + n records are m, and then n
  straight_add : (m n : ℕ) (st : S) (bs : List ℕ) → straight (m + n) st bs ≡ extend (on_from n bs) (straight m st bs) (straight m st bs).closing
  unfolding read_up_to
  straight_add zero n st bs = rw (zero-add n, zero-add) refl
  straight_add (suc m) n st bs = rw suc-add (go (λ st' bs'. straight_add m n st' bs') (step st bs))
    where
      go : (ih : (st' : S) (bs' : List ℕ) → straight (m + n) st' bs' ≡ extend (on_from n bs') (straight m st' bs') (straight m st' bs').closing) (x : Read (Item S R)) →
          go_on st bs (straight (m + n)) x ≡ extend (on_from n bs) (go_on st bs (straight m) x) (go_on st bs (straight m) x).closing
      go ih (got x k) =
          let s = straight m x.after (drop k bs) in
          ap (ahead x.shows k) (ih x.after (drop k bs)) ∙ ahead_extend n bs x.shows k s s.closing
      go ih (stops z) = refl

  -- a reading of n is full where it has n records, and else stands where the rule stops
  abbrev Ends : ℕ → List ℕ → Reading S R → Answer → Type 0
  Ends n bs s full = length s.records ≡ n
  Ends n bs s (stopped z) = (length s.records < n) × (step s.state (drop s.consumed bs) ≡ stops z)

  ends_ahead : (n : ℕ) (bs : List ℕ) (r : R) (k : ℕ) (s : Reading S R) (z : Answer) → Ends n (drop k bs) s z → Ends (suc n) bs (ahead r k s) z
  ends_ahead n bs r k s full e = ap suc e
  ends_ahead n bs r k s (stopped z) e = (omega (arith, e.0), rw (← drop-drop) e.1)

  ends : (n : ℕ) (st : S) (bs : List ℕ) → Ends n bs (straight n st bs) (straight n st bs).closing
  unfolding read_up_to
  ends zero st bs = refl
  ends (suc n) st bs = go (λ st' bs'. ends n st' bs') (step st bs) refl
    where
      go : (ih : (st' : S) (bs' : List ℕ) → Ends n bs' (straight n st' bs') (straight n st' bs').closing) (x : Read (Item S R)) → step st bs ≡ x →
          Ends (suc n) bs (go_on st bs (straight n) x) (go_on st bs (straight n) x).closing
      go ih (got x k) e = let s = straight n x.after (drop k bs) in ends_ahead n bs x.shows k s s.closing (ih x.after (drop k bs))
      go ih (stops z) e = (omega arith, e)

  -- where the rule stops there are no records
  no_records : (n : ℕ) (st : S) (bs : List ℕ) (z : Stop) → step st bs ≡ stops z → (straight n st bs).records ≡ []
  unfolding read_up_to
  no_records zero st bs z e = refl
  no_records (suc n) st bs z e = rw e refl

  -- the fields of the records that a reading has lead to where it ended
  reaches : (n : ℕ) (st : S) (bs : List ℕ) → let s = straight n st bs in read false (after_records rule (length s.records) st) bs ≡ got s.state s.consumed
  unfolding read_up_to read after_records
  reaches zero st bs = refl
  reaches (suc n) st bs = go (λ st' bs'. reaches n st' bs') (step st bs) refl
    where
      go : (ih : (st' : S) (bs' : List ℕ) → let s = straight n st' bs' in read false (after_records rule (length s.records) st') bs' ≡ got s.state s.consumed) (x : Read (Item S R)) →
          step st bs ≡ x → let s = go_on st bs (straight n) x in read false (after_records rule (length s.records) st) bs ≡ got s.state s.consumed
      go ih (got x k) e =
          let m = length (straight n x.after (drop k bs)).records in
          let f : Item S R → Rule S = λ y. after_records rule m y.after in
          read_then_lem false (rule st) f bs ∙ ap (read_then false bs f) e ∙ ap (taking k) (ih x.after (drop k bs))
      go ih (stops z) e = refl

  -- ---- the calls

  -- a call gives what a reading of as many records gives, and where it gives fewer its answer is that reading's
  record Agrees (n : ℕ) (a s : Reading S R) : Type 0 where
    records : a.records ≡ s.records
    consumed : a.consumed ≡ s.consumed
    state : a.state ≡ s.state
    closing : length a.records < n → a.closing ≡ s.closing

  agrees : (c : Call) (st : S) (bs : List ℕ) → Agrees (asks c) (call rule c st bs) (straight (asks c) st bs)
  unfolding read_up_to
  agrees next st bs = go (step st bs)
    where
      go : (x : Read (Item S R)) → Agrees 1 (one_record st x) (go_on st bs (straight 0) x)
      go (got x k) = record { records = refl; consumed = sym (add-zero k); state = refl; closing = λ _. refl }
      go (stops z) = record { records = refl; consumed = refl; state = refl; closing = λ _. refl }
  agrees (fill n) st bs = record { records = refl; consumed = refl; state = refl; closing = λ _. refl }
  agrees fill_unequal st bs = record { records = refl; consumed = refl; state = refl; closing = λ h. absurd (omega arith) }

  -- what a list of calls comes to, as a reading
  abbrev Told : List Call → S → List ℕ → Reading S R → Type 0
  Told cs st bs s = (all_records rule cs st bs ≡ s.records) × (first_fewer rule cs st bs ≡ s.closing)

  told_then : (c : Call) (cs : List Call) (st : S) (bs : List ℕ) (s : Reading S R) (z : Answer) → Agrees (asks c) (call rule c st bs) s → s.closing ≡ z → Ends (asks c) bs s z →
      Told cs s.state (drop s.consumed bs) (on_from (asked cs) bs s.state s.consumed) → Told (c ∷ cs) st bs (extend (on_from (asked cs) bs) s z)
  unfolding all_records first_fewer
  told_then c cs st bs s full g e en ih =
      let h : asks c ≤ length (call rule c st bs).records = omega (arith, ap length g.records, en) in
      (rw (g.records, g.state, g.consumed) (ap (λ l. s.records ++ l) ih.0), rw (le-ltb _ _ h, g.state, g.consumed) ih.1)
  told_then c cs st bs s (stopped z) g e en ih =
      let h : length (call rule c st bs).records < asks c = omega (arith, ap length g.records, en.0) in
      let none = ih.0 ∙ no_records (asked cs) s.state (drop s.consumed bs) z en.1 in
      (rw (g.records, g.state, g.consumed, none) (append-nil s.records), rw (lt-ltb _ _ h) (g.closing h))

  told : (cs : List Call) (st : S) (bs : List ℕ) → Told cs st bs (straight (asked cs) st bs)
  unfolding asked read_up_to all_records first_fewer
  told [] st bs = (refl, refl)
  told (c ∷ cs) st bs =
      let s = straight (asks c) st bs in
      rw (straight_add (asks c) (asked cs) st bs)
      (told_then c cs st bs s s.closing (agrees c st bs) refl (ends (asks c) st bs) (told cs s.state (drop s.consumed bs)))

  -- Z: full where all N are there, else what the reading stopped at
  closes : (n : ℕ) (bs : List ℕ) (s : Reading S R) (z : Answer) → s.closing ≡ z → Ends n bs s z → cond (eqb (length s.records) n) full s.closing ≡ s.closing
  closes n bs s full e en = rw (eq-eqb _ _ en) (sym e)
  closes n bs s (stopped z) e en = rw (ne_eqb (length s.records) n (λ same. omega (arith, en.0, same)))

  called_straight : (cs : List Call) (st : S) (bs : List ℕ) → called rule cs st bs ≡ result_of (straight (asked cs) st bs)
  unfolding called
  called_straight cs st bs =
      let s = straight (asked cs) st bs in
      let t = told cs st bs in
      rw (t.0, t.1, closes (asked cs) bs s s.closing refl (ends (asked cs) st bs)) refl

  -- ---- more bytes behind

  -- of a result x on F and a result y on F with more behind it: R begins S, and unless Z is 'more bytes' they are the same
  abbrev Grows : Result R → Result R → Type 0
  Grows x y = ((more : List R) × (y.records ≡ x.records ++ more)) × (¬ (x.closing ≡ stopped more_bytes) → y ≡ x)

  grows_ahead : (r : R) (x y : Result R) → Grows x y → Grows (record { records = r ∷ x.records; closing = x.closing }) (record { records = r ∷ y.records; closing = y.closing })
  grows_ahead r x y g = ((g.0.0, ap (λ l. r ∷ l) g.0.1), λ h. ap (λ (t : Result R). record { records = r ∷ t.records; closing = t.closing }) (g.1 h))

  -- a stop has no records, so that all of y is behind it
  grows_stop : (z : Stop) (y : Result R) → (¬ (z ≡ more_bytes) → y ≡ record { records = []; closing = stopped z }) → Grows (record { records = []; closing = stopped z }) y
  grows_stop z y f = ((y.records, refl), λ h. f (λ e. h (ap stopped e)))

  grows : (n : ℕ) (st : S) (F G : List ℕ) → Grows (result_of (straight n st F)) (result_of (straight n st (F ++ G)))
  unfolding read_up_to
  grows zero st F G = (([], refl), λ h. refl)
  grows (suc n) st F G = go (λ st' F'. grows n st' F' G) (step st F) (step st (F ++ G)) (keeps (rule st) F G)
    where
      go : (ih : (st' : S) (F' : List ℕ) → Grows (result_of (straight n st' F')) (result_of (straight n st' (F' ++ G)))) (x y : Read (Item S R)) → Keeps F x y →
          Grows (result_of (go_on st F (straight n) x)) (result_of (go_on st (F ++ G) (straight n) y))
      go ih (got x k) y kp = rw (kp.1, drop-append-le k F G kp.0) (grows_ahead x.shows (result_of (straight n x.after (drop k F))) (result_of (straight n x.after (drop k F ++ G))) (ih x.after (drop k F)))
      go ih (stops z) y kp = grows_stop z (result_of (go_on st (F ++ G) (straight n) y)) λ d. rw (kp d) refl

  -- ---- 'more bytes'

  -- a reading waits exactly where it has too few records and the rule waits behind them
  waiting : (n : ℕ) (st : S) (bs : List ℕ) → let s = straight n st bs in (s.closing ≡ stopped more_bytes) ↔ ((length s.records < n) × (step s.state (drop s.consumed bs) ≡ stops more_bytes))
  waiting n st bs = ((λ e. subst (Ends n bs s) e (ends n st bs)), λ h. back s.closing refl (ends n st bs) h.0 h.1)
    where
      s : Reading S R
      s = straight n st bs

      back : (z : Answer) → s.closing ≡ z → Ends n bs s z → length s.records < n → step s.state (drop s.consumed bs) ≡ stops more_bytes → s.closing ≡ stopped more_bytes
      back full e en h w = absurd (omega (arith, en))
      back (stopped z) e en h w = cc en.1

  -- what is due behind the records that a reading has
  due_behind : (n : ℕ) (st : S) (bs : List ℕ) → let s = straight n st bs in
      read false (after_records rule (length s.records) st >>= rule) bs ≡ taking s.consumed (step s.state (drop s.consumed bs))
  due_behind n st bs =
      let s = straight n st bs in
      read_then_lem false (after_records rule (length s.records) st) rule bs ∙ ap (read_then false bs rule) (reaches n st bs)

  module _ (start : Rule S) where
    -- the rules from byte 0, by what the opening reads
    abbrev from_start : ℕ → List ℕ → Read S → Read (Item S R)
    from_start m F x = read_then false F (λ st. after_records rule m st >>= rule) x

    due_iff : (m : ℕ) (F : List ℕ) → DueEndsPast rule start m F ↔ (from_start m F (read false start F) ≡ stops more_bytes)
    unfolding DueEndsPast
    due_iff m F =
        let g : S → Rule (Item S R) = λ st. after_records rule m st >>= rule in
        ((λ p. sym (read_then_lem false start g F) ∙ (waits_iff (start >>= g) F).1 p), λ e. (waits_iff (start >>= g) F).0 (read_then_lem false start g F ∙ e))

    -- what the theorem says of a result x on F, where n records were asked for, and of a result y on F with more behind it
    abbrev Facts : ℕ → (ℕ → Type 0) → Result R → Result R → Type 0
    Facts n past x y = Grows x y × ((x.closing ≡ stopped more_bytes) ↔ ((length x.records < n) × past (length x.records)))

    by_rules_lem : (cs : List Call) (F : List ℕ) → by_calls rule start cs F ≡ by_rules rule start (asked cs) F
    by_rules_lem cs F = go (read false start F)
      where
        go : (x : Read S) → opening F (called rule cs) x ≡ opening F (λ st bs. result_of (straight (asked cs) st bs)) x
        go (got st k) = called_straight cs st (drop k F)
        go (stops z) = refl

    facts : (n : ℕ) (F G : List ℕ) → 1 ≤ n → Facts n (λ m. from_start m F (read false start F) ≡ stops more_bytes) (by_rules rule start n F) (by_rules rule start n (F ++ G))
    facts n F G h = go (read false start F) (read false start (F ++ G)) (keeps start F G)
      where
        onward : S → List ℕ → Result R
        onward st bs = result_of (straight n st bs)

        go : (x y : Read S) → Keeps F x y → Facts n (λ m. from_start m F x ≡ stops more_bytes) (opening F onward x) (opening (F ++ G) onward y)
        go (got st k) y kp =
            let bs = drop k F in
            let s = straight n st bs in
            let w = waiting n st bs in
            let t = taking_stops k (taking s.consumed (step s.state (drop s.consumed bs))) more_bytes in
            let u = taking_stops s.consumed (step s.state (drop s.consumed bs)) more_bytes in (
              rw (kp.1, drop-append-le k F G kp.0) (grows n st bs G),
              ((λ e. let p = w.0 e in (p.0, rw (due_behind n st bs) (t.1 (u.1 p.1)))), λ p. w.1 (p.0, u.0 (t.0 (rw (due_behind n st bs) at p.1)))),
            )
        go (stops z) y kp = (
          grows_stop z (opening (F ++ G) onward y) (λ d. rw (kp d) refl),
          ((λ e. (h, cc)), λ p. cc p.1),
        )

    pub demand : (cs : List Call) (F G : List ℕ) → 1 ≤ asked cs → Demand rule start cs F G
    demand cs F G h =
        let past : ℕ → Type 0 = λ m. from_start m F (read false start F) ≡ stops more_bytes in
        let f = subst₂ (Facts (asked cs) past) (sym (by_rules_lem cs F)) (sym (by_rules_lem cs (F ++ G))) (facts (asked cs) F G h) in
        let due = due_iff (length (by_calls rule start cs F).records) F in
        record {
          by_rules_lem = by_rules_lem cs F;
          begins = f.0.0;
          settled = f.0.1;
          waits = ((λ e. let p = f.1.0 e in (p.0, due.1 p.1)), λ p. f.1.1 (p.0, due.0 p.1));
        }
