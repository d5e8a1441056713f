-- Told that the bytes are the last or not, a reading differs only at a due field that ends past them.
use mathlib.Core.Path.{◌≡◌, refl, sym, ap, ◌∙◌, subst}
use mathlib.Core.Logic.{◌⊎◌, inl, inr}
use mathlib.Core.Bool.{Bool, true, false, false≢true}
use mathlib.Core.List.{List, [], ◌∷◌}
use Prim.Native.Nat.{ℕ, zero, suc, ◌≤◌, ◌<◌}
use native.Mathlib.Omega.{arith}
use lib.ListN.{length, take, drop}
use Rattle.rules.specs.Rule.{Rule, gives, field, refuses, ends, Stop, refused, finished, more_bytes, Read, got, stops, taking, lacks, read, EndsPast, EndsBefore, AtEnd, ToldLast}
use Rattle.rules.specs.Calls.{Item, full, stopped, Reading, nothing, ahead, go_on, read_up_to, SameToEnd}
use Rattle.rules.proofs.Laws.{got≢stops, waiting?, by_fit, read_fits, read_past, taking_stops, waits_iff}

-- a field that ends past the bytes, and one behind a field that fits
missing : {A : Type 0} (may : Bool) (w : ℕ) (k : List ℕ → Rule A) (bs : List ℕ) → length bs < w → AtEnd (field may w k) bs (stops (lacks true may bs))
unfolding EndsBefore
missing true w k [] h = inl (inl (refl, refl, h), refl)
missing true w k (b ∷ bs) h = inr (elim [ inl q ↦ absurd (omega (arith, ap length q.1)) | inr q ↦ omega arith ], refl)
missing false w k bs h = inr (elim [ inl q ↦ false≢true (cc q.0) | inr q ↦ omega arith ], refl)

behind : {A : Type 0} (may : Bool) (w : ℕ) (k : List ℕ → Rule A) (bs : List ℕ) {y : Read A} → w ≤ length bs → AtEnd (k (take w bs)) (drop w bs) y → AtEnd (field may w k) bs (taking w y)
unfolding EndsBefore
behind may w k bs {y} h (inl p) = inl (inr (h, p.0), (taking_stops w y finished).1 p.1)
behind may w k bs {y} h (inr p) = inr (elim [ inl q ↦ absurd (omega (arith, ap length q.1)) | inr q ↦ p.0 q.1 ], (taking_stops w y (refused 14)).1 p.1)

pub told_last : {A : Type 0} (r : Rule A) (bs : List ℕ) → ToldLast r bs
unfolding read EndsPast EndsBefore
told_last (gives a) bs = record { agrees = λ _. refl; differs = λ h. absurd h }
told_last (refuses c) bs = record { agrees = λ _. refl; differs = λ h. absurd h }
told_last ends bs = record { agrees = λ _. refl; differs = λ h. absurd h }
told_last {A} (field may w k) bs = by_fit w bs (fits (told_last (k (take w bs)) (drop w bs))) past
  where
    fits : ToldLast (k (take w bs)) (drop w bs) → w ≤ length bs → ToldLast (field may w k) bs
    fits ih h = record {
      agrees = λ d. read_fits true may w k bs h ∙ ap (taking w) (ih.agrees (λ e. d (inr (h, e)))) ∙ sym (read_fits false may w k bs h);
      differs = elim [ inl l ↦ absurd (omega arith) | inr p ↦ subst (AtEnd (field may w k) bs) (sym (read_fits true may w k bs h)) (behind may w k bs h (ih.differs p.1)) ];
    }

    past : length bs < w → ToldLast (field may w k) bs
    past h = record { agrees = λ d. absurd (d (inl h)); differs = λ _. subst (AtEnd (field may w k) bs) (sym (read_past true may w k bs h)) (missing may w k bs h) }

-- every answer but 'more bytes' is the same, told last
lasts : {A : Type 0} (r : Rule A) (bs : List ℕ) (x : Read A) → read false r bs ≡ x → ¬ (x ≡ stops more_bytes) → read true r bs ≡ x
lasts r bs x e d = (told_last r bs).agrees (λ p. d (sym e ∙ (waits_iff r bs).1 p)) ∙ e

-- ---- a reading of several records

module _ {S R : Type 0} where
  same : (s : Reading S R) → ¬ (s.closing ≡ stopped more_bytes) → SameToEnd s s
  same s d = record { records = refl; consumed = refl; state = refl; closing = λ _. refl; at_end = λ w. absurd (d w) }

  same_ahead : (r : R) (n : ℕ) (s t : Reading S R) → SameToEnd s t → SameToEnd (ahead r n s) (ahead r n t)
  same_ahead r n s t h = record { records = ap (λ l. r ∷ l) h.records; consumed = cc h.consumed; state = h.state; closing = h.closing; at_end = h.at_end }

  same_waiting : (st : S) (r : Rule (Item S R)) (bs : List ℕ) (onward : S → List ℕ → Reading S R) → AtEnd r bs (read true r bs) → SameToEnd (nothing st (stopped more_bytes)) (go_on st bs onward (read true r bs))
  same_waiting st r bs onward (inl p) = rw p.1 (record { records = refl; consumed = refl; state = refl; closing = λ d. absurd (d refl); at_end = λ _. inl refl })
  same_waiting st r bs onward (inr p) = rw p.1 (record { records = refl; consumed = refl; state = refl; closing = λ d. absurd (d refl); at_end = λ _. inr refl })

module _ {S R : Type 0} (rule : S → Rule (Item S R)) where
  pub same_to_end : (n : ℕ) (st : S) (bs : List ℕ) → SameToEnd (read_up_to rule false n st bs) (read_up_to rule true n st bs)
  unfolding read_up_to
  same_to_end zero st bs = same (nothing st full) λ e. false≢true cc
  same_to_end (suc n) st bs = go (λ st' bs'. same_to_end n st' bs') (read false (rule st) bs) refl
    where
      onward : Bool → S → List ℕ → Reading S R
      onward last = read_up_to rule last n

      waits : (z : Stop) → read false (rule st) bs ≡ stops z → (z ≡ more_bytes) ⊎ (¬ (z ≡ more_bytes)) → SameToEnd (nothing st (stopped z)) (go_on st bs (onward true) (read true (rule st) bs))
      waits z e (inl w) = rw w (same_waiting st (rule st) bs (onward true) ((told_last (rule st) bs).differs ((waits_iff (rule st) bs).0 (e ∙ ap stops w))))
      waits z e (inr d) = rw (lasts (rule st) bs (stops z) e (λ q. d (cc))) (same (nothing st (stopped z)) λ q. d (cc))

      go : ((st' : S) (bs' : List ℕ) → SameToEnd (onward false st' bs') (onward true st' bs')) → (x : Read (Item S R)) → read false (rule st) bs ≡ x →
          SameToEnd (go_on st bs (onward false) x) (go_on st bs (onward true) (read true (rule st) bs))
      go ih (got x k) e =
          rw (lasts (rule st) bs (got x k) e (λ q. got≢stops q))
          (same_ahead x.shows k (onward false x.after (drop k bs)) (onward true x.after (drop k bs)) (ih x.after (drop k bs)))
      go ih (stops z) e = waits z e (waiting? z)
