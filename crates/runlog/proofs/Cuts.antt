-- However the bytes come in, a rule reads what it reads through the buffer; and the log is one.
use mathlib.Core.Path.{◌≡◌, refl, sym, ap, ap₂, ◌∙◌, subst, subst₂}
use mathlib.Core.Bool.{Bool, true, false, false≢true}
use mathlib.Core.List.{List, [], ◌∷◌, ◌++◌, append-nil}
use Prim.Native.Nat.{ℕ, ◌+◌, ◌-◌, ◌≤◌, ◌<◌}
use native.Mathlib.Omega.{arith}
use borrow.Author.Tests.{ltb-true, ltb-false, lt-ltb, le-ltb}
use borrow.Table.Steps.{cases as by}
use lib.Dec.{ltb}
use lib.ListN.{length, take, drop, take-append-drop, length-append, length-drop}
use lib.Seq.{take-append-add, take-append_seam, length-take-le}
use Rattle.rules.specs.Rule.{Rule, gives, field, refuses, ends, Stop, more_bytes, Read, got, stops, lacks, read}
use Rattle.rules.specs.Calls.{Item}
use Rattle.rules.proofs.Laws.{got≢stops, by_fit, read_fits, read_past, taking_stops, waits_iff, Keeps, keeps}
use Rattle.rules.proofs.Last.{told_last}
use Rattle.metadata.specs.Metadata.{Header}
use Rattle.chemstation.specs.Next.{rule}
use Rattle.streams.specs.declared.State.{State}
use Rattle.streams.specs.declared.Record.{Record}
use Rattle.streams.specs.declared.Mode.{Mode}
use Rattle.modes.specs.Modes.{open_by, begins_by}
use Rattle.lines.specs.Lines.{end_line}
use Rattle.runlog.specs.Log.{in_buffer, Reads, one_more, no_more, opened_text, LogOf, refused_run, opened_run, BeginsLog, no_header, same_records, OneLog}
use Rattle.runlog.proofs.Exists.{there}

-- ---- one reading

lacks_told : (may : Bool) (bs : List ℕ) → ¬ (lacks true may bs ≡ more_bytes)
lacks_told true [] e = false≢true cc
lacks_told true (b ∷ bs) e = false≢true cc
lacks_told false bs e = false≢true cc

-- told last, a rule never waits
pub never_waits : {A : Type 0} (r : Rule A) (bs : List ℕ) → ¬ (read true r bs ≡ stops more_bytes)
unfolding read
never_waits (gives a) bs e = got≢stops e
never_waits (refuses c) bs e = false≢true cc
never_waits ends bs e = false≢true cc
never_waits (field may w k) bs e = go (never_waits (k (take w bs)) (drop w bs))
  where
    go : ¬ (read true (k (take w bs)) (drop w bs) ≡ stops more_bytes) → ⊥
    go ih =
        by_fit w bs
        (λ h. ih ((taking_stops w (read true (k (take w bs)) (drop w bs)) more_bytes).0 (sym (read_fits true may w k bs h) ∙ e)))
        (λ h. lacks_told may bs (let q : stops (lacks true may bs) ≡ stops more_bytes = sym (read_past true may w k bs h) ∙ e in cc))

-- an answer but 'more bytes' stays, whatever comes behind
kept : {A : Type 0} (r : Rule A) (bs G : List ℕ) (x : Read A) → read false r bs ≡ x → ¬ (x ≡ stops more_bytes) → read false r (bs ++ G) ≡ x
kept {A} r bs G x e d = go x (subst (λ y. Keeps bs y (read false r (bs ++ G))) e (keeps r bs G)) d
  where
    go : (x : Read A) → Keeps bs x (read false r (bs ++ G)) → ¬ (x ≡ stops more_bytes) → read false r (bs ++ G) ≡ x
    go (got a n) k d = k.1
    go (stops z) k d = k (λ q. d (ap stops q))

kept_last : {A : Type 0} (r : Rule A) (bs G : List ℕ) (x : Read A) → read false r bs ≡ x → ¬ (x ≡ stops more_bytes) → read true r (bs ++ G) ≡ x
kept_last r bs G x e d = let k = kept r bs G x e d in (told_last r (bs ++ G)).agrees (λ p. d (sym k ∙ (waits_iff r (bs ++ G)).1 p)) ∙ k

-- the bytes at hand, bs, and those that have not come, G: none, where the end was told, and then the buffer was not full
pub record Behind (last : Bool) (size : ℕ) (bs G : List ℕ) : Type 0 where
  pub held : length bs ≤ size
  pub told : last ≡ true → (G ≡ []) × (length bs < size)

-- an answer but 'more bytes' on the bytes at hand is that through the buffer
pub in_buffer_lem : {A : Type 0} (last : Bool) (size : ℕ) (r : Rule A) (bs G : List ℕ) (x : Read A) → Behind last size bs G → read last r bs ≡ x → ¬ (x ≡ stops more_bytes) → in_buffer size r (bs ++ G) ≡ x
in_buffer_lem true size r bs G x b e d = let t = b.told refl in rw (t.0, append-nil bs, lt-ltb (length bs) size t.1) e
in_buffer_lem false size r bs G x b e d =
    by (ltb (length (bs ++ G)) size)
    (λ t. rw t (kept_last r bs G x e d))
    (λ t. rw (t, window) (kept r bs (take (size - length bs) G) x e d))
  where
    window : take size (bs ++ G) ≡ bs ++ take (size - length bs) G
    window = let k : size ≡ length bs + (size - length bs) = omega (arith, b.held) in ap (λ n. take n (bs ++ G)) k ∙ take-append-add bs G (size - length bs)

-- a full buffer that still waits
pub full_waits : {A : Type 0} (size : ℕ) (r : Rule A) (bs G : List ℕ) → length bs ≡ size → read false r bs ≡ stops more_bytes → in_buffer size r (bs ++ G) ≡ stops more_bytes
full_waits size r bs G h e =
    let t : ltb (length (bs ++ G)) size ≡ false = le-ltb (length (bs ++ G)) size (omega (arith, length-append bs G)) in
    let w : take size (bs ++ G) ≡ bs = ap (λ n. take n (bs ++ G)) (sym h) ∙ take-append_seam bs G in
    rw (t, w) e

-- ---- a larger buffer

larger_reads : {A : Type 0} (size more : ℕ) (r : Rule A) (bs : List ℕ) (x : Read A) → size ≤ more → in_buffer size r bs ≡ x → ¬ (x ≡ stops more_bytes) → in_buffer more r bs ≡ x
larger_reads size more r bs x h e d =
    by (ltb (length bs) size)
    (λ t. rw (lt-ltb (length bs) more (omega (arith, ltb-true (length bs) size t))) (rw t at e))
    (λ t.
    let n = length-take-le size bs (ltb-false (length bs) size t) in
    subst (λ l. in_buffer more r l ≡ x) (take-append-drop size bs)
    (in_buffer_lem false more r (take size bs) (drop size bs) x (record { held = omega arith; told = λ q. absurd (false≢true q) }) (rw t at e) d))

reads_larger : {size : ℕ} (more : ℕ) {st : State} {bs : List ℕ} {rs : List Record} {z : Stop} → size ≤ more → ¬ (z ≡ more_bytes) → Reads size st bs rs z → Reads more st bs rs z
reads_larger {size} more {st} {bs} h d (one_more {x = x} {n = n} e r) = one_more (larger_reads size more (rule st) bs (got x n) h e (λ q. got≢stops q)) (reads_larger more h d r)
reads_larger {size} more {st} {bs} h d (no_more {z = z} e) = no_more (larger_reads size more (rule st) bs (stops z) h e (λ q. d cc))

larger : (mode : Mode) (size more kind : ℕ) (F : List ℕ) (z : Stop) (t : List ℕ) → size ≤ more → LogOf mode size kind F z t → ¬ (z ≡ more_bytes) → LogOf mode more kind F z t
larger mode size more kind F z t h (refused_run e) d = refused_run (larger_reads size more (open_by mode kind) F (stops z) h e (λ q. d cc))
larger mode size more kind F z t h (opened_run {h = i} {n = n} e r) d = opened_run (larger_reads size more (open_by mode kind) F (got i n) h e (λ q. got≢stops q)) (reads_larger more h d r)

-- ---- one log only

-- where the rule gives a record, it is the first
pub reads_step : {size : ℕ} {cur : State} {left : List ℕ} {us : List Record} {z : Stop} (x : Item State Record) (n : ℕ) → Reads size cur left us z → in_buffer size (rule cur) left ≡ got x n →
    (vs : List Record) × (us ≡ x.shows ∷ vs) × Reads size x.after (drop n left) vs z
reads_step {size} {cur} {left} {us} {z} x n (one_more {x = y} {n = m} {rs = vs} e r) f =
    let same : y ≡ x = cc in
    let many : m ≡ n = cc in
    (vs, ap (λ (w : Item State Record). w.shows ∷ vs) same, subst₂ (λ (w : Item State Record) k. Reads size w.after (drop k left) vs z) same many r)
reads_step x n (no_more e) f = absurd (got≢stops (sym f ∙ e))

-- where it stops, there is none
pub reads_stop : {size : ℕ} {cur : State} {left : List ℕ} {us : List Record} {z : Stop} (y : Stop) → Reads size cur left us z → in_buffer size (rule cur) left ≡ stops y → (us ≡ []) × (z ≡ y)
reads_stop y (one_more e r) f = absurd (got≢stops (sym e ∙ f))
reads_stop y (no_more {z = z} e) f = let same : z ≡ y = cc in (refl, same)

reads_one : {size : ℕ} {st : State} {bs : List ℕ} {rs us : List Record} {y z : Stop} → Reads size st bs rs y → Reads size st bs us z → (rs ≡ us) × (y ≡ z)
reads_one (one_more {x = x} {n = n} e r) s = let p = reads_step x n s e in let q = reads_one r p.2 in (ap (λ l. x.shows ∷ l) q.0 ∙ sym p.1, q.1)
reads_one (no_more {z = z} e) s = let p = reads_stop z s e in (sym p.0, sym p.1)

-- a log where the opening gives a header
pub log_step : {mode : Mode} {size kind : ℕ} {F : List ℕ} {z : Stop} {u : List ℕ} (h : Header) (n : ℕ) → LogOf mode size kind F z u → in_buffer size (open_by mode kind) F ≡ got h n →
    (rs : List Record) × (u ≡ opened_text kind h rs z) × Reads size (begins_by mode kind h) (drop n F) rs z
log_step h n (refused_run e) f = absurd (got≢stops (sym f ∙ e))
log_step {mode} {size} {kind} {F} {z} h n (opened_run {h = i} {n = m} {rs = rs} e r) f =
    let same : i ≡ h = cc in
    let many : m ≡ n = cc in
    (rs, ap (λ x. opened_text kind x rs z) same, subst₂ (λ x k. Reads size (begins_by mode kind x) (drop k F) rs z) same many r)

pub log_stop : {mode : Mode} {size kind : ℕ} {F : List ℕ} {z : Stop} {u : List ℕ} (y : Stop) → LogOf mode size kind F z u → in_buffer size (open_by mode kind) F ≡ stops y → u ≡ end_line y 0
log_stop y (opened_run e r) f = absurd (got≢stops (sym e ∙ f))
log_stop y (refused_run {z = z} e) f = let same : z ≡ y = cc in ap (λ w. end_line w 0) same

pub one : (mode : Mode) (size kind : ℕ) (F : List ℕ) (y z : Stop) (t u : List ℕ) → LogOf mode size kind F y t → LogOf mode size kind F z u → t ≡ u
one mode size kind F y z t u (refused_run e) s = sym (log_stop y s e)
one mode size kind F y z t u (opened_run {h = h} {n = n} e r) s = let p = log_step h n s e in let q = reads_one r p.2 in ap₂ (opened_text kind h) q.0 q.1 ∙ sym p.1

-- ---- up to `e m`

reads_begin : {size more : ℕ} {st : State} {bs : List ℕ} {rs us : List Record} {y z : Stop} → size ≤ more → Reads size st bs rs z → Reads more st bs us y → (vs : List Record) × (us ≡ rs ++ vs)
reads_begin {size} {more} {st} {bs} h (one_more {x = x} {n = n} e r) s =
    let p = reads_step x n s (larger_reads size more (rule st) bs (got x n) h e (λ q. got≢stops q)) in
    let b = reads_begin h r p.2 in
    (b.0, p.1 ∙ ap (λ l. x.shows ∷ l) b.1)
reads_begin {us = us} h (no_more e) s = (us, refl)

log_begins : {mode : Mode} {size more kind : ℕ} {F : List ℕ} {y z : Stop} {t u : List ℕ} → size ≤ more → z ≡ more_bytes → LogOf mode size kind F z t → LogOf mode more kind F y u → BeginsLog kind y t u
log_begins {kind = kind} {y = y} {u = u} h m (refused_run e) s = subst (λ w. BeginsLog kind y (end_line w 0) u) (sym m) (no_header u)
log_begins {mode} {size} {more} {kind} {F} {y} {z} {t} {u} h m (opened_run {h = i} {n = n} {rs = rs} e r) s =
    let p = log_step i n s (larger_reads size more (open_by mode kind) F (got i n) h e (λ q. got≢stops q)) in
    let b = reads_begin h r p.2 in
    subst₂ (BeginsLog kind y) (ap (opened_text kind i rs) (sym m)) (sym (p.1 ∙ ap (λ l. opened_text kind i l y) b.1)) (same_records i rs b.0)

begins_so : (mode : Mode) (size more kind : ℕ) (F : List ℕ) (y : Stop) (t u : List ℕ) → size ≤ more → LogOf mode size kind F more_bytes t → LogOf mode more kind F y u → BeginsLog kind y t u
begins_so mode size more kind F y t u h l s = log_begins h refl l s

-- ---- all at hand

no_wait_reads : {A : Type 0} (size : ℕ) (r : Rule A) (bs : List ℕ) → length bs < size → ¬ (in_buffer size r bs ≡ stops more_bytes)
no_wait_reads size r bs h e = never_waits r bs (rw (lt-ltb (length bs) size h) at e)

records_no_wait : {size : ℕ} {st : State} {bs : List ℕ} {rs : List Record} {z : Stop} → length bs < size → Reads size st bs rs z → ¬ (z ≡ more_bytes)
records_no_wait {bs = bs} h (one_more {n = n} e r) q = records_no_wait (omega (arith, length-drop n bs)) r q
records_no_wait {size} {st} {bs} h (no_more e) q = no_wait_reads size (rule st) bs h (e ∙ ap stops q)

no_wait : (mode : Mode) (size kind : ℕ) (F : List ℕ) (z : Stop) (t : List ℕ) → length F < size → LogOf mode size kind F z t → ¬ (z ≡ more_bytes)
no_wait mode size kind F z t h (refused_run e) q = no_wait_reads size (open_by mode kind) F h (e ∙ ap stops q)
no_wait mode size kind F z t h (opened_run {n = n} e r) q = records_no_wait (omega (arith, length-drop n F)) r q

pub one_log : OneLog
one_log = record { there = there; one = one; larger = larger; begins_so = begins_so; no_wait = no_wait }
