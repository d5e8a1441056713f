-- Laws of `read`: a due field by whether it fits, rules one behind the other, mapped rules; what 'more bytes' says; and that bytes behind change nothing else.
use mathlib.Core.Path.{◌≡◌, refl, sym, ap, ◌∙◌, subst, subst₂}
use mathlib.Core.Logic.{◌↔◌, ◌⊎◌, inl, inr}
use mathlib.Core.Bool.{Bool, true, false, false≢true}
use mathlib.Core.List.{List, ◌++◌}
use Prim.Native.Nat.{ℕ, ◌+◌, ◌≤◌, ◌<◌}
use native.Mathlib.Nat.{zero-add, add-zero, add_assoc}
use native.Mathlib.Omega.{arith}
use lib.ListN.{length, take, drop, length-append, length-drop}
use lib.Seq.{take-append-le, drop-append-le, drop-drop}
use lib.Dec.{leb}
use borrow.Author.Tests.{leb-true, leb-false, le-leb, lt-leb}
use Rattle.rules.specs.Rule.{Rule, gives, field, refuses, ends, Stop, refused, finished, more_bytes, Read, got, stops, taking, lacks, read, EndsPast, ◌>>=◌, map_rule, map_read}

-- ---- answers are told apart

pub got≢stops : {A : Type 0} {a : A} {n : ℕ} {z : Stop} → ¬ (got a n ≡ stops z)
got≢stops e = false≢true cc

pub waiting? : (z : Stop) → (z ≡ more_bytes) ⊎ (¬ (z ≡ more_bytes))
waiting? (refused c) = inr λ e. false≢true cc
waiting? finished = inr λ e. false≢true cc
waiting? more_bytes = inl refl

-- ---- a due field

pub read_fits : {A : Type 0} (last may : Bool) (w : ℕ) (k : List ℕ → Rule A) (bs : List ℕ) → w ≤ length bs → read last (field may w k) bs ≡ taking w (read last (k (take w bs)) (drop w bs))
unfolding read
read_fits last may w k bs h = rw (le-leb w (length bs) h, read)

pub read_past : {A : Type 0} (last may : Bool) (w : ℕ) (k : List ℕ → Rule A) (bs : List ℕ) → length bs < w → read last (field may w k) bs ≡ stops (lacks last may bs)
unfolding read
read_past last may w k bs h = rw (lt-leb w (length bs) h, read)

-- to show something of a field, show it where the field fits and where it ends past the bytes
pub by_fit : (w : ℕ) (bs : List ℕ) {P : Type 0} → (w ≤ length bs → P) → (length bs < w → P) → P
by_fit w bs {P} f g = go (leb w (length bs)) refl
  where
    go : (b : Bool) → leb w (length bs) ≡ b → P
    go true e = f (leb-true w (length bs) e)
    go false e = g (leb-false w (length bs) e)

-- ---- bytes taken before

pub taking_none : {A : Type 0} (x : Read A) → taking 0 x ≡ x
taking_none (got a n) = ap (got a) (zero-add n)
taking_none (stops z) = refl

pub taking_twice : {A : Type 0} (v w : ℕ) (x : Read A) → taking v (taking w x) ≡ taking (v + w) x
taking_twice v w (got a n) = ap (got a) (sym (add_assoc v w n))
taking_twice v w (stops z) = refl

pub taking_stops : {A : Type 0} (w : ℕ) (x : Read A) (z : Stop) → (taking w x ≡ stops z) ↔ (x ≡ stops z)
taking_stops w (got a n) z = ((λ e. absurd (got≢stops e)), λ e. absurd (got≢stops e))
taking_stops w (stops y) z = ((λ e. e), λ e. e)

-- ---- one rule behind another

abbrev pub read_then : {A B : Type 0} → Bool → List ℕ → (A → Rule B) → Read A → Read B
read_then last bs f (got a n) = taking n (read last (f a) (drop n bs))
read_then last bs f (stops z) = stops z

pub read_then_lem : {A B : Type 0} (last : Bool) (r : Rule A) (f : A → Rule B) (bs : List ℕ) → read last (r >>= f) bs ≡ read_then last bs f (read last r bs)
unfolding read ◌>>=◌
read_then_lem last (gives a) f bs = sym (taking_none (read last (f a) bs))
read_then_lem last (refuses c) f bs = refl
read_then_lem last ends f bs = refl
read_then_lem {A} last (field may w k) f bs = field_by_lem (read_then_lem last (k (take w bs)) f (drop w bs))
  where
    behind : (x : Read A) → taking w (read_then last (drop w bs) f x) ≡ read_then last bs f (taking w x)
    behind (got a n) = taking_twice w n (read last (f a) (drop n (drop w bs))) ∙ rw drop-drop refl
    behind (stops z) = refl

    field_by_lem : read last (k (take w bs) >>= f) (drop w bs) ≡ read_then last (drop w bs) f (read last (k (take w bs)) (drop w bs)) →
        read last (field may w k >>= f) bs ≡ read_then last bs f (read last (field may w k) bs)
    field_by_lem ih =
        by_fit w bs
        (λ h. read_fits last may w (λ v. k v >>= f) bs h ∙ ap (taking w) ih ∙ behind (read last (k (take w bs)) (drop w bs)) ∙ ap (read_then last bs f) (sym (read_fits last may w k bs h)))
        (λ h. read_past last may w (λ v. k v >>= f) bs h ∙ ap (read_then last bs f) (sym (read_past last may w k bs h)))

-- ---- a mapped rule reads the same fields

pub read_map : {A B : Type 0} (last : Bool) (f : A → B) (r : Rule A) (bs : List ℕ) → read last (map_rule f r) bs ≡ map_read f (read last r bs)
read_map {A} last f r bs = read_then_lem last r (λ a. gives (f a)) bs ∙ outcome (read last r bs)
  where
    outcome : (x : Read A) → read_then last bs (λ a. gives (f a)) x ≡ map_read f x
    outcome (got a n) = unfold read in ap (got (f a)) (add-zero n)
    outcome (stops z) = refl

-- ---- what was taken is there

pub taken_within : {A : Type 0} (last : Bool) (r : Rule A) (bs : List ℕ) {a : A} {n : ℕ} → read last r bs ≡ got a n → n ≤ length bs
unfolding read
taken_within last (gives b) bs {a} {n} e = let q : n ≡ 0 = cc in omega arith
taken_within last (refuses c) bs e = absurd (got≢stops (sym e))
taken_within last ends bs e = absurd (got≢stops (sym e))
taken_within {A} last (field may w k) bs {a} {n} e = field_by_lem (λ m q. taken_within last (k (take w bs)) (drop w bs) {n = m} q)
  where
    behind : ((m : ℕ) → read last (k (take w bs)) (drop w bs) ≡ got a m → m ≤ length (drop w bs)) → w ≤ length bs → (x : Read A) → read last (k (take w bs)) (drop w bs) ≡ x → taking w x ≡ got a n → n ≤ length bs
    behind ih h (got b m) q t =
        let p : n ≡ w + m = cc in
        let same : b ≡ a = cc in
        omega (arith, ih m (q ∙ ap (λ y. got y m) same), length-drop w bs)
    behind ih h (stops z) q t = absurd (got≢stops (sym t))

    field_by_lem : ((m : ℕ) → read last (k (take w bs)) (drop w bs) ≡ got a m → m ≤ length (drop w bs)) → n ≤ length bs
    field_by_lem ih =
        by_fit w bs
        (λ h. behind ih h (read last (k (take w bs)) (drop w bs)) refl (sym (read_fits last may w k bs h) ∙ e))
        (λ h. absurd (got≢stops (sym (sym (read_past last may w k bs h) ∙ e))))

-- ---- 'more bytes' is said exactly where a due field ends past the bytes

pub waits_iff : {A : Type 0} (r : Rule A) (bs : List ℕ) → (read false r bs ≡ stops more_bytes) ↔ EndsPast r bs
unfolding read EndsPast
waits_iff (gives a) bs = ((λ e. got≢stops e), λ h. absurd h)
waits_iff (refuses c) bs = ((λ e. false≢true cc), λ h. absurd h)
waits_iff ends bs = ((λ e. false≢true cc), λ h. absurd h)
waits_iff {A} (field may w k) bs = field_by_lem (waits_iff (k (take w bs)) (drop w bs))
  where
    onward : Read A
    onward = read false (k (take w bs)) (drop w bs)

    field_by_lem : (onward ≡ stops more_bytes) ↔ EndsPast (k (take w bs)) (drop w bs) → (read false (field may w k) bs ≡ stops more_bytes) ↔ EndsPast (field may w k) bs
    field_by_lem ih =
        by_fit w bs
        (λ h. (
          (λ e. inr (h, ih.0 ((taking_stops w onward more_bytes).0 (sym (read_fits false may w k bs h) ∙ e)))),
          elim [ inl l ↦ absurd (omega arith) | inr p ↦ read_fits false may w k bs h ∙ (taking_stops w onward more_bytes).1 (ih.1 p.1) ],
        ))
        (λ h. ((λ e. inl h), λ p. read_past false may w k bs h))

-- ---- more bytes behind

-- what was taken stood there and is read again; so is every stop but a wait for more
abbrev pub Keeps : {A : Type 0} → List ℕ → Read A → Read A → Type 0
Keeps F (got a n) y = (n ≤ length F) × (y ≡ got a n)
Keeps F (stops z) y = ¬ (z ≡ more_bytes) → y ≡ stops z

keeps_taking : {A : Type 0} (w : ℕ) (F : List ℕ) (x y : Read A) → w ≤ length F → Keeps (drop w F) x y → Keeps F (taking w x) (taking w y)
keeps_taking w F (got a n) y h k = (omega (arith, k.0, length-drop w F), ap (taking w) k.1)
keeps_taking w F (stops z) y h k = λ d. ap (taking w) (k d)

pub keeps : {A : Type 0} (r : Rule A) (F G : List ℕ) → Keeps F (read false r F) (read false r (F ++ G))
unfolding read
keeps (gives a) F G = (omega arith, refl)
keeps (refuses c) F G = λ _. refl
keeps ends F G = λ _. refl
keeps {A} (field may w k) F G = field_by_lem (keeps (k (take w F)) (drop w F) G)
  where
    onward : List ℕ → Read A
    onward bs = read false (k (take w F)) bs

    field_by_lem : Keeps (drop w F) (onward (drop w F)) (onward (drop w F ++ G)) → Keeps F (read false (field may w k) F) (read false (field may w k) (F ++ G))
    field_by_lem ih =
        by_fit w F
        (λ h.
        let more : read false (field may w k) (F ++ G) ≡ taking w (onward (drop w F ++ G)) =
        read_fits false may w k (F ++ G) (omega (arith, length-append F G)) ∙ rw (take-append-le w F G h, drop-append-le w F G h) refl in
        subst₂ (Keeps F) (sym (read_fits false may w k F h)) (sym more) (keeps_taking w F (onward (drop w F)) (onward (drop w F ++ G)) h ih))
        (λ h. subst (λ x. Keeps F x (read false (field may w k) (F ++ G))) (sym (read_past false may w k F h)) λ d. absurd (d refl))
