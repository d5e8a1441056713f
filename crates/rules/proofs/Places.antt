-- A rule read from a place in the bytes on, as code reads it: the places are counted from the first byte.
use mathlib.Core.Path.{◌≡◌, refl, sym, ap, ◌∙◌}
use mathlib.Core.Bool.{Bool, true, false}
use mathlib.Core.List.{List, [], ◌∷◌}
use Prim.Native.Nat.{ℕ, ◌+◌, ◌≤◌, ◌<◌}
use native.Mathlib.Nat.{add-zero}
use native.Mathlib.Omega.{arith}
use lib.ListN.{length, take, drop, length-drop}
use lib.Seq.{drop-drop}
use Rattle.rules.specs.Rule.{Rule, gives, field, refuses, ends, Stop, got, stops, taking, lacks, read, read_at, ◌>>=◌, bytes_as, may_end}
use Rattle.rules.proofs.Laws.{by_fit, read_fits, read_past, taking_none, taking_twice}

pub at_start : {A : Type 0} (last : Bool) (r : Rule A) (s : List ℕ) → read_at last r 0 s ≡ read last r s
at_start last r s = taking_none (read last r s)

pub at_gives : {A : Type 0} (last : Bool) (a : A) (at : ℕ) (s : List ℕ) → read_at last (gives a) at s ≡ got a at
unfolding read
at_gives last a at s = ap (got a) (add-zero at)

-- a field that fits
pub at_field : {A : Type 0} (last may : Bool) (w : ℕ) (k : List ℕ → Rule A) (at : ℕ) (s : List ℕ) → at + w ≤ length s → read_at last (field may w k) at s ≡ read_at last (k (take w (drop at s))) (at + w) s
at_field last may w k at s h =
    ap (taking at) (read_fits last may w k (drop at s) (omega (arith, length-drop at s)))
    ∙ taking_twice at w (read last (k (take w (drop at s))) (drop w (drop at s)))
    ∙ ap (λ bs. taking (at + w) (read last (k (take w (drop at s))) bs)) (drop-drop w at s)

pub at_number : {A B : Type 0} (last : Bool) (w : ℕ) (g : List ℕ → A) (f : A → Rule B) (at : ℕ) (s : List ℕ) → at + w ≤ length s →
    read_at last (bytes_as w g >>= f) at s ≡ read_at last (f (g (take w (drop at s)))) (at + w) s
unfolding ◌>>=◌
at_number last w g f at s h = at_field last false w (λ bs. f (g bs)) at s h

-- ---- a rule that is cut

-- what is answered where a field is cut before which the file may not end
abbrev pub cut : Bool → Stop
cut last = lacks last false []

lacks_cut : (last : Bool) (bs : List ℕ) → lacks last false bs ≡ cut last
lacks_cut true bs = refl
lacks_cut false bs = refl

-- a rule that takes at least n bytes, whatever they say
pub data AtLeast {A : Type 0} : ℕ → Rule A → Type 0 where
  none : {r : Rule A} → AtLeast 0 r
  more : {w n : ℕ} {k : List ℕ → Rule A} → ((bs : List ℕ) → AtLeast n (k bs)) → AtLeast (w + n) (field false w k)

pub more_number : {A B : Type 0} (w n : ℕ) (g : List ℕ → A) (f : A → Rule B) → ((a : A) → AtLeast n (f a)) → AtLeast (w + n) (bytes_as w g >>= f)
unfolding ◌>>=◌
more_number w n g f h = more λ bs. h (g bs)

read_cut : {A : Type 0} {n : ℕ} {r : Rule A} → AtLeast n r → (last : Bool) (bs : List ℕ) → length bs < n → read last r bs ≡ stops (cut last)
read_cut none last bs h = absurd (omega arith)
read_cut (more {w = w} {n = n} {k = k} f) last bs h =
    by_fit w bs
    (λ l. read_fits last false w k bs l ∙ ap (taking w) (read_cut (f (take w bs)) last (drop w bs) (omega (arith, length-drop w bs))))
    (λ l. read_past last false w k bs l ∙ ap stops (lacks_cut last bs))

pub at_cut : {A : Type 0} {n : ℕ} {r : Rule A} → AtLeast n r → (last : Bool) (at : ℕ) (s : List ℕ) → at ≤ length s → length s < at + n → read_at last r at s ≡ stops (cut last)
at_cut m last at s l h = ap (taking at) (read_cut m last (drop at s) (omega (arith, length-drop at s)))

-- ---- a rule before which the file may end

lacks_some : (last may : Bool) (b : ℕ) (bs : List ℕ) → lacks last true (b ∷ bs) ≡ lacks last may (b ∷ bs)
lacks_some true true b bs = refl
lacks_some true false b bs = refl
lacks_some false may b bs = refl

-- where bytes are left it makes no difference
pub may_end_some : {A : Type 0} (last : Bool) (r : Rule A) (s : List ℕ) → 0 < length s → read last (may_end r) s ≡ read last r s
may_end_some last (gives a) s h = refl
may_end_some last (refuses c) s h = refl
may_end_some last ends s h = refl
may_end_some last (field may w k) [] h = absurd (omega arith)
may_end_some last (field may w k) (b ∷ bs) h =
    by_fit w (b ∷ bs)
    (λ l. read_fits last true w k (b ∷ bs) l ∙ sym (read_fits last may w k (b ∷ bs) l))
    (λ l. read_past last true w k (b ∷ bs) l ∙ ap stops (lacks_some last may b bs) ∙ sym (read_past last may w k (b ∷ bs) l))

-- where none are left: 'finished' if they are the last, else 'more bytes'
pub may_end_none : {A : Type 0} (last : Bool) (w : ℕ) (k : List ℕ → Rule A) (s : List ℕ) → 0 < w → length s ≡ 0 → read last (may_end (field false w k)) s ≡ stops (lacks last true [])
may_end_none last w k [] h e = read_past last true w k [] h
may_end_none last w k (b ∷ bs) h e = absurd (omega arith)
