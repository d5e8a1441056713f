-- Two rules with the same fields, and outcomes that belong together.
use mathlib.Core.Path.{◌≡◌, refl, ap}
use mathlib.Core.Bool.{Bool, true, false, cond}
use mathlib.Core.List.{List}
use Prim.Native.Nat.{ℕ, ◌+◌}
use lib.ListN.{take, drop}
use Rattle.rules.specs.Rule.{Rule, gives, field, refuses, ends, Read, got, stops, taking, read, ◌>>=◌, map_rule}
use Rattle.rules.proofs.Laws.{by_fit, read_fits, read_past}

pub data Alike {A B : Type 0} (R : A → B → Type 0) : Rule A → Rule B → Type 0 where
  both_give : {a : A} {b : B} → R a b → Alike R (gives a) (gives b)
  both_field : {may : Bool} {w : ℕ} {k : List ℕ → Rule A} {l : List ℕ → Rule B} → ((bs : List ℕ) → Alike R (k bs) (l bs)) → Alike R (field may w k) (field may w l)
  both_refuse : {c : ℕ} → Alike R (refuses c) (refuses c)
  both_end : Alike R ends ends

-- what they read
abbrev pub Matches : {A B : Type 0} → (A → B → Type 0) → Read A → Read B → Type 0
Matches R (got a n) (got b m) = R a b × (n ≡ m)
Matches R (got a n) (stops z) = ⊥
Matches R (stops y) (got b m) = ⊥
Matches R (stops y) (stops z) = y ≡ z

module _ {A B : Type 0} (R : A → B → Type 0) where
  taking_both : (w : ℕ) (x : Read A) (y : Read B) → Matches R x y → Matches R (taking w x) (taking w y)
  taking_both w (got a n) (got b m) p = (p.0, ap (λ k. w + k) p.1)
  taking_both w (got a n) (stops z) p = p
  taking_both w (stops y) (got b m) p = p
  taking_both w (stops y) (stops z) p = p

  pub alike_reads : {r : Rule A} {q : Rule B} (last : Bool) → Alike R r q → (bs : List ℕ) → Matches R (read last r bs) (read last q bs)
  alike_reads last (both_give p) bs = unfold read in (p, refl)
  alike_reads last both_refuse bs = unfold read in refl
  alike_reads last both_end bs = unfold read in refl
  alike_reads last (both_field {may = may} {w = w} {k = k} {l = l} h) bs =
      by_fit w bs
      (λ f. rw (read_fits last may w k bs f, read_fits last may w l bs f) (taking_both w (read last (k (take w bs)) (drop w bs)) (read last (l (take w bs)) (drop w bs)) (alike_reads last (h (take w bs)) (drop w bs))))
      (λ f. rw (read_past last may w k bs f, read_past last may w l bs f) refl)

-- one rule, its outcomes taken once and twice
pub alike_mapped : {A B C D : Type 0} {R : B → D → Type 0} (f : A → B) (h : A → C) (g : C → D) (r : Rule A) → ((a : A) → R (f a) (g (h a))) → Alike R (map_rule f r) (map_rule g (map_rule h r))
unfolding ◌>>=◌
alike_mapped f h g (gives a) p = both_give (p a)
alike_mapped f h g (field may w k) p = both_field λ bs. alike_mapped f h g (k bs) p
alike_mapped f h g (refuses c) p = both_refuse
alike_mapped f h g ends p = both_end

-- outcomes made of both
pub alike_both : {A B C D : Type 0} {Q : A → B → Type 0} {R : C → D → Type 0} (f : A → C) (g : B → D) {r : Rule A} {q : Rule B} → Alike Q r q → ((a : A) (b : B) → Q a b → R (f a) (g b)) → Alike R (map_rule f r) (map_rule g q)
unfolding ◌>>=◌
alike_both f g (both_give {a = a} {b = b} p) h = both_give (h a b p)
alike_both f g (both_field e) h = both_field λ bs. alike_both f g (e bs) h
alike_both f g both_refuse h = both_refuse
alike_both f g both_end h = both_end

-- one of two, by the same test
pub alike_cond : {A B C : Type 0} {R : A → C → Type 0} (b : Bool) {x y : Rule A} (u v : Rule B) (g : B → C) → Alike R x (map_rule g u) → Alike R y (map_rule g v) → Alike R (cond b x y) (map_rule g (cond b u v))
alike_cond true u v g p q = p
alike_cond false u v g p q = q
