-- A rule that gives nothing before it has taken a byte: its outcomes take some.
use mathlib.Core.Path.{◌≡◌, sym, ap, ◌∙◌}
use mathlib.Core.Bool.{Bool, true, false, cond}
use mathlib.Core.List.{List}
use Prim.Native.Nat.{ℕ, ◌+◌, ◌≤◌, ◌<◌}
use native.Mathlib.Omega.{arith}
use lib.ListN.{length, take, drop}
use Rattle.rules.specs.Rule.{Rule, field, refuses, ends, Read, got, stops, taking, read, ◌>>=◌, bytes_as, may_end, map_rule}
use Rattle.rules.proofs.Laws.{got≢stops, by_fit, read_fits, read_past}

pub data Takes {A : Type 0} : Rule A → Type 0 where
  first : {may : Bool} {w : ℕ} {k : List ℕ → Rule A} → 0 < w → Takes (field may w k)
  refusal : {c : ℕ} → Takes (refuses c)
  end : Takes ends

pub takes_cond : {A : Type 0} (b : Bool) {r s : Rule A} → Takes r → Takes s → Takes (cond b r s)
takes_cond true p q = p
takes_cond false p q = q

pub takes_number : {A B : Type 0} (w : ℕ) (g : List ℕ → A) (f : A → Rule B) → 0 < w → Takes (bytes_as w g >>= f)
unfolding ◌>>=◌
takes_number w g f h = first h

pub takes_map : {A B : Type 0} (f : A → B) {r : Rule A} → Takes r → Takes (map_rule f r)
unfolding ◌>>=◌
takes_map f (first h) = first h
takes_map f refusal = refusal
takes_map f end = end

pub takes_may_end : {A : Type 0} {r : Rule A} → Takes r → Takes (may_end r)
takes_may_end (first h) = first h
takes_may_end refusal = refusal
takes_may_end end = end

-- how many bytes an outcome took
abbrev taken_by : {A : Type 0} → Read A → ℕ
taken_by (got a n) = n
taken_by (stops z) = 0

pub takes_some : {A : Type 0} {r : Rule A} → Takes r → (last : Bool) (bs : List ℕ) {a : A} {n : ℕ} → read last r bs ≡ got a n → 0 < n
unfolding read
takes_some {A} (first {may = may} {w = w} {k = k} h) last bs {a} {n} e = by_fit w bs fits past
  where
    behind : (x : Read A) → taking w x ≡ got a n → 0 < n
    behind (got b m) q = let size : w + m ≡ n = ap taken_by q in omega arith
    behind (stops z) q = absurd (got≢stops (sym q))

    fits : w ≤ length bs → 0 < n
    fits l = behind (read last (k (take w bs)) (drop w bs)) (sym (read_fits last may w k bs l) ∙ e)

    past : length bs < w → 0 < n
    past l = absurd (got≢stops (sym e ∙ read_past last may w k bs l))
takes_some refusal last bs e = absurd (got≢stops (sym e))
takes_some end last bs e = absurd (got≢stops (sym e))
