-- What a change keeps: the double is the whole number, as long as the deltas are not too many.
use mathlib.Core.Path.{◌≡◌, refl, sym, ap, subst}
use mathlib.Core.List.{List, [], ◌∷◌, ◌++◌, foldl}
use Prim.Native.Nat.{ℕ, ◌^◌, ◌≤◌}
use native.Mathlib.Omega.{arith}
use lib.IntN.{ℤ, pos, nat_abs}
use lib.Ieee.{Float, binary64}
use Rattle.floats.specs.Wholes.{Sum, flat, doubles, wholes}
use Rattle.floats.proofs.Running.{Running, running_start, running_step, Sloping, sloping_start}
use Rattle.streams.specs.Changes.{Change, clears, adds, slopes, becomes, restarts, changed, after}
use Rattle.floats.specs.Doubles.{double}
use Rattle.whole.specs.Whole.{deltas_after}

-- ---- added up: MWD, DAD and UV; MS only sets

abbrev pub Adds : Sum Float → Sum ℤ → ℕ → Type 0
Adds s w n = Running binary64 (2 ^ 31) (2 ^ 15) s.value w.value n

pub adds_start : {s : Sum Float} → s ≡ flat doubles (double 0) → Adds s (flat wholes (pos 0)) 0
adds_start e = running_start (omega arith) (ap (λ s. s.value) e)

-- by an i16 or an i32
abbrev pub Fair : Change → Type 0
Fair clears = Unit
Fair (adds v) = nat_abs v ≤ 2 ^ 15
Fair (slopes v) = ⊥
Fair (becomes z) = nat_abs z ≤ 2 ^ 31
Fair (restarts high low) = ⊥

adds_on : (c : Change) (s : Sum Float) (w : Sum ℤ) (n : ℕ) → Fair c → Adds s w n → Adds (changed doubles s c) (changed wholes w c) (deltas_after n c)
adds_on clears s w n f h = running_start (omega arith) refl
adds_on (adds v) s w n f h = running_step v f h
adds_on (slopes v) s w n f h = absurd f
adds_on (becomes z) s w n f h = running_start f refl
adds_on (restarts high low) s w n f h = absurd f

abbrev pub AllFair : List Change → Type 0
AllFair [] = Unit
AllFair (c ∷ cs) = Fair c × AllFair cs

pub all_fair : (cs : List Change) (c : Change) → AllFair cs → Fair c → AllFair (cs ++ (c ∷ []))
all_fair [] c a f = (f, tt)
all_fair (b ∷ cs) c a f = (a.0, all_fair cs c a.1 f)

pub adds_all : (cs : List Change) (s : Sum Float) (w : Sum ℤ) (n : ℕ) → AllFair cs → Adds s w n → Adds (after doubles s cs) (after wholes w cs) (foldl deltas_after n cs)
adds_all [] s w n f h = h
adds_all (c ∷ cs) s w n f h = adds_all cs (changed doubles s c) (changed wholes w c) (deltas_after n c) f.1 (adds_on c s w n f.0 h)

-- ---- added up twice: FID

abbrev pub Slopes : Sum Float → Sum ℤ → ℕ → Type 0
Slopes s w n = Sloping binary64 (2 ^ 47) (2 ^ 15) s w n

pub slopes_start : {s : Sum Float} → s ≡ flat doubles (double 0) → Slopes s (flat wholes (pos 0)) 0
slopes_start e = subst (λ s. Slopes s (flat wholes (pos 0)) 0) (sym e) (sloping_start (omega arith) refl)
