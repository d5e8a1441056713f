-- Whole numbers in floats, and what is added up of them: in doubles as a state has it, and in whole numbers never rounded.
use Rattle.std.specs.Prelude.{◌≡◌, ℕ, ◌-◌, ◌^◌, ◌<◌, ◌≤◌, Bool, true, false, T, List, [], ◌∷◌, length, ℤ, pos, negsuc, ◌+ℤ◌, ◌-ℤ◌, ◌*ℤ◌, unsigned_abs, Float}
use mathlib.Core.List.{foldl}
use Rattle.std.specs.Float.{fin, Format, binary64}
use Rattle.std.specs.Float.Ieee.{prec, unlike, add, sub, mul, of_int}
use Rattle.std.specs.Float.Ieee.Exact.{HasValue}

-- x is exactly the whole number z. The equation alone is also true of a z that was rounded: none up to 2 ^ prec is
pub record IsWhole (f : Format) (x : Float) (z : ℤ) : Type 0 where
  pub equal : x ≡ of_int f z
  pub small : unsigned_abs z ≤ 2 ^ prec f

-- ---- sums, over any arithmetic

pub record Arithmetic (X : Type 0) : Type 0 where
  pub whole : ℤ → X
  pub plus : X → X → X
  pub times : X → X → X

abbrev pub floats : Format → Arithmetic Float
floats f = record { whole = of_int f; plus = add f; times = mul f }

abbrev pub doubles : Arithmetic Float
doubles = floats binary64

abbrev pub wholes : Arithmetic ℤ
wholes = record { whole = λ z. z; plus = ◌+ℤ◌; times = ◌*ℤ◌ }

pub record Sum (X : Type 0) : Type 0 where
  pub slope : X
  pub value : X

-- a value with slope 0
abbrev pub flat : {X : Type 0} → Arithmetic X → X → Sum X
flat a x = record { slope = a.whole (pos 0); value = x }

-- document 01, MWD: 'else add'
abbrev pub added : {X : Type 0} → Arithmetic X → X → ℤ → X
added a x v = a.plus x (a.whole v)

-- document 01, FID: 'slope += v, value += slope'
abbrev pub sloped : {X : Type 0} → Arithmetic X → Sum X → ℤ → Sum X
sloped a s v = let d = added a s.slope v in record { slope = d; value = a.plus s.value d }

-- document 01, FID: 'value high × 65534 + low, slope 0 (a restart)'
abbrev pub restarted : {X : Type 0} → Arithmetic X → ℤ → ℕ → Sum X
restarted a high low = flat a (added a (a.times (a.whole high) (a.whole (pos 65534))) (pos low))

-- ---- the theorem

abbrev pub negative : ℤ → Bool
negative (pos n) = false
negative (negsuc n) = true

-- none is larger than d
abbrev pub Bounded : ℕ → List ℤ → Type 0
Bounded d [] = Unit
Bounded d (v ∷ vs) = (unsigned_abs v ≤ d) × Bounded d vs

-- Of two whole numbers, a result in range is exact. A zero from a sum or a difference is +0, as the whole number 0 is;
-- from a product of unlike signs it is -0, and no whole number
pub record ExactOn (f : Format) (x y : Float) (a b : ℤ) : Type 0 where
  pub sums : unsigned_abs (a +ℤ b) ≤ 2 ^ prec f → IsWhole f (add f x y) (a +ℤ b)
  pub differences : unsigned_abs (a -ℤ b) ≤ 2 ^ prec f → IsWhole f (sub f x y) (a -ℤ b)
  pub products : unsigned_abs (a *ℤ b) ≤ 2 ^ prec f → (T (unlike (negative a) (negative b)) → 0 < unsigned_abs (a *ℤ b)) → IsWhole f (mul f x y) (a *ℤ b)
  pub cancels : a +ℤ b ≡ pos 0 → add f x y ≡ fin false 0 (pos 0)
  pub minus_zero : a *ℤ b ≡ pos 0 → T (unlike (negative a) (negative b)) → mul f x y ≡ fin true 0 (pos 0)

pub record ExactSums : Type 0 where
  -- a whole number's float has its sign and its size
  pub values : (f : Format) (x : Float) (z : ℤ) → IsWhole f x z → HasValue x (negative z) (unsigned_abs z) 1
  pub zero_is : (f : Format) → of_int f (pos 0) ≡ fin false 0 (pos 0)
  pub operations : (f : Format) (x y : Float) (a b : ℤ) → IsWhole f x a → IsWhole f y b → ExactOn f x y a b
  -- i16 deltas, added up; with one more the sum can pass 2 ^ 53
  pub running : (s : ℤ) (vs : List ℤ) → Bounded 32768 vs → length vs ≤ 2 ^ 32 → unsigned_abs s ≤ 2 ^ 53 - 2 ^ 47
      → IsWhole binary64 (foldl (added doubles) (of_int binary64 s) vs) (foldl (added wholes) s vs)
  -- added up twice; with one more the value can pass 2 ^ 53
  pub sloping : (s : ℤ) (vs : List ℤ) → Bounded 32768 vs → length vs ≤ 524288 → unsigned_abs s ≤ 2 ^ 52 - 2 ^ 33 →
      let x = foldl (sloped doubles) (flat doubles (of_int binary64 s)) vs in
      let w = foldl (sloped wholes) (flat wholes s) vs in
      IsWhole binary64 x.slope w.slope × IsWhole binary64 x.value w.value
  -- a restart, by an i32 and a u16, is such a start
  pub restarts : (high : ℤ) (low : ℕ) → unsigned_abs high ≤ 2 ^ 31 → low < 65536 →
      let w = restarted wholes high low in
      IsWhole binary64 (restarted doubles high low).value w.value × (unsigned_abs w.value ≤ 2 ^ 47)
