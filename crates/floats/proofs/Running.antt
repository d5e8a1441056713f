-- Running sums of whole numbers kept in floats: while no sum is beyond 2 ^ prec, the float is the whole number. One delta at a time, and for a list of them.
use Rattle.std.proofs.Common.{◌≡◌, ℕ, zero, suc, ◌+◌, ◌-◌, ◌*◌, ◌^◌, ◌<◌, ◌≤◌, false, T, List, [], ◌∷◌, length, ℤ, pos, negsuc, ◌+ℤ◌, ◌*ℤ◌, nat_abs, refl, suc-le-suc, le_trans, add-zero, add-suc, suc-mul, mul-le-mul, suc-add, mul-zero, mul-suc, mul-add, arith}
use mathlib.Core.List.{foldl}
use lib.Ieee.{Float, Format, binary64, prec, unlike, add, of_int}
use Rattle.std.proofs.lemmas.Int.{unsigned_abs-mul}
use Rattle.floats.specs.Wholes.{IsWhole, negative, ExactSums, floats, doubles, wholes, Sum, flat, sloped, added, restarted, Bounded}
use Rattle.floats.proofs.Sizes.{nat_abs_add_lem}
use Rattle.floats.proofs.Exact.{whole_of_lem, whole_value, zero_is, exactly}

-- ---- added up

-- after n deltas of at most d each, from a start of at most m
pub record Running (f : Format) (m d : ℕ) (x : Float) (z : ℤ) (n : ℕ) : Type 0 where
  pub size : nat_abs z ≤ m + d * n
  pub exact : m + d * n ≤ 2 ^ prec f → IsWhole f x z

pub running_start : {f : Format} {m d : ℕ} {x : Float} {z : ℤ} → nat_abs z ≤ m → x ≡ of_int f z → Running f m d x z 0
running_start h e = record { size = omega arith; exact = λ l. record { equal = e; small = omega arith } }

pub running_step : {f : Format} {m d : ℕ} {x : Float} {z : ℤ} {n : ℕ} (v : ℤ) → nat_abs v ≤ d → Running f m d x z n → Running f m d (add f x (of_int f v)) (z +ℤ v) (suc n)
running_step {f} {m} {d} {x} {z} {n} v h r =
    let e : d * suc n ≡ d * n + d = mul-suc d n in
    let b : nat_abs (z +ℤ v) ≤ m + d * suc n = omega (arith, nat_abs_add_lem z v, r.size) in
    record { size = b; exact = λ l. (exactly (r.exact (omega arith)) (whole_of_lem f v (omega arith))).sums (le_trans b l) }

-- ---- added up twice

-- each value is at most m + d + 2 d + .. + n d
pub record Sloping (f : Format) (m d : ℕ) (s : Sum Float) (w : Sum ℤ) (n : ℕ) : Type 0 where
  pub slopes : Running f 0 d s.slope w.slope n
  pub size : 2 * nat_abs w.value ≤ 2 * m + d * (n * suc n)
  pub exact : 2 * m + d * (n * suc n) ≤ 2 * 2 ^ prec f → IsWhole f s.value w.value

more : (d n : ℕ) → d * (suc n * suc (suc n)) ≡ d * (n * suc n) + 2 * (d * suc n)
more d n =
    let e : suc n * suc (suc n) ≡ n * suc n + (suc n + suc n) = omega (arith, mul-suc (suc n) (suc n), suc-mul n (suc n)) in
    rw (e, mul-add d (n * suc n) (suc n + suc n), mul-add d (suc n) (suc n)) (omega arith)

-- where the value is in range the slope is: the value's bound adds it
pub slope_exact : {f : Format} {m d : ℕ} {s : Sum Float} {w : Sum ℤ} {n : ℕ} → Sloping f m d s w n → 2 * m + d * (n * suc n) ≤ 2 * 2 ^ prec f → IsWhole f s.slope w.slope
slope_exact {f} {m} {d} {s} {w} {n} p l = p.slopes.exact (bound n l)
  where
    bound : (n : ℕ) → 2 * m + d * (n * suc n) ≤ 2 * 2 ^ prec f → 0 + d * n ≤ 2 ^ prec f
    bound zero l = omega (arith, mul-zero d)
    bound (suc n) l = omega (arith, more d n)

pub sloping_start : {f : Format} {m d : ℕ} {x : Float} {z : ℤ} → nat_abs z ≤ m → x ≡ of_int f z → Sloping f m d (flat (floats f) x) (flat wholes z) 0
sloping_start h e = record { slopes = running_start (omega arith) refl; size = omega arith; exact = λ l. record { equal = e; small = omega arith } }

pub sloping_step : {f : Format} {m d : ℕ} {s : Sum Float} {w : Sum ℤ} {n : ℕ} (v : ℤ) → nat_abs v ≤ d → Sloping f m d s w n
    → Sloping f m d (sloped (floats f) s v) (sloped wholes w v) (suc n)
sloping_step {f} {m} {d} {s} {w} {n} v h p =
    let r = running_step v h p.slopes in
    let e = more d n in
    let b : 2 * nat_abs (w.value +ℤ (w.slope +ℤ v)) ≤ 2 * m + d * (suc n * suc (suc n)) = omega (arith, nat_abs_add_lem w.value (w.slope +ℤ v), r.size, p.size) in
    record { slopes = r; size = b; exact = λ l. (exactly (p.exact (omega arith)) (r.exact (omega arith))).sums (omega arith) }

-- 2 ^ 19 deltas of 2 ^ 15 add up twice to 2 ^ 52 + 2 ^ 33
pub sloping_within : (m n : ℕ) → m ≤ 2 ^ 52 - 2 ^ 33 → n ≤ 524288 → 2 * m + 32768 * (n * suc n) ≤ 2 * 2 ^ 53
sloping_within m n h l = let q : n * suc n ≤ 524288 * 524289 = mul-le-mul l (suc-le-suc l) in omega arith

-- a restart, by an i32 and a u16, is a start
pub restart : {d : ℕ} (high : ℤ) (low : ℕ) → nat_abs high ≤ 2 ^ 31 → low < 65536 → Sloping binary64 (2 ^ 47) d (restarted doubles high low) (restarted wholes high low) 0
restart high low h l =
    let t : nat_abs (high *ℤ pos 65534) ≡ nat_abs high * 65534 = unsigned_abs-mul high (pos 65534) in
    let u = nat_abs_add_lem (high *ℤ pos 65534) (pos low) in
    let p = (exactly (whole_of_lem binary64 high (omega arith)) (whole_of_lem binary64 (pos 65534) (omega arith))).products (omega arith) (some high) in
    sloping_start (omega arith) ((exactly p (whole_of_lem binary64 (pos low) (omega arith))).sums (omega arith)).equal
  where
    some : (a : ℤ) → T (unlike (negative a) false) → 0 < nat_abs (a *ℤ pos 65534)
    some (pos a) t = absurd t
    some (negsuc a) t = omega (arith, unsigned_abs-mul (negsuc a) (pos 65534))

-- ---- a list of deltas

-- what each delta keeps, a list of them keeps
all_keep : {X Y : Type 0} (P : X → Y → ℕ → Type 0) (d : ℕ) (f : X → ℤ → X) (g : Y → ℤ → Y)
    → ((x : X) (y : Y) (n : ℕ) (v : ℤ) → nat_abs v ≤ d → P x y n → P (f x v) (g y v) (suc n))
    → (vs : List ℤ) (x : X) (y : Y) (n : ℕ) → Bounded d vs → P x y n → P (foldl f x vs) (foldl g y vs) (n + length vs)
all_keep P d f g step [] x y n b p = rw add-zero p
all_keep P d f g step (v ∷ vs) x y n b p = rw (add-suc n (length vs), ← suc-add n (length vs)) (all_keep P d f g step vs (f x v) (g y v) (suc n) b.1 (step x y n v b.0 p))

pub exact_sums : ExactSums
exact_sums = record {
  values = whole_value;
  zero_is = zero_is;
  operations = λ f x y a b. exactly;
  running = λ s vs b l h.
      let P = Running binary64 (2 ^ 53 - 2 ^ 47) 32768 in
      let p = all_keep P 32768 (added doubles) (added wholes) (λ x z n v. running_step v) vs (of_int binary64 s) s 0 b (running_start h refl) in
      p.exact (omega arith);
  sloping = λ s vs b l h.
      let P = Sloping binary64 (2 ^ 52 - 2 ^ 33) 32768 in
      let p = all_keep P 32768 (sloped doubles) (sloped wholes) (λ x w n v. sloping_step v) vs (flat doubles (of_int binary64 s)) (flat wholes s) 0 b (sloping_start h refl) in
      let e = sloping_within (2 ^ 52 - 2 ^ 33) (0 + length vs) (omega arith) (omega arith) in
      (slope_exact p e, p.exact e);
  restarts = λ high low h l. let r = restart {d = 0} high low h l in (r.exact (omega arith), omega (arith, r.size));
}
