-- Laws of a tally: it stands for a total, each value that is added to it is added to that total, and it gives that total.
use mathlib.Core.Path.{◌≡◌, refl, sym, ap, ◌∙◌, subst}
use mathlib.Core.List.{List}
use Prim.Native.Nat.{ℕ, zero, suc, ◌+◌, ◌-◌, ◌*◌, ◌%◌, ◌^◌, ◌≤◌, ◌<◌}
use native.Mathlib.Nat.{pow-succ', mul-lt-mul_of_pos_right}
use native.Mathlib.Omega.{arith}
use mathlib.Core.Bool.{Bool, true, false, cond, ◌&&◌, false≢true}
use lib.Dec.{T, ltb, leb, eqb, ltb→lt, lt→ltb, leb→le, le→leb}
use lib.ListN.{length, drop, get_or}
use mir.Syntax.{w64}
use mir.Val.{SFits}
use lib.Pow.{pow_pos}
use borrow.Author.Tests.{ltb-true, lt-ltb}
use borrow.Table.Steps.{cases as by}
use lib.IntN.{ℤ, pos, negsuc, nat_abs, neg_ℤ, ◌+ℤ◌, ◌-ℤ◌, +ℤ_assoc, +ℤ_comm, +ℤ_idr, -ℤ-+ℤ_cancel}
use lib.Ieee.{Float, nan, inf, fin, binary64, low, up, down, round, add, sub, lt, le, eq, of_int, to_signed, in_float, in_signed, fits}
use lib.Ieee.Fits.{and_l, and_r, add-fits, of_int-fits, down_pos}
use lib.Ieee.Bits.{is_true}
use lib.Ieee.Exact.{HasValue}
use lib.Ieee.Back.{round_whole, whole_unique, positive_back, negative_back}
use lib.Ieee.Order.{le_of_values}
use lib.Ieee.Positive.{above, above_of_le, values_of_le}
use Rattle.floats.specs.Doubles.{double}
use Rattle.floats.specs.Wholes.{IsWhole}
use Rattle.floats.proofs.Exact.{exactly as exact_on, whole_of_lem, whole_value}
use Rattle.floats.proofs.Sizes.{nat_abs_add_lem}
use Rattle.std.specs.Prelude.{Some, None, Ok, Err}
use Rattle.sums.specs.Sums.{counts, whole_of, in64, AnyTotal, plus, total_from}
use Rattle.tally.specs.Tally.{middle, inside, roomy, beside_of, exactly, joined, is_amount, start_of, added_to, total_of}
use Rattle.tally.specs.declared.Tally.{Tally}
use Rattle.sums.proofs.Values.{eq_counts}
use Rattle.sums.proofs.Folds.{one_more, none_left}

-- ---- the two together

-- `near` and `far` stand for the total t: by far alone, or by far and how far near is from the middle
pub data Stands : Float → AnyTotal → AnyTotal → Type 0 where
  alone : {t : AnyTotal} → Stands nan t t
  beside : {x : Float} {n : ℕ} {a : ℤ} → IsWhole binary64 x (pos n) → 2 ^ 52 ≤ n → n < 2 ^ 53 → T (roomy a) → Stands x (Some (Ok a)) (Some (Ok (a +ℤ (pos n -ℤ pos middle))))

-- ---- tests

both : (p q : Bool) → p && q ≡ true → (p ≡ true) × (q ≡ true)
both true q h = (refl, h)
both false q h = absurd (false≢true h)

-- ---- a double from 2^52 to below 2^53 is a whole number

pub record Inside (x : Float) : Type 0 where
  pub n : ℕ
  pub is : IsWhole binary64 x (pos n)
  pub least : 2 ^ 52 ≤ n
  pub most : n < 2 ^ 53

two52 : double (2 ^ 52) ≡ fin false 1 (pos 52)
unfolding of_int
two52 = refl

two53 : double (2 ^ 53) ≡ fin false 1 (pos 53)
unfolding of_int
two53 = refl

-- the significand of a value that fits
significand : (m : ℕ) (e : ℤ) → T (fits binary64 (fin false (suc m) e)) → suc m < 2 ^ 53
unfolding fits
significand m e t =
    let a : Bool = eqb (suc m % 2) 1 in
    let b : Bool = ltb (suc m) (2 ^ 53) in
    let c : Bool = leb (down e) (2 ^ low binary64) in
    let d : Bool = ltb (suc m * up e) (2 ^ 1024 * down e) in
    ltb→lt (suc m) (2 ^ 53) (and_r a b (and_l (a && b) c (and_l (a && b && c) d t)))

whole_at : (m k : ℕ) → T (fits binary64 (fin false m (pos k))) → m * 2 ^ k ≤ 2 ^ 53 → IsWhole binary64 (fin false m (pos k)) (pos (m * 2 ^ k))
unfolding of_int
whole_at m k p h = record {
  equal = whole_unique binary64 (fin false m (pos k)) (round binary64 false (m * 2 ^ k) 1) false (m * 2 ^ k) p (of_int-fits binary64 (pos (m * 2 ^ k))) (refl, refl) (round_whole binary64 false (m * 2 ^ k) h);
  small = h;
}

wide : (k m : ℕ) → 2 ^ 52 * 2 ^ suc k ≤ m → 2 ^ 53 ≤ m
wide k m h = omega (arith, pow-succ' 2 k, pow_pos k)

inside_at : (m : ℕ) (e : ℤ) → T (fits binary64 (fin false (suc m) e)) → 2 ^ 52 * down e ≤ suc m * up e → suc m * up e < 2 ^ 53 * down e → Inside (fin false (suc m) e)
inside_at m (pos k) p l h = record { n = suc m * 2 ^ k; is = whole_at (suc m) k p (omega arith); least = omega arith; most = omega arith }
inside_at m (negsuc k) p l h = absurd (omega (arith, significand m (negsuc k) p, wide k (suc m) (omega arith)))

inside_above : (x : Float) → T (fits binary64 x) → T (above x) → T (le (fin false 1 (pos 52)) x) → lt x (fin false 1 (pos 53)) ≡ true → Inside x
unfolding lt
inside_above nan p a l h = absurd a
inside_above (inf true) p a l h = absurd a
inside_above (inf false) p a l h = absurd (false≢true h)
inside_above (fin true m e) p a l h = absurd a
inside_above (fin false zero e) p a l h = absurd a
inside_above (fin false (suc m) e) p a l h =
    inside_at m e p
    (omega (arith, values_of_le (fin false 1 (pos 52)) (fin false (suc m) e) (2 ^ 52) 1 (suc m * up e) (down e) tt a (refl, refl) (refl, refl) l))
    (omega (arith, ltb-true (suc m * up e * 1) (1 * 2 ^ 53 * down e) h))

pub inside_whole : (x : Float) → T (fits binary64 x) → inside x ≡ true → Inside x
inside_whole x p h =
    let b = both (le (double (2 ^ 52)) x) (lt x (double (2 ^ 53))) h in
    let l : le (fin false 1 (pos 52)) x ≡ true = rw two52 at b.0 in
    let t : T (le (fin false 1 (pos 52)) x) = subst T (sym l) tt in
    inside_above x p (above_of_le (fin false 1 (pos 52)) x tt t) t (rw two53 at b.1)

-- ---- whole numbers

gap : (a b w : ℕ) → a ≤ b + w → b ≤ a + w → nat_abs (pos a -ℤ pos b) ≤ w
gap a zero w h k = omega arith
gap a (suc b) w h k = go (ltb a (suc b)) (ltb-true a (suc b))
  where
    go : (x : Bool) → (x ≡ true → a < suc b) → nat_abs (cond x (negsuc (suc b - suc a)) (pos (a - suc b))) ≤ w
    go true t = omega (arith, t refl)
    go false t = omega arith

shift : (a n m k : ℤ) → (a +ℤ (n -ℤ m)) +ℤ (k -ℤ n) ≡ a +ℤ (k -ℤ m)
shift a n m k =
    +ℤ_assoc a (n -ℤ m) (k -ℤ n)
    ∙ ap (λ (z : ℤ). a +ℤ z) (+ℤ_comm (n -ℤ m) (k -ℤ n) ∙ sym (+ℤ_assoc (k -ℤ n) n (neg_ℤ m)) ∙ ap (λ (z : ℤ). z +ℤ neg_ℤ m) (-ℤ-+ℤ_cancel k n))

small_in64 : (z : ℤ) → nat_abs z < 2 ^ 63 → in64 z ≡ true
small_in64 (pos n) h = lt-ltb n (2 ^ 63) h
small_in64 (negsuc n) h = lt-ltb n (2 ^ 63) (omega arith)

-- a roomy total and a number inside
sum_in64 : (a : ℤ) (n : ℕ) → T (roomy a) → 2 ^ 52 ≤ n → n < 2 ^ 53 → in64 (a +ℤ (pos n -ℤ pos middle)) ≡ true
sum_in64 a n r l h =
    let d = pos n -ℤ pos middle in
    small_in64 (a +ℤ d) (omega (arith, nat_abs_add_lem a d, gap n middle (2 ^ 52) (omega arith) (omega arith), leb→le (nat_abs a) (2 ^ 62) r))

-- ---- how far a double inside is from the middle, as the machine casts it

cast_whole : (x : Float) (z : ℤ) → x ≡ of_int binary64 z → nat_abs z ≤ 2 ^ 52 → T (in_signed binary64 63 x) × (to_signed 63 x ≡ z)
unfolding in_float
cast_whole x (pos n) e h = rw e (positive_back binary64 63 n (le→leb n (2 ^ 53) (omega arith)) (omega arith))
cast_whole x (negsuc n) e h = rw e (negative_back binary64 63 n (lt→ltb n (2 ^ 53) (omega arith)) (omega arith))

cast : (x : Float) (n : ℕ) → IsWhole binary64 x (pos n) → 2 ^ 52 ≤ n → n < 2 ^ 53 → T (in_signed binary64 63 (sub binary64 x (double middle))) × (to_signed 63 (sub binary64 x (double middle)) ≡ pos n -ℤ pos middle)
cast x n w lo hi =
    let d = pos n -ℤ pos middle in
    let g : nat_abs d ≤ 2 ^ 52 = gap n middle (2 ^ 52) (omega arith) (omega arith) in
    cast_whole (sub binary64 x (double middle)) d ((exact_on w (whole_of_lem binary64 (pos middle) (omega arith))).differences (omega arith)).equal g

-- the cast loses nothing, and a roomy total has room for what it gives
pub inside_casts : (x : Float) → T (fits binary64 x) → inside x ≡ true → T (in_signed binary64 63 (sub binary64 x (double middle)))
inside_casts x p h = let i = inside_whole x p h in (cast x i.n i.is i.least i.most).0

small_fits : (z : ℤ) → nat_abs z < 2 ^ 63 → SFits w64 z
small_fits (pos n) h = record { sfits = h }
small_fits (negsuc n) h = record { sfits = omega arith }

pub inside_fits : (x : Float) (a : ℤ) → T (fits binary64 x) → inside x ≡ true → T (roomy a)
    → SFits w64 (to_signed 63 (sub binary64 x (double middle))) × SFits w64 (a +ℤ to_signed 63 (sub binary64 x (double middle)))
inside_fits x a p h r =
    let i = inside_whole x p h in
    let d = pos i.n -ℤ pos middle in
    let g : nat_abs d ≤ 2 ^ 52 = gap i.n middle (2 ^ 52) (omega arith) (omega arith) in
    rw (cast x i.n i.is i.least i.most).1 (
      small_fits d (omega arith),
      small_fits (a +ℤ d) (omega (arith, nat_abs_add_lem a d, leb→le (nat_abs a) (2 ^ 62) r)),
    )

-- ---- a value that is added

plus_is : (a z : ℤ) (v : Float) → counts v ≡ true → whole_of v ≡ z → in64 (a +ℤ z) ≡ true → plus (Some (Ok a)) v ≡ Some (Ok (a +ℤ z))
plus_is a z v c w i = rw (c, w) (rw i refl)

nan_eq : (v : Float) → eq (sub binary64 (add binary64 nan v) nan) v ≡ false
unfolding add sub eq
nan_eq v = refl

-- the law of a step: one that is exact adds the value
exact_step : {near : Float} {far t : AnyTotal} (v : Float) → Stands near far t → exactly near v (add binary64 near v) ≡ true → Stands (add binary64 near v) far (plus t v)
exact_step v alone h = absurd (false≢true (sym (nan_eq v) ∙ (both (eq (sub binary64 (add binary64 nan v) nan) v) (inside (add binary64 nan v)) h).0))
exact_step v (beside {x} {n} {a} w lo hi r) h =
    let next = add binary64 x v in
    let b = both (eq (sub binary64 next x) v) (inside next) h in
    let i = inside_whole next (add-fits binary64 x v) b.1 in
    let d = pos i.n -ℤ pos n in
    let g : nat_abs d ≤ 2 ^ 52 = gap i.n n (2 ^ 52) (omega arith) (omega arith) in
    let c = eq_counts (sub binary64 next x) v d ((exact_on i.is w).differences (omega arith)) (omega arith) b.0 in
    let e = shift a (pos n) (pos middle) (pos i.n) in
    let p : plus (Some (Ok (a +ℤ (pos n -ℤ pos middle)))) v ≡ Some (Ok (a +ℤ (pos i.n -ℤ pos middle))) =
    plus_is (a +ℤ (pos n -ℤ pos middle)) d v c.0 c.1 (rw e (sum_in64 a i.n r i.least i.most)) ∙ ap (λ (z : ℤ). Some (Ok z)) e in
    subst (Stands next (Some (Ok a))) (sym p) (beside i.is i.least i.most r)

below_two53 : (x : Float) (n : ℕ) → HasValue x false n 1 → n < 2 ^ 53 → lt x (fin false 1 (pos 53)) ≡ true
unfolding lt
below_two53 nan n v h = absurd v
below_two53 (inf s) n v h = absurd v
below_two53 (fin s m e) n v h = rw v.0 (lt-ltb (m * up e * 1) (1 * 2 ^ 53 * down e) (omega (arith, v.1, mul-lt-mul_of_pos_right h (down_pos e))))

inside_of : (x : Float) (n : ℕ) → HasValue x false n 1 → 2 ^ 52 ≤ n → n < 2 ^ 53 → inside x ≡ true
inside_of x n v lo hi =
    let l : T (le (fin false 1 (pos 52)) x) = le_of_values (fin false 1 (pos 52)) x (2 ^ 52) 1 n 1 (omega arith) (omega arith) (refl, refl) v (omega arith) in
    rw (two52, two53, is_true (le (fin false 1 (pos 52)) x) l, below_two53 x n v hi) refl

outside : inside nan ≡ false
unfolding le
outside = rw two52 refl

-- a NaN stands for nothing
nan_joined : (t : AnyTotal) → joined nan t ≡ t
nan_joined None = refl
nan_joined (Some (Ok a)) = rw outside refl
nan_joined (Some (Err c)) = refl

-- joined, the two are the total
joined_is : {near : Float} {far t : AnyTotal} → Stands near far t → joined near far ≡ t
joined_is (alone {t}) = nan_joined t
joined_is (beside {x} {n} {a} w lo hi r) =
    rw (inside_of x n (whole_value binary64 x (pos n) w) lo hi, is_true (roomy a) r, (cast x n w lo hi).1) refl

-- far starts anew, and near at the middle
fresh : (a : ℤ) → T (roomy a) → Stands (double middle) (Some (Ok a)) (Some (Ok a))
fresh a r = subst (λ (z : ℤ). Stands (double middle) (Some (Ok a)) (Some (Ok z))) (+ℤ_idr a) (beside (whole_of_lem binary64 (pos middle) (omega arith)) (omega arith) (omega arith) r)

-- the double to start with stands for nothing, beside any total
begins : (t : AnyTotal) → Stands (beside_of t) t t
begins None = alone
begins (Some (Err c)) = alone
begins (Some (Ok a)) = by (roomy a) (λ h. rw h (fresh a (subst T (sym h) tt))) (λ h. rw h alone)

still : (t : AnyTotal) (v : Float) → is_amount t ≡ false → plus t v ≡ t
still None v h = refl
still (Some (Ok a)) v h = absurd (false≢true (sym h))
still (Some (Err c)) v h = refl

-- nothing changes a total that is no amount
not_amount : {near : Float} {far t : AnyTotal} (v : Float) → Stands near far t → is_amount far ≡ false → Stands near far (plus t v)
not_amount v (alone {t}) h = subst (Stands nan t) (sym (still t v h)) alone
not_amount v (beside w lo hi r) h = absurd (false≢true (sym h))

-- ---- a tally

-- the total that it stands for
abbrev pub StandsFor : Tally → AnyTotal → Type 0
StandsFor s t = Stands s.near s.far t

pub starts : (t : AnyTotal) → StandsFor (start_of t) t
starts t = begins t

pub adds : (s : Tally) (t : AnyTotal) (v : Float) → StandsFor s t → StandsFor (added_to s v) (plus t v)
adds s t v k =
    let sum = plus (joined s.near s.far) v in
    by (exactly s.near v (add binary64 s.near v))
    (λ h. rw h (exact_step v k h))
    (λ h. rw h (by (is_amount s.far) (λ a. rw a (subst (Stands (beside_of sum) sum) (ap (λ (x : AnyTotal). plus x v) (joined_is k)) (begins sum))) (λ a. rw a (not_amount v k a))))

pub totals : (s : Tally) (t : AnyTotal) → StandsFor s t → total_of s ≡ t
totals s t k = joined_is k

-- ---- a column

-- the first i values are added: what is left, on top of the total that the tally stands for, adds up to what all does
pub record Adding (values : List Float) (all : AnyTotal) (s : Tally) (i : ℕ) : Type 0 where
  pub total : AnyTotal
  pub stands : StandsFor s total
  pub inside : i ≤ length values
  pub rest : total_from total (drop i values) ≡ all

pub adding_start : (t : AnyTotal) (values : List Float) (s : Tally) → s ≡ start_of t → Adding values (total_from s.far values) s 0
adding_start t values s e = record { total = s.far; stands = subst (λ (x : Tally). StandsFor x x.far) (sym e) (starts t); inside = omega arith; rest = refl }

pub adding_more : (values : List Float) (all : AnyTotal) (s r : Tally) (i : ℕ) (d : Float) → i < length values → r ≡ added_to s (get_or values i d) → Adding values all s i → Adding values all r (i + 1)
adding_more values all s r i d h e a = record {
  total = plus a.total (get_or values i d);
  stands = subst (λ (x : Tally). StandsFor x (plus a.total (get_or values i d))) (sym e) (adds s a.total (get_or values i d) a.stands);
  inside = omega arith;
  rest = one_more values a.total (plus a.total (get_or values i d)) i d h refl ∙ a.rest;
}

pub adding_end : (values : List Float) (t : AnyTotal) (s₀ s : Tally) (r : AnyTotal) (i : ℕ) → i ≡ length values → r ≡ total_of s → s₀ ≡ start_of t → Adding values (total_from s₀.far values) s i → r ≡ total_from t values
adding_end values t s₀ s r i h e f a = e ∙ totals s a.total a.stands ∙ sym (none_left values a.total i h) ∙ a.rest ∙ ap (λ (x : Tally). total_from x.far values) f

-- ---- an amount, where the double and the total are read

pub joined_amount : (near : Float) (far : AnyTotal) (a : ℤ) → far ≡ Some (Ok a) → inside near ≡ true → roomy a ≡ true
    → Some (Ok (a +ℤ to_signed 63 (sub binary64 near (double middle)))) ≡ joined near far
joined_amount near far a e i r = rw (e, i, r) refl
