-- What values add up to: request 1, 'the signed 64-bit sum of the unscaled values', and where there is none.
use Rattle.std.specs.Prelude.{◌≡◌, ◌*◌, ◌/◌, ◌%◌, ◌^◌, ◌<◌, Bool, true, false, cond, not, ◌&&◌, T, ◌⊎◌, Option, Some, None, Result, Ok, Err, List, [], ◌∷◌, ◌++◌, ℤ, pos, negsuc, ◌+ℤ◌, ◌==◌, nat_lt, unsigned_abs, Float}
use mathlib.Core.List.{foldl}
use Rattle.std.specs.Float.{nan, inf, fin, binary64}
use Rattle.std.specs.Float.Ieee.{up, down, eq, of_int, to_signed}
use Rattle.error.specs.declared.Refusal.{Refusal}
use Rattle.error.specs.declared.Refusal.TheVariants.{SumOutOfRange}
use Rattle.floats.specs.Wholes.{IsWhole}

-- ---- a value

-- 'where a value's size is 2^53 or more' there is no sum; nor where it is no whole number (DECISIONS 31): m * 2 ^ e has no fraction, and is below 2^53
abbrev pub counts : Float → Bool
counts nan = false
counts (inf s) = false
counts (fin s m e) = m * up e % down e == 0 && nat_lt (m * up e / down e) (2 ^ 53)

-- the whole number that such a value is; -0 is 0
abbrev pub whole_of : Float → ℤ
whole_of v = to_signed 63 v

-- ---- a sum

-- a signed number of 64 bits
abbrev pub in64 : ℤ → Bool
in64 (pos n) = nat_lt n (2 ^ 63)
in64 (negsuc n) = nat_lt n (2 ^ 63)

-- none where nothing is added up, and a refusal where there is no sum
abbrev pub AnyTotal : Type 0
AnyTotal = Option (Result ℤ Refusal)

-- 'Answers: 17'
abbrev pub out_of_range : AnyTotal
out_of_range = Some (Err SumOutOfRange)

-- 'or the sum after some record leaves 64 bits'
abbrev pub amount : ℤ → AnyTotal
amount z = cond (in64 z) (Some (Ok z)) out_of_range

abbrev pub plus : AnyTotal → Float → AnyTotal
plus None v = None
plus (Some (Ok a)) v = cond (counts v) (amount (a +ℤ whole_of v)) out_of_range
plus (Some (Err c)) v = Some (Err c)

abbrev pub total_from : AnyTotal → List Float → AnyTotal
total_from t vs = foldl plus t vs

-- ---- what is so of every column

-- the sum in whole numbers, never rounded
abbrev pub sum_from : ℤ → List Float → ℤ
sum_from a vs = foldl (λ z v. z +ℤ whole_of v) a vs

-- each value counts, and no sum behind one is outside 64 bits
abbrev pub AllIn : ℤ → List Float → Type 0
AllIn a vs = (us : List Float) (v : Float) (ws : List Float) → vs ≡ us ++ (v ∷ ws) → T (counts v) × T (in64 (sum_from a (us ++ (v ∷ []))))

-- some value does not, or some sum is
pub record SomeOut (a : ℤ) (vs : List Float) : Type 0 where
  pub before : List Float
  pub value : Float
  pub behind : List Float
  pub there : vs ≡ before ++ (value ∷ behind)
  pub out : T (not (counts value && in64 (sum_from a (before ++ (value ∷ [])))))

pub record TotalsAreSums : Type 0 where
  -- an amount is the sum in whole numbers, and is given exactly where each value counts and each sum on the way fits
  pub amounts : (a z : ℤ) (vs : List Float) → total_from (Some (Ok a)) vs ≡ Some (Ok z) → AllIn a vs × (z ≡ sum_from a vs)
  pub sums : (a : ℤ) (vs : List Float) → AllIn a vs → total_from (Some (Ok a)) vs ≡ Some (Ok (sum_from a vs))
  -- 17 exactly where some value does not count or some sum on the way does not fit
  pub refused : (a : ℤ) (vs : List Float) → total_from (Some (Ok a)) vs ≡ out_of_range → SomeOut a vs
  pub out : (a : ℤ) (vs : List Float) → SomeOut a vs → total_from (Some (Ok a)) vs ≡ out_of_range
  -- one of the two always
  pub either : (a : ℤ) (vs : List Float) → (total_from (Some (Ok a)) vs ≡ Some (Ok (sum_from a vs))) ⊎ (total_from (Some (Ok a)) vs ≡ out_of_range)
  -- a column in parts
  pub parts : (t : AnyTotal) (us vs : List Float) → total_from t (us ++ vs) ≡ total_from (total_from t us) vs
  -- what counts equals the double of its whole number, which is below 2^53 in size: no fraction does, nothing larger, no infinity and no NaN
  pub counted : (v : Float) → T (counts v) → (unsigned_abs (whole_of v) < 2 ^ 53) × T (eq (of_int binary64 (whole_of v)) v)
  -- a whole number's double counts as that number below 2^53 in size, and not at 2^53; -0 counts as 0
  pub wholes : (v : Float) (z : ℤ) → IsWhole binary64 v z → unsigned_abs z < 2 ^ 53 → T (counts v) × (whole_of v ≡ z)
  pub large : (v : Float) (z : ℤ) → IsWhole binary64 v z → unsigned_abs z ≡ 2 ^ 53 → T (not (counts v))
  pub minus_zero : T (counts (fin true 0 (pos 0))) × (whole_of (fin true 0 (pos 0)) ≡ pos 0)
