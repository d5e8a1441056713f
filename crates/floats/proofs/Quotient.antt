-- A quotient that is 1 or more and not 2 ^ 53 or more is finite, and its whole part is below 2 ^ 53.
use Rattle.std.proofs.Common.{◌≡◌, ℕ, ◌+◌, ◌-◌, ◌*◌, ◌/◌, ◌^◌, ◌<◌, ◌≤◌, min, true, false, T, pos, sym, refl, subst, div-lt_iff_lt-mul, lt_of_not-le, arith, lt→ltb}
use lib.Ieee.{Float, nan, inf, fin, up, down, lt, le, to_unsigned}
use lib.Ieee.Fits.{down_pos}
use lib.Ieee.Order.{le_of_values}
use lib.Ieee.Positive.{above, above_of_le}

-- what the truncation asks, and what is left
pub record InRange (q : Float) : Type 0 where
  pub least : T (lt (fin true 1 (pos 0)) q)
  pub most : T (lt q (fin false 1 (pos 64)))
  pub cut : to_unsigned 64 q < 2 ^ 53

fraction : (n d : ℕ) → 0 < d → n * 1 < 2 ^ 53 * d → (0 < 1 * 1 * d + n * 1) × (n * 1 < 1 * 2 ^ 64 * d) × (min (n / d) (2 ^ 64 - 1) < 2 ^ 53)
fraction n d p h = let w : n / d < 2 ^ 53 = (div-lt_iff_lt-mul p).1 (omega arith) in (omega arith, omega arith, omega arith)

bounded : (q : Float) → T (above q) → le (fin false 1 (pos 53)) q ≡ false → InRange q
unfolding lt to_unsigned
bounded nan a e = absurd a
bounded (inf true) a e = absurd a
bounded (inf false) a e = absurd (subst T e (unfold le in tt))
bounded (fin true m d) a e = absurd a
bounded (fin false m d) a e =
    let two53 = fin false 1 (pos 53) in
    let more : 2 ^ 53 * down d ≤ m * up d * 1 → ⊥ = λ h. subst T e (le_of_values two53 (fin false m d) (2 ^ 53) 1 (m * up d) (down d) (omega arith) (down_pos d) (refl, refl) (refl, refl) h) in
    let r = fraction (m * up d) (down d) (down_pos d) (lt_of_not-le more) in
    record { least = lt→ltb _ _ r.0; most = lt→ltb _ _ r.1; cut = r.2 }

pub in_range : (q : Float) → le (fin false 1 (pos 0)) q ≡ true → le (fin false 1 (pos 53)) q ≡ false → InRange q
in_range q e d = bounded q (above_of_le (fin false 1 (pos 0)) q tt (subst T (sym e) tt)) d
