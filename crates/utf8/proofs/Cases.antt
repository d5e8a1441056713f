-- Going by tests.
use mathlib.Core.Path.{◌≡◌, refl, sym, ◌∙◌}
use mathlib.Core.Bool.{Bool, true, false, not, cond, ◌&&◌, false≢true}
use Prim.Native.Nat.{ℕ, zero, suc, ◌≤◌, ◌<◌}
use native.Mathlib.Omega.{arith}
use lib.Dec.{leb, eqb}
use borrow.Author.Tests.{leb-true, eqb-true, eqb-false, le-leb, lt-leb, lt-ltb, le-ltb, eq-eqb, ne_eqb, not-true, not-false}
use borrow.Table.Steps.{cases as by}
use Rattle.utf8.specs.Utf8.{within}

-- what a test gives, by what is known of its numbers
pub ruleset tests = (lt-ltb, le-ltb, le-leb, lt-leb, eq-eqb, ne_eqb)

-- what a function was asked with `!`
pub no : {r t : Bool} → r ≡ t → not r ≡ true → t ≡ false
no {r} e f = sym e ∙ not-true r f

pub yes : {r t : Bool} → r ≡ t → not r ≡ false → t ≡ true
yes {r} e f = sym e ∙ not-false r f

-- either way of a test, of which one is taken
pub split : {A P : Type 0} {x y z : A} (b : Bool) → (b ≡ true → x ≡ z → P) → (b ≡ false → y ≡ z → P) → cond b x y ≡ z → P
split true f g e = f refl e
split false f g e = g refl e

pub never : {P : Type 0} {b : Bool} → b ≡ true → b ≡ false → P
never e f = absurd (false≢true cc)

-- ---- two tests

pub both : {p q : Bool} → p ≡ true → q ≡ true → (p && q) ≡ true
both e f = simp (e, f)

pub not_first : {p : Bool} (q : Bool) → p ≡ false → (p && q) ≡ false
not_first q e = simp e

pub not_second : (p : Bool) {q : Bool} → q ≡ false → (p && q) ≡ false
not_second true e = e
not_second false e = refl

pub first : (p q : Bool) → (p && q) ≡ true → p ≡ true
first true q e = refl
first false q e = e

pub second : (p q : Bool) → (p && q) ≡ true → q ≡ true
second true q e = e
second false q e = never e refl

-- ---- a range

pub least : (l h b : ℕ) → within l h b ≡ true → l ≤ b
least l h b e = leb-true l b (first (leb l b) (leb b h) e)

pub most : (l h b : ℕ) → within l h b ≡ true → b ≤ h
most l h b e = leb-true b h (second (leb l b) (leb b h) e)

pub inside : (l h b : ℕ) → l ≤ b → b ≤ h → within l h b ≡ true
inside l h b p q = both (le-leb l b p) (le-leb b h q)

-- what lies outside lies outside a part
pub outside : (l h m n b : ℕ) → l ≤ m → n ≤ h → within l h b ≡ false → within m n b ≡ false
outside l h m n b p q e =
    by (within m n b) (λ t. never (inside l h b (omega (arith, least m n b t)) (omega (arith, most m n b t))) e) (λ f. f)

-- ---- a test of each number below one

abbrev pub every : (ℕ → Bool) → ℕ → Bool
every p zero = true
every p (suc n) = every p n && p n

pub each : (p : ℕ → Bool) (n : ℕ) → every p n ≡ true → (k : ℕ) → k < n → p k ≡ true
each p zero e k h = absurd (omega arith)
each p (suc n) e k h =
    by (eqb k n)
    (λ t. rw (eqb-true k n t) (second (every p n) (p n) e))
    (λ f. each p n (first (every p n) (p n) e) k (omega (arith, eqb-false k n f)))
