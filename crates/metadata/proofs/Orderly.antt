-- Rules that never end, and whose outcomes all have a property.
use mathlib.Core.Path.{◌≡◌, refl, sym, subst}
use mathlib.Core.Bool.{Bool, true, false, cond, false≢true}
use mathlib.Core.List.{List}
use Prim.Native.Nat.{ℕ, ◌≤◌}
use native.Mathlib.Omega.{arith}
use lib.ListN.{length, take, drop, length-drop}
use Rattle.rules.specs.Rule.{Rule, gives, field, refuses, finished, Read, got, stops, taking, lacks, read, ◌>>=◌}
use Rattle.rules.proofs.Laws.{by_fit, read_fits, read_past}
use Rattle.agilent.specs.Header.{check}

-- each outcome has P, the rule never ends, and where it has fields the file may end before none of them
pub data Orderly {A : Type 0} (fields : Bool) (P : A → Type 0) : Rule A → Type 0 where
  giving : {a : A} → P a → Orderly fields P (gives a)
  refusing : {c : ℕ} → Orderly fields P (refuses c)
  asking : {w : ℕ} {k : List ℕ → Rule A} → fields ≡ true → ((bs : List ℕ) → Orderly fields P (k bs)) → Orderly fields P (field false w k)

abbrev pub Any : {A : Type 0} → A → Type 0
Any a = Unit

-- ---- what such a rule reads

abbrev pub Proper : {A : Type 0} → (A → Type 0) → List ℕ → Read A → Type 0
Proper P bs (got a n) = P a × (n ≤ length bs)
Proper P bs (stops z) = ¬ (z ≡ finished)

not_lacking : (last : Bool) (bs : List ℕ) → ¬ (lacks last false bs ≡ finished)
not_lacking true bs e = false≢true cc
not_lacking false bs e = false≢true cc

module _ {A : Type 0} (P : A → Type 0) where
  proper_taking : (w : ℕ) (bs : List ℕ) (x : Read A) → w ≤ length bs → Proper P (drop w bs) x → Proper P bs (taking w x)
  proper_taking w bs (got a n) h p = (p.0, omega (arith, p.1, length-drop w bs))
  proper_taking w bs (stops z) h p = p

  pub proper : {fields : Bool} {r : Rule A} → Orderly fields P r → (last : Bool) (bs : List ℕ) → Proper P bs (read last r bs)
  unfolding read
  proper (giving p) last bs = (p, omega arith)
  proper refusing last bs = λ e. false≢true cc
  proper (asking {w = w} {k = k} f o) last bs =
      by_fit w bs
      (λ h. subst (Proper P bs) (sym (read_fits last false w k bs h)) (proper_taking w bs (read last (k (take w bs)) (drop w bs)) h (proper (o (take w bs)) last (drop w bs))))
      (λ h. subst (Proper P bs) (sym (read_past last false w k bs h)) (not_lacking last bs))

  pub outcome : {fields : Bool} {r : Rule A} {a : A} → Orderly fields P r → r ≡ gives a → P a
  outcome (giving {a = b} p) e = subst P (cc) p
  outcome refusing e = absurd (false≢true cc)
  outcome (asking f o) e = absurd (false≢true cc)

-- a rule without fields gives what it is
pub itself : {A : Type 0} {P : A → Type 0} {fields : Bool} {r : Rule A} → Orderly false P r → Orderly fields (λ a. r ≡ gives a) r
itself (giving p) = giving refl
itself refusing = refusing
itself (asking f o) = absurd (false≢true cc)

-- ---- rules made of rules

module _ {fields : Bool} where
  pub next : {A B : Type 0} {P : A → Type 0} {Q : B → Type 0} {r : Rule A} {f : A → Rule B} → Orderly fields P r → ((a : A) → P a → Orderly fields Q (f a)) → Orderly fields Q (r >>= f)
  unfolding ◌>>=◌
  next (giving p) k = k _ p
  next refusing k = refusing
  next (asking f o) k = asking f λ bs. next (o bs) k

  -- the same where nothing is known of the outcome
  pub then : {A B : Type 0} {Q : B → Type 0} {r : Rule A} {f : A → Rule B} → Orderly fields Any r → ((a : A) → Orderly fields Q (f a)) → Orderly fields Q (r >>= f)
  then o k = next o λ a _. k a

  pub either : {A : Type 0} (b : Bool) {x y : Rule A} → Orderly fields Any x → Orderly fields Any y → Orderly fields Any (cond b x y)
  either true o p = o
  either false o p = p

  pub tested : (ok : Bool) (c : ℕ) → Orderly fields (λ _. ok ≡ true) (check ok c)
  tested true c = giving refl
  tested false c = refusing

  pub checked : (ok : Bool) (c : ℕ) → Orderly fields Any (check ok c)
  checked ok c = either ok (giving tt) refusing
