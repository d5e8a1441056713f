-- The scalar at the front of some bytes: those are its UTF-8, and so it is found there.
use mathlib.Core.Path.{◌≡◌, refl, sym, ap, ◌∙◌}
use mathlib.Core.Logic.{inl, inr, ⊎_elim}
use mathlib.Core.Bool.{true, false≢true}
use mathlib.Core.List.{List, [], ◌∷◌, ◌++◌}
use Prim.Native.Nat.{ℕ, ◌+◌, ◌-◌, ◌*◌, ◌/◌, ◌≤◌, ◌<◌}
use Rattle.std.specs.Prelude.{None}
use native.Mathlib.Omega.{arith}
use lib.Dec.{leb, ltb, eqb}
use lib.ListN.{length, drop, get_or, length-append}
use lib.Seq.{drop-append_seam}
use borrow.Author.Tests.{ltb-true, ltb-false, leb-true, leb-false, eqb-true, eqb-false, lt-ltb, le-ltb}
use borrow.Table.Steps.{cases as by}
use Rattle.utf8.specs.Utf8.{Front, Scalar, six, encode, low, high, second, follows, more, front, longer, front_of, front_in}
use Rattle.utf8.proofs.Cases.{split, least, most, inside}

-- ---- the four lengths

pub encode_1 : (x : ℕ) → x < 0x80 → encode x ≡ x ∷ []
encode_1 x h = simp (lt-ltb _ _ h)

pub encode_2 : (x : ℕ) → 0x80 ≤ x → x < 0x800 → encode x ≡ (0xC0 + x / 64) ∷ six x ∷ []
encode_2 x g h = simp (le-ltb _ _ g, lt-ltb _ _ h)

pub encode_3 : (x : ℕ) → 0x800 ≤ x → x < 0x10000 → encode x ≡ (0xE0 + x / 64 / 64) ∷ six (x / 64) ∷ six x ∷ []
encode_3 x g h =
    let g' : 0x80 ≤ x = omega arith in
    simp (le-ltb _ _ g', le-ltb _ _ g, lt-ltb _ _ h)

pub encode_4 : (x : ℕ) → 0x10000 ≤ x → encode x ≡ (0xF0 + x / 64 / 64 / 64) ∷ six (x / 64 / 64) ∷ six (x / 64) ∷ six x ∷ []
encode_4 x g =
    let g' : 0x80 ≤ x = omega arith in
    let g'' : 0x800 ≤ x = omega arith in
    simp (le-ltb _ _ g', le-ltb _ _ g'', le-ltb _ _ g)

-- a claim on a scalar, by the length of its UTF-8
pub by_length : {P : Type 0} (x : ℕ) → (x < 0x80 → P) → (0x80 ≤ x → x < 0x800 → P) → (0x800 ≤ x → x < 0x10000 → P) → (0x10000 ≤ x → P) → P
by_length x p q r s =
    by (ltb x 0x80) (λ t. p (ltb-true x 0x80 t))
    λ t₁. by (ltb x 0x800) (λ t. q (ltb-false x 0x80 t₁) (ltb-true x 0x800 t))
    λ t₂. by (ltb x 0x10000) (λ t. r (ltb-false x 0x800 t₂) (ltb-true x 0x10000 t)) (λ t. s (ltb-false x 0x10000 t))

-- ---- what `front_of` gives, by its tests

module _ (a b c d : ℕ) where
  front_1 : a < 0x80 → front a 1 ≡ front_of a b c d
  unfolding front_of
  front_1 h = simp (lt-ltb _ _ h)

  module _ (g : 0xC2 ≤ a) (h : a ≤ 0xF4) (s : second a b ≡ true) where
    pub front_longer : front_of a b c d ≡ longer a b c d
    unfolding front_of
    front_longer = let g' : 0x80 ≤ a = omega arith in simp (le-ltb _ _ g', le-ltb _ _ g, le-ltb _ _ h, s)

    front_2 : (x : ℕ) → x ≡ more (a - 0xC0) b → a < 0xE0 → front x 2 ≡ front_of a b c d
    front_2 x e l = rw front_longer (simp (lt-ltb _ _ l, e))

    front_3 : (v x : ℕ) → v ≡ more (a - 0xE0) b → x ≡ more v c → 0xE0 ≤ a → a < 0xF0 → follows c ≡ true → front x 3 ≡ front_of a b c d
    front_3 v x f e l m t = rw front_longer (simp (le-ltb _ _ l, t, lt-ltb _ _ m, e, f))

    front_4 : (u v x : ℕ) → u ≡ more (a - 0xF0) b → v ≡ more u c → x ≡ more v d → 0xF0 ≤ a → follows c ≡ true → follows d ≡ true → front x 4 ≡ front_of a b c d
    front_4 u v x i f e m t k = let l : 0xE0 ≤ a = omega arith in rw front_longer (simp (le-ltb _ _ l, t, le-ltb _ _ m, k, e, f, i))

-- ---- the second byte, by the first: in numbers, what Table 3-7 asks

abbrev Low : ℕ → ℕ → Type 0
Low a b = (0x80 ≤ b) × ((0xE0 ≤ a → 64 * 0xE0 + 0xA0 ≤ 64 * a + b) × (0xF0 ≤ a → 64 * 0xF0 + 0x90 ≤ 64 * a + b))

abbrev High : ℕ → ℕ → Type 0
High a b = (b ≤ 0xBF) × ((a ≤ 0xED → 64 * a + b ≤ 64 * 0xED + 0x9F) × (a ≤ 0xF4 → 64 * a + b ≤ 64 * 0xF4 + 0x8F))

low_is : (a b : ℕ) → low a ≤ b → Low a b
low_is a b l =
    by (eqb a 0xE0) (λ e. let k : 0xA0 ≤ b = simp e at l in let p = eqb-true a 0xE0 e in omega arith)
    λ e. by (eqb a 0xF0) (λ f. let k : 0x90 ≤ b = simp (e, f) at l in let p = eqb-true a 0xF0 f in omega arith)
    λ f. let k : 0x80 ≤ b = simp (e, f) at l in let p = eqb-false a 0xE0 e in let q = eqb-false a 0xF0 f in omega arith

low_any : (a b : ℕ) → Low a b → low a ≤ b
low_any a b l =
    by (eqb a 0xE0) (λ e. let p = eqb-true a 0xE0 e in simp e (omega (arith, l.1.0 (omega arith))))
    λ e. by (eqb a 0xF0) (λ f. let p = eqb-true a 0xF0 f in simp (e, f) (omega (arith, l.1.1 (omega arith)))) (λ f. simp (e, f) l.0)

high_is : (a b : ℕ) → b ≤ high a → High a b
high_is a b h =
    by (eqb a 0xED) (λ e. let k : b ≤ 0x9F = simp e at h in let p = eqb-true a 0xED e in omega arith)
    λ e. by (eqb a 0xF4) (λ f. let k : b ≤ 0x8F = simp (e, f) at h in let p = eqb-true a 0xF4 f in omega arith)
    λ f. let k : b ≤ 0xBF = simp (e, f) at h in let p = eqb-false a 0xED e in let q = eqb-false a 0xF4 f in omega arith

high_any : (a b : ℕ) → High a b → b ≤ high a
high_any a b h =
    by (eqb a 0xED) (λ e. let p = eqb-true a 0xED e in simp e (omega (arith, h.1.0 (omega arith))))
    λ e. by (eqb a 0xF4) (λ f. let p = eqb-true a 0xF4 f in simp (e, f) (omega (arith, h.1.1 (omega arith)))) (λ f. simp (e, f) h.0)

second_any : (a b : ℕ) → Low a b → High a b → second a b ≡ true
second_any a b l h = inside (low a) (high a) b (low_any a b l) (high_any a b h)

trails : (n : ℕ) → follows (six n) ≡ true
trails n = inside 0x80 0xBF (six n) (omega arith) (omega arith)

-- ---- a scalar is found at the front of its UTF-8

pub found : (x : ℕ) (r : List ℕ) → Scalar x → front x (length (encode x)) ≡ front_in (encode x ++ r)
found x r s = by_length x one two three four
  where
    at : (l : List ℕ) → encode x ≡ l → front x (length l) ≡ front_in (l ++ r) → front x (length (encode x)) ≡ front_in (encode x ++ r)
    at l e f = ap (λ (l : List ℕ). front x (length l)) e ∙ f ∙ ap (λ (l : List ℕ). front_in (l ++ r)) (sym e)

    one : x < 0x80 → front x (length (encode x)) ≡ front_in (encode x ++ r)
    one h = at _ (encode_1 x h) (front_1 x _ _ _ h)

    two : 0x80 ≤ x → x < 0x800 → front x (length (encode x)) ≡ front_in (encode x ++ r)
    two g h =
        at _ (encode_2 x g h)
        (front_2 (0xC0 + x / 64) (six x) _ _ (omega arith) (omega arith) (second_any (0xC0 + x / 64) (six x) (omega arith) (omega arith)) x (omega arith) (omega arith))

    three : 0x800 ≤ x → x < 0x10000 → front x (length (encode x)) ≡ front_in (encode x ++ r)
    three g h =
        at _ (encode_3 x g h)
        (front_3 (0xE0 + x / 64 / 64) (six (x / 64)) (six x) _ (omega arith) (omega arith)
        (⊎_elim (λ t. second_any (0xE0 + x / 64 / 64) (six (x / 64)) (omega arith) (omega arith)) (λ t. second_any (0xE0 + x / 64 / 64) (six (x / 64)) (omega arith) (omega arith)) s)
        (x / 64) x (omega arith) (omega arith) (omega arith) (omega arith) (trails x))

    four : 0x10000 ≤ x → front x (length (encode x)) ≡ front_in (encode x ++ r)
    four g =
        let h : x < 0x110000 = ⊎_elim (λ t. omega arith) (λ t. t.1) s in
        at _ (encode_4 x g)
        (front_4 (0xF0 + x / 64 / 64 / 64) (six (x / 64 / 64)) (six (x / 64)) (six x) (omega arith) (omega arith)
        (second_any (0xF0 + x / 64 / 64 / 64) (six (x / 64 / 64)) (omega arith) (omega arith))
        (x / 64 / 64) (x / 64) x (omega arith) (omega arith) (omega arith) (omega arith) (trails (x / 64)) (trails x))

-- ---- what is found at the front of some bytes is a scalar, and they begin with its UTF-8

pub record Found (l : List ℕ) (x w : ℕ) : Type 0 where
  pub scalar : Scalar x
  pub wide : w ≡ length (encode x)
  pub fits : w ≤ length l
  pub whole : l ≡ encode x ++ drop w l

made : (x : ℕ) (p l : List ℕ) → Scalar x → encode x ≡ p → Found (p ++ l) x (length p)
made x p l s e =
    record {
      scalar = s;
      wide = sym (ap length e);
      fits = omega (arith, length-append p l);
      whole = ap (λ (k : List ℕ). k ++ l) (sym e) ∙ ap (λ (k : List ℕ). encode x ++ k) (sym (drop-append_seam p l));
    }

module _ (a : ℕ) where
  found_1 : (l : List ℕ) → a < 0x80 → Found (a ∷ l) a 1
  found_1 l h = made a (a ∷ []) l (inl (omega arith)) (encode_1 a h)

  found_2 : (l : List ℕ) (x : ℕ) → 0xC2 ≤ a → a < 0xE0 → Low a (get_or l 0 0) → High a (get_or l 0 0) → x ≡ more (a - 0xC0) (get_or l 0 0) → Found (a ∷ l) x 2
  found_2 [] x g h p q k = absurd (omega (arith, p.0))
  found_2 (b ∷ l) x g h p q k =
      let i : a ≡ 0xC0 + x / 64 = omega (arith, p.0, q.0) in
      let j : b ≡ six x = omega (arith, p.0, q.0) in
      made x (a ∷ b ∷ []) l (inl (omega arith)) (cc (encode_2 x (omega (arith, p.0)) (omega arith)))

  found_3 : (l : List ℕ) (x : ℕ) → 0xE0 ≤ a → a < 0xF0 → Low a (get_or l 0 0) → High a (get_or l 0 0) → 0x80 ≤ get_or l 1 0 → get_or l 1 0 ≤ 0xBF
      → x ≡ more (more (a - 0xE0) (get_or l 0 0)) (get_or l 1 0) → Found (a ∷ l) x 3
  found_3 [] x g h p q r s k = absurd (omega (arith, p.0))
  found_3 (b ∷ []) x g h p q r s k = absurd (omega arith)
  found_3 (b ∷ c ∷ l) x g h p q r s k =
      let u = p.1.0 g in
      let i : a ≡ 0xE0 + x / 64 / 64 = omega arith in
      let j : b ≡ six (x / 64) = omega arith in
      let m : c ≡ six x = omega arith in
      let scalar : Scalar x =
      by (leb a 0xED) (λ t. let v = q.1.0 (leb-true a 0xED t) in inl (omega arith))
      (λ t. let v = leb-false a 0xED t in inr (omega arith, omega arith)) in
      made x (a ∷ b ∷ c ∷ []) l scalar (cc (encode_3 x (omega arith) (omega arith)))

  found_4 : (l : List ℕ) (x : ℕ) → 0xF0 ≤ a → a ≤ 0xF4 → Low a (get_or l 0 0) → High a (get_or l 0 0) → 0x80 ≤ get_or l 1 0 → get_or l 1 0 ≤ 0xBF
      → 0x80 ≤ get_or l 2 0 → get_or l 2 0 ≤ 0xBF → x ≡ more (more (more (a - 0xF0) (get_or l 0 0)) (get_or l 1 0)) (get_or l 2 0) → Found (a ∷ l) x 4
  found_4 [] x g h p q r s t u k = absurd (omega (arith, p.0))
  found_4 (b ∷ []) x g h p q r s t u k = absurd (omega arith)
  found_4 (b ∷ c ∷ []) x g h p q r s t u k = absurd (omega arith)
  found_4 (b ∷ c ∷ d ∷ l) x g h p q r s t u k =
      let v = p.1.1 g in
      let w = q.1.1 h in
      let i : a ≡ 0xF0 + x / 64 / 64 / 64 = omega arith in
      let j : b ≡ six (x / 64 / 64) = omega arith in
      let m : c ≡ six (x / 64) = omega arith in
      let n : d ≡ six x = omega arith in
      made x (a ∷ b ∷ c ∷ d ∷ []) l (inr (omega arith, omega arith)) (cc (encode_4 x (omega arith)))

  none : {l : List ℕ} (x w : ℕ) → None ≡ front x w → Found l x w
  none x w e = absurd (false≢true cc)

  told : {l : List ℕ} {v n x w : ℕ} → front v n ≡ front x w → Found l v n → Found l x w
  told {l} {v} {n} {x} {w} e f =
      let r : ◌≡◌ {A = Front} (record { scalar = v; width = n }) (record { scalar = x; width = w }) = cc in
      let p = ap (λ (k : Front). k.scalar) r in
      let q = ap (λ (k : Front). k.width) r in
      rw (← p, ← q) f

  right_of : (l : List ℕ) (x w : ℕ) → front_in (a ∷ l) ≡ front x w → Found (a ∷ l) x w
  unfolding front_of
  right_of l x w =
      let b = get_or l 0 0 in
      let c = get_or l 1 0 in
      let d = get_or l 2 0 in
      split (ltb a 0x80) (λ t e. told e (found_1 l (ltb-true a 0x80 t)))
      λ t₁. split (ltb a 0xC2) (λ t. none x w)
      λ t₂. split (ltb 0xF4 a) (λ t. none x w)
      λ t₃. split (second a b)
      (λ i.
      let p = low_is a b (least (low a) (high a) b i) in
      let q = high_is a b (most (low a) (high a) b i) in
      split (ltb a 0xE0) (λ t e. told e (found_2 l _ (ltb-false a 0xC2 t₂) (ltb-true a 0xE0 t) p q refl))
      λ t₄. split (follows c)
      (λ j. split (ltb a 0xF0)
      (λ t e. told e (found_3 l _ (ltb-false a 0xE0 t₄) (ltb-true a 0xF0 t) p q (least 0x80 0xBF c j) (most 0x80 0xBF c j) refl))
      λ t₅. split (follows d)
      (λ k e. told e (found_4 l _ (ltb-false a 0xF0 t₅) (ltb-false 0xF4 a t₃) p q (least 0x80 0xBF c j) (most 0x80 0xBF c j) (least 0x80 0xBF d k) (most 0x80 0xBF d k) refl))
      (λ k. none x w))
      (λ j. none x w))
      (λ i. none x w)

pub right : (l : List ℕ) (x w : ℕ) → 1 ≤ length l → front_in l ≡ front x w → Found l x w
right [] x w h e = absurd (omega arith)
right (a ∷ l) x w h e = right_of a l x w e
