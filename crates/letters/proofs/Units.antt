-- Units piece by piece: which are replaced, and what they are the UTF-16 of.
use mathlib.Core.Path.{◌≡◌, refl, sym, ap, ap₂, ◌∙◌}
use mathlib.Core.Logic.{⊎_elim}
use mathlib.Core.Bool.{Bool, true, false, cond, ◌&&◌}
use mathlib.Core.List.{List, [], ◌∷◌, ◌++◌}
use Prim.Native.Nat.{ℕ, ◌+◌, ◌-◌, ◌/◌, ◌%◌, ◌≤◌, ◌<◌}
use native.Mathlib.Omega.{arith}
use lib.Dec.{ltb, eqb}
use lib.ListN.{get_or}
use borrow.Author.Tests.{ltb-false, le-ltb, lt-ltb, eqb-true}
use borrow.Table.Steps.{cases as by}
use Rattle.common.specs.Bytes.{AreBytes}
use Rattle.utf8.specs.Utf8.{Scalar, Scalars, Utf8, text, within}
use Rattle.utf8.proofs.Cases.{both, first, second, least, most, inside, outside, not_first, not_second}
use Rattle.utf8.proofs.Decodes.{exactly}
use Rattle.utf16.specs.Utf16.{units, is_high, is_low, alone, pair, utf16, encode16, encodes16, IsUtf16, utf8_of, unpaired, replaced_alone}
use Rattle.utf16.proofs.Units.{Small, small_units, scalars, recodes, lone_is, pair_is}
use Rattle.utf16.proofs.Partners.{lone_counts, pair_counts}
use Rattle.letters.specs.Letters.{occurrences}

-- ---- by pieces

module _ {P : List ℕ → Type 0} (none : P []) (one : (u : ℕ) (us : List ℕ) → (is_high u && is_low (get_or us 0 0)) ≡ false → P us → P (u ∷ us)) (two : (u v : ℕ) (us : List ℕ) → (is_high u && is_low v) ≡ true → P us → P (u ∷ v ∷ us)) where
  pieces : (us : List ℕ) → P us
  pieces [] = none
  pieces (u ∷ []) = one u [] (not_second (is_high u) refl) none
  pieces (u ∷ v ∷ us) = go (is_high u && is_low v) refl (pieces us) (pieces (v ∷ us))
    where
      go : (b : Bool) → (is_high u && is_low v) ≡ b → P us → P (v ∷ us) → P (u ∷ v ∷ us)
      go true t p q = two u v us t p
      go false t p q = one u (v ∷ us) t q

-- ---- a pair

module _ (u v : ℕ) (t : (is_high u && is_low v) ≡ true) where
  high : is_high u ≡ true
  high = first (is_high u) (is_low v) t

  low : is_low v ≡ true
  low = second (is_high u) (is_low v) t

  pair_units : encode16 (pair u v) ≡ u ∷ v ∷ []
  pair_units =
      let a = least 0xD800 0xDBFF u high in
      let b = least 0xDC00 0xDFFF v low in
      let c = most 0xDC00 0xDFFF v low in
      let past : 0x10000 ≤ pair u v = omega arith in
      let p : 0xD800 + (pair u v - 0x10000) / 1024 ≡ u = omega arith in
      let q : 0xDC00 + (pair u v - 0x10000) % 1024 ≡ v = omega arith in
      simp (le-ltb _ _ past) (ap₂ (λ (x y : ℕ). x ∷ y ∷ []) p q)

-- ---- U+FFFD

-- what is not the number x
pub no_letter : (x y : ℕ) → ¬ (y ≡ x) → ◌≡◌ {A = ℕ} (cond (eqb y x) 1 0) 0
no_letter x y n = by (eqb y x) (λ t. absurd (n (eqb-true y x t))) λ f. simp f

letter : (u : ℕ) → ◌≡◌ {A = ℕ} (cond (eqb (alone u) 0xFFFD) 1 0) (replaced_alone u + cond (eqb u 0xFFFD) 1 0)
letter u =
    by (within 0xD800 0xDFFF u)
    (λ i. simp i (let z = no_letter 0xFFFD u (λ e. absurd (omega (arith, most 0xD800 0xDFFF u i))) in omega (arith, z)))
    λ i. simp i (omega arith)

pub letters_of : (us : List ℕ) → occurrences 0xFFFD (utf16 us) ≡ unpaired us + occurrences 0xFFFD us
unfolding utf16 unpaired
letters_of = pieces {P = λ us. occurrences 0xFFFD (utf16 us) ≡ unpaired us + occurrences 0xFFFD us} refl one two
  where
    one : (u : ℕ) (us : List ℕ) → (is_high u && is_low (get_or us 0 0)) ≡ false → occurrences 0xFFFD (utf16 us) ≡ unpaired us + occurrences 0xFFFD us → occurrences 0xFFFD (utf16 (u ∷ us)) ≡ unpaired (u ∷ us) + occurrences 0xFFFD (u ∷ us)
    one u us t h = omega (arith, h, ap (occurrences 0xFFFD) (lone_is u us t), lone_counts u us t, letter u)

    two : (u v : ℕ) (us : List ℕ) → (is_high u && is_low v) ≡ true → occurrences 0xFFFD (utf16 us) ≡ unpaired us + occurrences 0xFFFD us → occurrences 0xFFFD (utf16 (u ∷ v ∷ us)) ≡ unpaired (u ∷ v ∷ us) + occurrences 0xFFFD (u ∷ v ∷ us)
    two u v us t h =
        let a = most 0xD800 0xDBFF u (high u v t) in
        let b = most 0xDC00 0xDFFF v (low u v t) in
        omega (
          arith,
          h,
          ap (occurrences 0xFFFD) (pair_is u v us t),
          pair_counts u v us t,
          no_letter 0xFFFD u (λ e. absurd (omega arith)),
          no_letter 0xFFFD v (λ e. absurd (omega arith)),
          no_letter 0xFFFD (pair u v) (λ e. absurd (omega arith)),
        )

-- the scalars of UTF-8 are the only ones
pub one_text : {bs cs ds : List ℕ} → Utf8 bs cs → Utf8 bs ds → cs ≡ ds
one_text {bs} {cs} {ds} u v =
    let e : text cs ≡ text ds = sym ((exactly bs cs).1 u) ∙ (exactly bs ds).1 v in
    cc

pub letters : (bs cs : List ℕ) → AreBytes bs → Utf8 (utf8_of bs) cs → occurrences 0xFFFD cs ≡ unpaired (units bs) + occurrences 0xFFFD (units bs)
letters bs cs o u = ap (occurrences 0xFFFD) (one_text u (recodes bs o)) ∙ letters_of (units bs)

-- ---- no unit is replaced

not_lone : (u : ℕ) → replaced_alone u ≡ 0 → within 0xD800 0xDFFF u ≡ false
not_lone u z = by (within 0xD800 0xDFFF u) (λ i. let e : 1 ≡ 0 = simp i at z in absurd (omega arith)) (λ f. f)

whole : (us : List ℕ) → Small us → unpaired us ≡ 0 → us ≡ encodes16 (utf16 us)
unfolding Small utf16 encodes16
whole = pieces {P = λ us. Small us → unpaired us ≡ 0 → us ≡ encodes16 (utf16 us)} (λ s z. refl) one two
  where
    one : (u : ℕ) (us : List ℕ) → (is_high u && is_low (get_or us 0 0)) ≡ false → (Small us → unpaired us ≡ 0 → us ≡ encodes16 (utf16 us)) → Small (u ∷ us) → unpaired (u ∷ us) ≡ 0 → u ∷ us ≡ encodes16 (utf16 (u ∷ us))
    one u us t h s z =
        let c = lone_counts u us t in
        let f = not_lone u (omega (arith, c, z)) in
        let is : alone u ≡ u = simp f in
        let unit : encode16 u ≡ u ∷ [] = simp (lt-ltb _ _ s.0) in
        ap (λ (l : List ℕ). u ∷ l) (h s.1 (omega (arith, c, z)))
        ∙ sym (ap encodes16 (lone_is u us t) ∙ ap (λ (c : ℕ). encode16 c ++ encodes16 (utf16 us)) is ∙ ap (λ (l : List ℕ). l ++ encodes16 (utf16 us)) unit)

    two : (u v : ℕ) (us : List ℕ) → (is_high u && is_low v) ≡ true → (Small us → unpaired us ≡ 0 → us ≡ encodes16 (utf16 us)) → Small (u ∷ v ∷ us) → unpaired (u ∷ v ∷ us) ≡ 0 → u ∷ v ∷ us ≡ encodes16 (utf16 (u ∷ v ∷ us))
    two u v us t h s z =
        ap (λ (l : List ℕ). u ∷ v ∷ l) (h s.1.1 (sym (pair_counts u v us t) ∙ z))
        ∙ sym (ap encodes16 (pair_is u v us t) ∙ ap (λ (l : List ℕ). l ++ encodes16 (utf16 us)) (pair_units u v t))

pub some : (bs : List ℕ) → AreBytes bs → unpaired (units bs) ≡ 0 → IsUtf16 (units bs) (utf16 (units bs))
some bs o z = let s = small_units bs o in record { scalars = scalars (units bs) s; encoded = whole (units bs) s z }

-- ---- the UTF-16 of scalars

-- the units of a scalar: one that is no surrogate, or a pair
by_units : (P : List ℕ → Type 0) (c : ℕ) → Scalar c → (within 0xD800 0xDFFF c ≡ false → P (c ∷ [])) → ((u v : ℕ) → (is_high u && is_low v) ≡ true → pair u v ≡ c → P (u ∷ v ∷ [])) → P (encode16 c)
by_units P c s f g =
    by (ltb c 0x10000) (λ t. simp t (f (no_surrogate c s)))
    λ t.
    let past = ltb-false c 0x10000 t in
    let below : c < 0x110000 = ⊎_elim (λ x. omega arith) (λ x. x.1) s in
    let u = 0xD800 + (c - 0x10000) / 1024 in
    let v = 0xDC00 + (c - 0x10000) % 1024 in
    let h = inside 0xD800 0xDBFF u (omega arith) (omega arith) in
    let l = inside 0xDC00 0xDFFF v (omega arith) (omega arith) in
    simp t (g u v (both h l) (omega arith))
  where
    no_surrogate : (c : ℕ) → Scalar c → within 0xD800 0xDFFF c ≡ false
    no_surrogate c s =
        by (within 0xD800 0xDFFF c)
        (λ i. absurd (⊎_elim (λ x. omega (arith, least 0xD800 0xDFFF c i)) (λ x. omega (arith, x.0, most 0xD800 0xDFFF c i)) s))
        λ f. f

-- a unit that is no surrogate begins no pair
module _ (c : ℕ) (us : List ℕ) (f : within 0xD800 0xDFFF c ≡ false) where
  no_pair : (is_high c && is_low (get_or us 0 0)) ≡ false
  no_pair = not_first (is_low (get_or us 0 0)) (outside 0xD800 0xDFFF 0xD800 0xDBFF c (omega arith) (omega arith) f)

  unit_counts : unpaired (c ∷ us) ≡ unpaired us
  unit_counts = let z : replaced_alone c ≡ 0 = simp f in omega (arith, lone_counts c us no_pair, z)

  unit_is : utf16 (c ∷ us) ≡ c ∷ utf16 us
  unit_is = let e : alone c ≡ c = simp f in lone_is c us no_pair ∙ ap (λ (x : ℕ). x ∷ utf16 us) e

none_of : (cs : List ℕ) → Scalars cs → unpaired (encodes16 cs) ≡ 0
unfolding encodes16 unpaired
none_of [] s = refl
none_of (c ∷ cs) s =
    by_units (λ us. unpaired (us ++ encodes16 cs) ≡ unpaired (encodes16 cs)) c s.0 (unit_counts c (encodes16 cs)) (λ u v t _. pair_counts u v (encodes16 cs) t)
    ∙ none_of cs s.1

pub none : (us cs : List ℕ) → IsUtf16 us cs → unpaired us ≡ 0
none us cs w = ap unpaired w.encoded ∙ none_of cs w.scalars

pub inverts : (cs : List ℕ) → Scalars cs → utf16 (encodes16 cs) ≡ cs
unfolding encodes16 utf16
inverts [] s = refl
inverts (c ∷ cs) s =
    by_units (λ us. utf16 (us ++ encodes16 cs) ≡ c ∷ utf16 (encodes16 cs)) c s.0 (unit_is c (encodes16 cs))
    (λ u v t e. pair_is u v (encodes16 cs) t ∙ ap (λ (x : ℕ). x ∷ utf16 (encodes16 cs)) e)
    ∙ ap (λ (l : List ℕ). c ∷ l) (inverts cs s.1)
