-- UTF-16 scalar by scalar, and the UTF-8 that it makes.
use mathlib.Core.Path.{◌≡◌, refl, sym, ap, ap₂, ◌∙◌, subst}
use mathlib.Core.Logic.{inl, inr, ⊎_elim}
use mathlib.Core.Bool.{Bool, true, false, cond, ◌&&◌}
use mathlib.Core.List.{List, [], ◌∷◌, ◌++◌, append_assoc, append-nil}
use Prim.Native.Nat.{ℕ, ◌+◌, ◌-◌, ◌*◌, ◌≤◌, ◌<◌}
use native.Mathlib.Nat.{zero-add}
use native.Mathlib.Omega.{arith}
use lib.Dec.{ltb}
use lib.Utf8.{scalar_cases}
use lib.ListN.{length, take, drop, get_or, length-append, length-drop, drop_of_length-le}
use lib.Seq.{drop-drop, take_at, drop_at, take_all}
use borrow.Author.Tests.{ltb-true, ltb-false}
use borrow.Rule.Slice.PartMut.{put_mid, Post-is}
use borrow.Table.Steps.{cases as by}
use Rattle.std.specs.Prelude.{Option, Some, IfSome}
use Rattle.std.specs.Char.{IsScalar}
use Rattle.utf16.specs.declared.Piece.{Piece}
use Rattle.utf16.specs.declared.Recoded.{Recoded}
use Rattle.utf8.specs.Utf8.{Scalar, Scalars, Utf8, encode, encodes, within}
use Rattle.common.specs.Bytes.{AreBytes}
use Rattle.utf16.specs.Utf16.{units, is_high, is_low, alone, pair, utf16, utf8_of, unpaired, bytes_of, replaced_alone, piece_of, first_unit, First}
use Rattle.utf8.proofs.Cases.{never, first, second, least, most, inside, outside, not_first}
use Rattle.utf8.proofs.Decodes.{encode_length}
use Rattle.written.specs.Written.{Puts}
use Rattle.utf16.proofs.Partners.{few_unpaired, lone_counts, pair_counts}

-- ---- units

units_cons : (s : List ℕ) → 2 ≤ length s → units s ≡ first_unit s ∷ units (drop 2 s)
units_cons [] h = absurd (omega arith)
units_cons (a ∷ []) h = absurd (omega arith)
units_cons (a ∷ b ∷ s) h = refl

units_none : (s : List ℕ) → length s < 2 → units s ≡ []
units_none [] h = refl
units_none (a ∷ []) h = refl
units_none (a ∷ b ∷ s) h = absurd (omega arith)

-- ---- a piece, by the tests

module _ (u v : ℕ) where
  pub lone_piece : (x n : ℕ) → x ≡ alone u → n ≡ replaced_alone u → (is_high u && is_low v) ≡ false → ◌≡◌ {A = Piece} (record { scalar = x; width = 2; replaced = n }) (piece_of u v)
  lone_piece x n e f t = simp (e, f, t)

-- ---- a piece is a scalar

alone_scalar : (u : ℕ) → u < 65536 → Scalar (alone u)
alone_scalar u h = by (within 0xD800 0xDFFF u) (λ i. simp i (inr (omega arith, omega arith))) (λ i. simp i (other i))
  where
    other : within 0xD800 0xDFFF u ≡ false → Scalar u
    other i =
        by (ltb u 0xD800) (λ t. inl (ltb-true u 0xD800 t))
        λ t. by (ltb 0xDFFF u) (λ w. inr (ltb-true 0xDFFF u w, omega arith))
        λ w. never (inside 0xD800 0xDFFF u (ltb-false u 0xD800 t) (ltb-false 0xDFFF u w)) i

pair_scalar : (u v : ℕ) → (is_high u && is_low v) ≡ true → Scalar (pair u v)
pair_scalar u v t =
    let i = first (is_high u) (is_low v) t in
    let j = second (is_high u) (is_low v) t in
    inr (omega arith, omega (arith, most 0xD800 0xDBFF u i, most 0xDC00 0xDFFF v j))

below : {c : ℕ} → Scalar c → c < 0x110000
below s = ⊎_elim (λ t. omega arith) (λ t. t.1) s

unfoldable pub Small : List ℕ → Type 0
Small [] = Unit
Small (u ∷ us) = (u < 65536) × Small us

pub small_units : (bs : List ℕ) → AreBytes bs → Small (units bs)
unfolding Small AreBytes
small_units [] o = tt
small_units (a ∷ []) o = tt
small_units (a ∷ b ∷ bs) o = (omega (arith, o.0, o.1.0), small_units bs o.1.1)

pub scalars : (us : List ℕ) → Small us → Scalars (utf16 us)
unfolding Small utf16
scalars [] s = tt
scalars (u ∷ []) s = (alone_scalar u s.0, tt)
scalars (u ∷ v ∷ us) s = go (is_high u && is_low v) refl (scalars us s.1.1) (scalars (v ∷ us) s.1)
  where
    go : (b : Bool) → (is_high u && is_low v) ≡ b → Scalars (utf16 us) → Scalars (utf16 (v ∷ us))
        → Scalars (cond b (pair u v ∷ utf16 us) (alone u ∷ utf16 (v ∷ us)))
    go true t p q = (pair_scalar u v t, p)
    go false t p q = (alone_scalar u s.0, q)

pub recodes : (bs : List ℕ) → AreBytes bs → Utf8 (utf8_of bs) (utf16 (units bs))
unfolding utf8_of
recodes bs o = record { scalars = scalars (units bs) (small_units bs o); bytes = refl }

-- ---- the UTF-16 from a place on begins with a piece

pub lone_is : (u : ℕ) (us : List ℕ) → (is_high u && is_low (get_or us 0 0)) ≡ false → utf16 (u ∷ us) ≡ alone u ∷ utf16 us
unfolding utf16
lone_is u [] t = refl
lone_is u (v ∷ us) t = simp t

pub pair_is : (u v : ℕ) (us : List ℕ) → (is_high u && is_low v) ≡ true → utf16 (u ∷ v ∷ us) ≡ pair u v ∷ utf16 us
unfolding utf16
pair_is u v us t = simp t

module _ (s : List ℕ) (h : 2 ≤ length s) (small : first_unit s < 65536) where
  lone_first : (is_high (first_unit s) && is_low (first_unit (drop 2 s))) ≡ false → First s (piece_of (first_unit s) (first_unit (drop 2 s)))
  unfolding utf8_of encodes
  lone_first t =
      simp t
      (record {
        moves = omega arith;
        fits = h;
        begins = ap encodes (ap utf16 (units_cons s h) ∙ lone_is (first_unit s) (units (drop 2 s)) t);
        counts = ap unpaired (units_cons s h) ∙ lone_counts (first_unit s) (units (drop 2 s)) t;
      })

  paired : (is_high (first_unit s) && is_low (first_unit (drop 2 s))) ≡ true → First s (piece_of (first_unit s) (first_unit (drop 2 s)))
  unfolding utf8_of encodes
  paired t =
      let j = second (is_high (first_unit s)) (is_low (first_unit (drop 2 s))) t in
      let k : 2 ≤ length (drop 2 s) =
      by (ltb (length (drop 2 s)) 2)
      (λ w. let z = ap (λ (l : List ℕ). get_or l 0 0) (units_none (drop 2 s) (ltb-true _ _ w)) in absurd (omega (arith, z, least 0xDC00 0xDFFF (first_unit (drop 2 s)) j)))
      (λ w. ltb-false _ _ w) in
      let two = units_cons s h ∙ ap (λ (l : List ℕ). first_unit s ∷ l) (units_cons (drop 2 s) k ∙ ap (λ (l : List ℕ). first_unit (drop 2 s) ∷ units l) (drop-drop 2 2 s)) in
      simp t
      (record {
        moves = omega arith;
        fits = omega (arith, length-drop 2 s);
        begins = ap encodes (ap utf16 two ∙ pair_is (first_unit s) (first_unit (drop 2 s)) (units (drop 4 s)) t);
        counts = ap unpaired two ∙ pair_counts (first_unit s) (first_unit (drop 2 s)) (units (drop 4 s)) t ∙ sym (zero-add _);
      })

  pub first_is : First s (piece_of (first_unit s) (first_unit (drop 2 s)))
  first_is = by (is_high (first_unit s) && is_low (first_unit (drop 2 s))) paired lone_first

  -- a unit that is a scalar, whatever the next is
  pub scalar_is : (c : ℕ) → c ≡ first_unit s → IsScalar c → First s (record { scalar = c; width = 2; replaced = 0 })
  scalar_is c e k =
      let none : within 0xD800 0xDFFF c ≡ false =
      by (within 0xD800 0xDFFF c)
      (λ t. ⊎_elim (λ (h : c < 55296). absurd (omega (arith, least 0xD800 0xDFFF c t))) (λ h. absurd (omega (arith, h.0, most 0xD800 0xDFFF c t))) (scalar_cases c k))
      (λ f. f) in
      let lone = not_first (is_low (first_unit (drop 2 s))) (outside 0xD800 0xDFFF 0xD800 0xDBFF c (omega arith) (omega arith) none) in
      let piece = lone_piece c (first_unit (drop 2 s)) c 0 (sym (simp none)) (sym (simp none)) lone ∙ ap (λ (n : ℕ). piece_of n (first_unit (drop 2 s))) e in
      subst (First s) (sym piece) first_is

-- ---- both passes over UTF-16: what has been passed makes the n bytes `done`, and `rest` is left

pub record Passing (s rest : List ℕ) (n : ℕ) : Type 0 where
  pub done : List ℕ
  pub count : n ≡ length done
  pub whole : utf8_of s ≡ done ++ utf8_of rest

pub starts : (s : List ℕ) → Passing s s 0
starts s = record { done = []; count = refl; whole = refl }

module _ {s rest : List ℕ} {n : ℕ} (g : Passing s rest n) where
  pub all_done : length rest < 2 → utf8_of s ≡ g.done
  unfolding utf8_of encodes utf16
  all_done h = g.whole ∙ ap (λ (l : List ℕ). g.done ++ encodes (utf16 l)) (units_none rest h) ∙ append-nil g.done

  pub so_far : n ≤ length (utf8_of s)
  so_far = omega (arith, ap length g.whole, length-append g.done (utf8_of rest), g.count)

  pub all_counted : length rest < 2 → n ≡ length (utf8_of s)
  all_counted h = g.count ∙ sym (ap length (all_done h))

  pub passes : {r : Piece} → First rest r → Passing s (drop r.width rest) (n + length (encode r.scalar))
  passes {r} f =
      record {
        done = g.done ++ encode r.scalar;
        count = omega (arith, length-append g.done (encode r.scalar), g.count);
        whole = g.whole ∙ ap (λ (l : List ℕ). g.done ++ l) f.begins ∙ sym (append_assoc g.done (encode r.scalar) (utf8_of (drop r.width rest)));
      }

-- what is written to the rest of a buffer stands behind its front
put_tail : (d part : List ℕ) (at : ℕ) → at ≤ length d → put_mid at (length d - at) d part ≡ take at d ++ part
put_tail d part at h =
    ap (λ (r : List ℕ). take at d ++ (part ++ r)) (Post-is at (length d) d h ∙ drop_of_length-le d {i = length d} (omega arith))
    ∙ ap (λ (r : List ℕ). take at d ++ r) (append-nil part)

-- the second pass: behind the bytes so far the buffer is as it was
pub record Putting (s old rest new : List ℕ) (n : ℕ) : Type 0 where
  pub pass : Passing s rest n
  pub bytes : new ≡ pass.done ++ drop n old

pub put_starts : (s old : List ℕ) → Putting s old s old 0
unfolding starts
put_starts s old = record { pass = starts s; bytes = refl }

module _ {s old rest new : List ℕ} {n : ℕ} (g : Putting s old rest new n) (fit : length (utf8_of s) ≤ length old) where
  pub same : length new ≡ length old
  same = omega (arith, ap length g.bytes, length-append g.pass.done (drop n old), length-drop n old, so_far g.pass, g.pass.count)

  pub put_done : length rest < 2 → (n ≡ length (utf8_of s)) × (new ≡ utf8_of s ++ drop n old)
  put_done h = let e = all_done g.pass h in (all_counted g.pass h, g.bytes ∙ ap (λ (l : List ℕ). l ++ drop n old) (sym e))

  module _ {r : Piece} (f : First rest r) where
    pub put_fits : n + length (encode r.scalar) ≤ length new
    put_fits = omega (arith, same, so_far (passes g.pass f))

    -- the scalar's bytes at the start of what is left of the buffer
    pub put_on : (m : ℕ) (part behind : List ℕ) → behind ≡ drop r.width rest → m ≡ length (encode r.scalar) → part ≡ encode r.scalar ++ drop (length (encode r.scalar)) (take (length new - n) (drop n new))
        → Putting s old behind (put_mid n (length new - n) new part) (n + m)
    unfolding passes
    put_on m part behind q e p =
        let h : n ≤ length new = omega (arith, put_fits) in
        let d = g.pass.done in
        let front = ap (take n) g.bytes ∙ take_at d (drop n old) n (sym g.pass.count) in
        let left = ap (drop n) g.bytes ∙ drop_at d (drop n old) n (sym g.pass.count) in
        let all = take_all (length new - n) (drop n new) (omega (arith, length-drop n new)) in
        let kept = ap (drop (length (encode r.scalar))) (all ∙ left) ∙ drop-drop (length (encode r.scalar)) n old in
        let tail = ap (λ (l : List ℕ). encode r.scalar ++ l) kept in
        rw (q, e)
        (record {
          pass = passes g.pass f;
          bytes = put_tail new part n h ∙ ap₂ (λ (x y : List ℕ). x ++ y) front (p ∙ tail) ∙ sym (append_assoc d (encode r.scalar) (drop (n + length (encode r.scalar)) old));
        })

few_units : (bs : List ℕ) → 2 * length (units bs) ≤ length bs
few_units [] = omega arith
few_units (a ∷ []) = omega arith
few_units (a ∷ b ∷ bs) = omega (arith, few_units bs)

-- ---- the units that were replaced so far, and those that are to come

abbrev pub Counting : List ℕ → List ℕ → ℕ → Type 0
Counting s rest m = m + unpaired (units rest) ≡ unpaired (units s)

pub count_starts : (s : List ℕ) → Counting s s 0
count_starts s = zero-add _

module _ (s rest : List ℕ) (m : ℕ) (g : Counting s rest m) where
  pub count_done : length rest < 2 → m ≡ unpaired (units s)
  unfolding unpaired
  count_done h = omega (arith, g, ap unpaired (units_none rest h))

  module _ (r : Piece) (f : First rest r) where
    pub count_on : (behind : List ℕ) → behind ≡ drop r.width rest → Counting s behind (m + r.replaced)
    count_on behind q = rw q (omega (arith, g, f.counts))

    pub count_fits : m + r.replaced ≤ length s
    count_fits = omega (arith, g, f.counts, few_unpaired (units s), few_units s)

-- ---- how long the UTF-8 is at most

few_scalars : (us : List ℕ) → length (utf16 us) ≤ length us
unfolding utf16
few_scalars [] = omega arith
few_scalars (u ∷ []) = omega arith
few_scalars (u ∷ v ∷ us) = go (is_high u && is_low v) (few_scalars us) (few_scalars (v ∷ us))
  where
    go : (b : Bool) → length (utf16 us) ≤ length us → length (utf16 (v ∷ us)) ≤ length (v ∷ us)
        → length (cond b (pair u v ∷ utf16 us) (alone u ∷ utf16 (v ∷ us))) ≤ length (u ∷ v ∷ us)
    go true p q = omega arith
    go false p q = omega arith

few_bytes : (cs : List ℕ) → length (encodes cs) ≤ 4 * length cs
unfolding encodes
few_bytes [] = omega arith
few_bytes (c ∷ cs) = omega (arith, few_bytes cs, (encode_length c).1, length-append (encode c) (encodes cs))

pub twice : (bs : List ℕ) → length (utf8_of bs) ≤ 2 * length bs
unfolding utf8_of
twice bs = omega (arith, few_bytes (utf16 (units bs)), few_scalars (units bs), few_units bs)

-- ---- for callers: an answer that says a count

module _ {q : Option Recoded} {r : Recoded} (e : q ≡ Some r) where
  pub said_bytes : {old new text : List ℕ} → Puts (bytes_of q) old new text → Puts (Some r.bytes) old new text
  said_bytes {old} {new} {text} p = subst (λ (x : Option Recoded). Puts (bytes_of x) old new text) e p

  pub said_replaced : {n : ℕ} → IfSome q (λ x. x.replaced ≡ n) → r.replaced ≡ n
  said_replaced {n} p = subst (λ (x : Option Recoded). IfSome x (λ y. y.replaced ≡ n)) e p
