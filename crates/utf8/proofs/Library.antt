-- The library's UTF-8, character by character, is that of the definitions.
use mathlib.Core.Path.{◌≡◌, refl, sym, ap, ap₂, ◌∙◌, subst}
use mathlib.Core.Logic.{⊎_elim}
use mathlib.Core.Bool.{true, false≢true}
use mathlib.Core.List.{List, [], ◌∷◌, ◌++◌, append_assoc, append-nil}
use Prim.Native.Nat.{ℕ, zero, suc, ◌/◌, ◌≤◌, ◌<◌}
use native.Mathlib.Omega.{arith}
use lib.ListN.{length, take, drop, length-append, take-append-drop}
use lib.Seq.{take_at, length-take-le}
use lib.Utf8.{scalar, scalars, scalar_cases}
use lib.Utf8.{encode as their_encode, encodes as their_encodes}
use borrow.Author.Tests.{lt-ltb, le-ltb, le-leb}
use Rattle.std.specs.Prelude.{MatchOption, Option, None, Some, slice_get}
use Rattle.std.specs.Option.{option_or}
use Rattle.std.specs.Str.{IsUtf8, chars}
use Rattle.std.proofs.lemmas.Str.{chars-encodes}
use Rattle.utf8.specs.Utf8.{Front, Scalar, Scalars, Utf8, encode, encodes, front, front_in, Decoded, bad, text, decode}
use Rattle.utf8.proofs.Cases.{both, first, second}
use Rattle.utf8.proofs.Decodes.{encode_length, inverts, exactly, decoded}
use Rattle.utf8.proofs.Fronts.{found, right}

pub is_scalar : (c : ℕ) → Scalar c → scalar c ≡ true
is_scalar c s = ⊎_elim low above s
  where
    low : c < 0xD800 → scalar c ≡ true
    low h = simp (lt-ltb _ _ h)

    above : (0xE000 ≤ c) × (c < 0x110000) → scalar c ≡ true
    above h = let g : 0xD800 ≤ c = omega arith in simp (le-ltb _ _ g, le-leb _ _ h.0, lt-ltb _ _ h.1)

pub are_scalars : (cs : List ℕ) → Scalars cs → scalars cs ≡ true
are_scalars [] s = refl
are_scalars (c ∷ cs) s = both (is_scalar c s.0) (are_scalars cs s.1)

pub from_scalars : (cs : List ℕ) → scalars cs ≡ true → Scalars cs
from_scalars [] s = tt
from_scalars (c ∷ cs) s = (scalar_cases c (first (scalar c) (scalars cs) s), from_scalars cs (second (scalar c) (scalars cs) s))

pub same_encode : (c : ℕ) → their_encode c ≡ encode c
unfolding their_encode
same_encode c = let p : c / 4096 ≡ c / 64 / 64 = omega arith in let q : c / 262144 ≡ c / 64 / 64 / 64 = omega arith in rw (p, q) refl

pub same_encodes : (cs : List ℕ) → their_encodes cs ≡ encodes cs
unfolding encodes
same_encodes [] = refl
same_encodes (c ∷ cs) = ap₂ (λ (x y : List ℕ). x ++ y) (same_encode c) (same_encodes cs)

pub spells : (bs cs : List ℕ) → Utf8 bs cs → chars bs ≡ cs
spells bs cs u = ap chars (u.bytes ∙ sym (same_encodes cs)) ∙ chars-encodes cs (are_scalars cs u.scalars)

-- what a `str` holds
pub is_text : (bs : List ℕ) → IsUtf8 bs → decode bs ≡ text (chars bs)
is_text bs i =
    let u : Utf8 bs i.0 = record { scalars = from_scalars i.0 i.1.0; bytes = sym i.1.1 ∙ same_encodes i.0 } in
    (exactly bs i.0).1 u ∙ ap text (sym (spells bs i.0 u))

-- what none holds
pub no_text : (bs : List ℕ) → ¬ (IsUtf8 bs) → decode bs ≡ bad
no_text bs n = go (decode bs) refl
  where
    go : (d : Decoded) → decode bs ≡ d → d ≡ bad
    go bad e = refl
    go (text cs) e = let u = decoded bs cs e in absurd (n (cs, (are_scalars cs u.scalars, same_encodes cs ∙ sym u.bytes)))

-- ---- the scalar at the front of some bytes, by a text that they begin with

-- whether the first n bytes are a text, which then tells the scalar
abbrev pub Tells : ℕ → List ℕ → Option ℕ → Type 0
Tells n l r = MatchOption r (n ≤ length l → decode (take n l) ≡ bad) (λ c. front c (length (encode c)) ≡ front_in l)

pub text_tells : (l cs : List ℕ) (n : ℕ) → 1 ≤ n → n ≤ length l → Utf8 (take n l) cs → Tells n l (slice_get cs 0)
unfolding encodes
text_tells l [] n h k u = absurd (omega (arith, ap length u.bytes, length-take-le n l k))
text_tells l (c ∷ cs) n h k u =
    let whole = sym (take-append-drop n l) ∙ ap (λ (p : List ℕ). p ++ drop n l) u.bytes ∙ append_assoc (encode c) (encodes cs) (drop n l) in
    found c (encodes cs ++ drop n l) u.scalars.0 ∙ ap front_in (sym whole)

-- one of the first four lengths is the scalar's, if there is one
by_width : (P : ℕ → Type 0) → P 1 → P 2 → P 3 → P 4 → (n : ℕ) → 1 ≤ n → n ≤ 4 → P n
by_width P a b c d zero h k = absurd (omega arith)
by_width P a b c d (suc zero) h k = a
by_width P a b c d (suc (suc zero)) h k = b
by_width P a b c d (suc (suc (suc zero))) h k = c
by_width P a b c d (suc (suc (suc (suc zero)))) h k = d
by_width P a b c d (suc (suc (suc (suc (suc n))))) h k = absurd (omega arith)

no_front : (l : List ℕ) → 1 ≤ length l → Tells 1 l None → Tells 2 l None → Tells 3 l None → Tells 4 l None → None ≡ front_in l
unfolding encodes
no_front l h p q r s = go (front_in l) refl
  where
    go : (f : Option Front) → front_in l ≡ f → None ≡ f
    go None e = refl
    go (Some x) e =
        let f = right l x.scalar x.width h e in
        let w = encode_length x.scalar in
        let n = length (encode x.scalar) in
        let fits : n ≤ length l = omega (arith, ap length f.whole, length-append (encode x.scalar) (drop x.width l)) in
        let one = ap (take n) f.whole ∙ take_at (encode x.scalar) (drop x.width l) n refl ∙ sym (append-nil (encode x.scalar)) in
        let is : decode (take n l) ≡ text (x.scalar ∷ []) = ap decode one ∙ inverts (x.scalar ∷ []) (f.scalar, tt) in
        let not : decode (take n l) ≡ bad = by_width (λ (k : ℕ). Tells k l None) p q r s n w.0 w.1 fits in
        absurd (false≢true cc)

abbrev pub IsFront : List ℕ → Option ℕ → Type 0
IsFront l r = MatchOption r (None ≡ front_in l) (λ c. front c (length (encode c)) ≡ front_in l)

front_is : (l : List ℕ) → 1 ≤ length l → (a b c d : Option ℕ) → Tells 1 l a → Tells 2 l b → Tells 3 l c → Tells 4 l d
    → IsFront l (option_or (option_or (option_or a b) c) d)
front_is l h (Some x) b c d p q r s = p
front_is l h None (Some x) c d p q r s = q
front_is l h None None (Some x) d p q r s = r
front_is l h None None None (Some x) p q r s = s
front_is l h None None None None p q r s = no_front l h p q r s

pub front_told : (l m : List ℕ) → m ≡ l → 1 ≤ length l → (a b c d x y z : Option ℕ) → Tells 1 m a → Tells 2 m b → Tells 3 m c → Tells 4 m d
    → x ≡ option_or a b → y ≡ option_or x c → z ≡ option_or y d → IsFront l z
front_told l m e h a b c d x y z p q r s i j k =
    let on = λ (n : ℕ) (o : Option ℕ) (t : Tells n m o). subst (λ (v : List ℕ). Tells n v o) e t in
    let all = k ∙ ap (λ (v : Option ℕ). option_or v d) (j ∙ ap (λ (v : Option ℕ). option_or v c) i) in
    subst (IsFront l) (sym all) (front_is l h a b c d (on 1 a p) (on 2 b q) (on 3 c r) (on 4 d s))
