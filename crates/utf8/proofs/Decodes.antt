-- The decoder accepts the UTF-8 of scalars, all of it and nothing else, and gives the scalars back.
use mathlib.Core.Path.{◌≡◌, refl, sym, ap, ◌∙◌}
use mathlib.Core.Bool.{false≢true}
use mathlib.Core.Logic.{◌↔◌}
use mathlib.Core.List.{List, [], ◌∷◌, ◌++◌}
use Prim.Native.Nat.{ℕ, suc, ◌-◌, ◌≤◌}
use Rattle.std.specs.Prelude.{Option, None, Some}
use native.Mathlib.Omega.{arith}
use lib.ListN.{length, drop}
use Rattle.utf8.specs.Utf8.{Front, Scalar, Scalars, Utf8, encode, encodes, front_in, Decoded, bad, text, behind, front, pursue, walk, decode}
use Rattle.utf8.proofs.Fronts.{encode_1, encode_2, encode_3, encode_4, by_length, found, Found, right}

pub encode_length : (c : ℕ) → (1 ≤ length (encode c)) × (length (encode c) ≤ 4)
encode_length c =
    by_length c (λ h. rw (encode_1 c h) (omega arith)) (λ g h. rw (encode_2 c g h) (omega arith)) (λ g h. rw (encode_3 c g h) (omega arith))
    (λ g. rw (encode_4 c g) (omega arith))

-- ---- from scalars to bytes and back

-- to pass over bytes that are there
skip : (p r : List ℕ) → walk (length p) (p ++ r) ≡ walk 0 r
skip [] r = refl
skip (b ∷ p) r = skip p r

pub walk_encode : (x : ℕ) (r : List ℕ) → Scalar x → walk 0 (encode x ++ r) ≡ behind x (walk 0 r)
walk_encode x r s = go (encode x) (encode_length x).0 (found x r s)
  where
    go : (l : List ℕ) → 1 ≤ length l → front x (length l) ≡ front_in (l ++ r) → walk 0 (l ++ r) ≡ behind x (walk 0 r)
    go [] h e = absurd (omega arith)
    go (b ∷ l) h e =
        let k : suc (length l) - 1 ≡ length l = omega arith in
        ap (pursue (λ k. walk k (l ++ r))) (sym e) ∙ ap (λ (n : ℕ). behind x (walk n (l ++ r))) k ∙ ap (behind x) (skip l r)

pub inverts : (cs : List ℕ) → Scalars cs → decode (encodes cs) ≡ text cs
unfolding encodes decode
inverts [] s = refl
inverts (c ∷ cs) s = walk_encode c (encodes cs) s.0 ∙ ap (behind c) (inverts cs s.1)

-- ---- from bytes to scalars and back

-- what is found at the front is walked over
pub onward : {l : List ℕ} {c w : ℕ} → Found l c w → walk 0 l ≡ behind c (walk 0 (drop w l))
onward {l} {c} {w} f = ap (walk 0) f.whole ∙ walk_encode c (drop w l) f.scalar

record Next (l cs : List ℕ) : Type 0 where
  c : ℕ
  w : ℕ
  ds : List ℕ
  is : Found l c w
  rest : walk 0 (drop w l) ≡ text ds
  all : cs ≡ c ∷ ds

next : (a : ℕ) (l cs : List ℕ) → walk 0 (a ∷ l) ≡ text cs → Next (a ∷ l) cs
next a l cs e = go (front_in (a ∷ l)) refl e
  where
    behind_is : {w : ℕ} (c : ℕ) → Found (a ∷ l) c w → (d : Decoded) → walk 0 (drop w (a ∷ l)) ≡ d → behind c d ≡ text cs → Next (a ∷ l) cs
    behind_is c f bad p q = absurd (false≢true cc)
    behind_is {w} c f (text ds) p q = record { c = c; w = w; ds = ds; is = f; rest = p; all = cc }

    go : (f : Option Front) → front_in (a ∷ l) ≡ f → pursue (λ k. walk k l) f ≡ text cs → Next (a ∷ l) cs
    go None p q = absurd (false≢true cc)
    go (Some x) p q = let f = right (a ∷ l) x.scalar x.width (omega arith) p in behind_is x.scalar f (walk 0 (drop x.width (a ∷ l))) refl (sym (onward f) ∙ e)

accepted : (cs bs : List ℕ) → walk 0 bs ≡ text cs → Utf8 bs cs
unfolding encodes
accepted [] [] e = record { scalars = tt; bytes = refl }
accepted [] (a ∷ l) e = let n = next a l [] e in absurd (false≢true cc)
accepted (c ∷ cs) [] e = absurd (false≢true cc)
accepted (c ∷ cs) (a ∷ l) e =
    let n = next a l (c ∷ cs) e in
    let p : n.c ≡ c = cc in
    let q : n.ds ≡ cs = cc in
    let r = accepted cs (drop n.w (a ∷ l)) (n.rest ∙ ap text q) in
    record {
      scalars = (rw p at n.is.scalar, r.scalars);
      bytes = n.is.whole ∙ ap (λ (x : ℕ). encode x ++ drop n.w (a ∷ l)) p ∙ ap (λ (k : List ℕ). encode c ++ k) r.bytes;
    }

pub decoded : (bs cs : List ℕ) → decode bs ≡ text cs → Utf8 bs cs
unfolding decode
decoded bs cs e = accepted cs bs e

pub exactly : (bs cs : List ℕ) → (decode bs ≡ text cs) ↔ Utf8 bs cs
exactly bs cs = (decoded bs cs, λ u. ap decode u.bytes ∙ inverts cs u.scalars)
