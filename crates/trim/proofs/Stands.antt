-- What stands at the trimmed place is the UTF-8 of the trimmed scalars.
use mathlib.Core.Path.{◌≡◌, refl, sym, ap, ◌∙◌}
use mathlib.Core.Bool.{Bool, true, false, cond, false≢true}
use mathlib.Core.List.{List, [], ◌∷◌, ◌++◌, append_assoc}
use Prim.Native.Nat.{ℕ, ◌+◌, ◌≤◌}
use native.Mathlib.Omega.{arith}
use lib.ListN.{length, take, drop, length-append}
use lib.Seq.{take_at, drop_at}
use Rattle.utf8.specs.Utf8.{encode, encodes, Utf8, Decoded, bad, text, decode}
use Rattle.trim.specs.WhiteSpace.{at, white, leading, trim_start, keep, trim_end, trim, placed, trimmed_of, Stands, Means}
use Rattle.utf8.proofs.Decodes.{decoded, exactly}

pub encodes_append : (a b : List ℕ) → encodes (a ++ b) ≡ encodes a ++ encodes b
unfolding encodes
encodes_append [] b = refl
encodes_append (c ∷ cs) b = ap (λ (l : List ℕ). encode c ++ l) (encodes_append cs b) ∙ sym (append_assoc (encode c) (encodes cs) (encodes b))

pub start_is : (cs : List ℕ) → cs ≡ leading cs ++ trim_start cs
unfolding leading trim_start
start_is [] = refl
start_is (c ∷ cs) = go (white c) (start_is cs)
  where
    go : (w : Bool) → cs ≡ leading cs ++ trim_start cs → c ∷ cs ≡ cond w (c ∷ leading cs) [] ++ cond w (trim_start cs) (c ∷ cs)
    go true e = ap (λ (l : List ℕ). c ∷ l) e
    go false e = refl

pub end_is : (cs : List ℕ) → (r : List ℕ) × (cs ≡ trim_end cs ++ r)
unfolding trim_end
end_is [] = ([], refl)
end_is (c ∷ cs) = go (trim_end cs) (end_is cs)
  where
    nothing : (w : Bool) → (q : List ℕ) × (c ∷ cs ≡ cond w [] (c ∷ []) ++ q)
    nothing true = (c ∷ cs, refl)
    nothing false = (cs, refl)

    go : (t : List ℕ) → (r : List ℕ) × (cs ≡ t ++ r) → (q : List ℕ) × (c ∷ cs ≡ keep c t ++ q)
    go [] p = nothing (white c)
    go (d ∷ ds) p = (p.0, ap (λ (l : List ℕ). c ∷ l) p.1)

stands : (bs cs : List ℕ) → Utf8 bs cs → Stands bs (length (encodes (leading cs))) (length (encodes (trim cs)))
unfolding trim
stands bs cs u =
    let t = end_is (trim_start cs) in
    record {
      scalars = cs;
      utf8 = u;
      front = encodes (leading cs);
      rest = encodes t.0;
      whole =
          u.bytes ∙ ap encodes (start_is cs ∙ ap (λ (l : List ℕ). leading cs ++ l) t.1) ∙ encodes_append (leading cs) (trim_end (trim_start cs) ++ t.0)
          ∙ ap (λ (l : List ℕ). encodes (leading cs) ++ l) (encodes_append (trim_end (trim_start cs)) t.0);
      start = refl;
      count = refl;
    }

pub means : (bs : List ℕ) → Means bs (trimmed_of bs)
unfolding trimmed_of
means bs = go (decode bs) refl
  where
    go : (d : Decoded) → decode bs ≡ d → Means bs (placed d)
    go bad e = λ cs u. false≢true (cc ((exactly bs cs).1 u))
    go (text cs) e = stands bs cs (decoded bs cs e)

-- ---- for callers: the place lies in the bytes, and holds the text

pub stands_at : (bs : List ℕ) (p n : ℕ) → trimmed_of bs ≡ at p n → Stands bs p n
stands_at bs p n e = rw e at (means bs)

pub inside_bounds : {bs : List ℕ} {p n : ℕ} → Stands bs p n → p + n ≤ length bs
inside_bounds s =
    omega (arith, ap length s.whole, s.start, s.count, length-append s.front (encodes (trim s.scalars) ++ s.rest), length-append (encodes (trim s.scalars)) s.rest)

pub holds_text : {bs : List ℕ} {p n : ℕ} (s : Stands bs p n) → take n (drop p bs) ≡ encodes (trim s.scalars)
holds_text {bs} {p} {n} s =
    ap (λ (l : List ℕ). take n (drop p l)) s.whole ∙ ap (take n) (drop_at s.front (encodes (trim s.scalars) ++ s.rest) p (sym s.start))
    ∙ take_at (encodes (trim s.scalars)) s.rest n (sym s.count)
