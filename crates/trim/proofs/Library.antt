-- The library's `trim_start` and `trim_end` leave the scalars that the definitions leave.
use mathlib.Core.Path.{◌≡◌, refl, sym, ap, ap₂, ◌∙◌}
use mathlib.Core.Bool.{Bool, true, false, cond, ◌&&◌, ◌||◌}
use mathlib.Core.List.{List, [], ◌∷◌}
use Prim.Native.Nat.{ℕ, suc, ◌-◌}
use native.Mathlib.Omega.{arith}
use Rattle.std.proofs.lemmas.Bool.Decides.{nat_tests}
use lib.Dec.{eqb, ltb}
use lib.Utf8.{encodes as their_encodes}
use lib.ListN.{length, length-append}
use borrow.Author.Tests.{ne_eqb}
use Rattle.std.specs.Prelude.{None}
use Rattle.std.specs.Char.{is_whitespace}
use Rattle.std.specs.Str.{chars, skip_leading_whitespace, drop_trailing_whitespace, trim_start as their_start, trim_end as their_end}
use Rattle.std.proofs.lemmas.Str.{chars-encodes}
use Rattle.utf8.specs.Utf8.{within, Scalars, encodes, bad, text, decode}
use Rattle.utf8.proofs.Decodes.{decoded}
use Rattle.utf8.proofs.Library.{are_scalars, same_encodes}
use Rattle.trim.specs.WhiteSpace.{at, white, leading, trim_start, keep, trim_end, trim, placed, trimmed_of}
use Rattle.trim.proofs.Stands.{start_is, encodes_append}

-- ---- white space

single : (n c : ℕ) → within n n c ≡ eqb c n
single n c = grind (arith, nat_tests)

range : (l h c : ℕ) → within (suc l) h c ≡ (ltb l c && ltb c (suc h))
range l h c = grind (arith, nat_tests)

two : (c n m : ℕ) → suc n ≡ m → within n m c ≡ (eqb c n || eqb c m)
two c n m e = grind (arith, nat_tests)

-- eleven tests, whichever way they are joined
joined : (a b c d e f g h i j k : Bool) → (a || (b || (c || (d || (e || (f || ((g || h) || (i || (j || (k || false)))))))))) ≡ ((((((((((a || b) || c) || d) || e) || f) || g) || h) || i) || j) || k)
joined true b c d e f g h i j k = refl
joined false true c d e f g h i j k = refl
joined false false true d e f g h i j k = refl
joined false false false true e f g h i j k = refl
joined false false false false true f g h i j k = refl
joined false false false false false true g h i j k = refl
joined false false false false false false true h i j k = refl
joined false false false false false false false true i j k = refl
joined false false false false false false false false true j k = refl
joined false false false false false false false false false true k = refl
joined false false false false false false false false false false true = refl
joined false false false false false false false false false false false = refl

-- the library lists them one by one
white_is : (c : ℕ) → white c ≡ is_whitespace c
unfolding white
white_is c =
    rw (range 8 13 c, single 32 c, single 133 c, single 160 c, single 5760 c, range 8191 8202 c, two c 8232 8233 refl, single 8239 c, single 8287 c, single 12288 c)
    (joined (ltb 8 c && ltb c 14) (eqb c 32) (eqb c 133) (eqb c 160) (eqb c 5760) (ltb 8191 c && ltb c 8203) (eqb c 8232) (eqb c 8233) (eqb c 8239) (eqb c 8287) (eqb c 12288))

-- ---- scalars

skips : (cs : List ℕ) → skip_leading_whitespace cs ≡ trim_start cs
unfolding trim_start
skips [] = refl
skips (c ∷ cs) = ap₂ (λ (w : Bool) (l : List ℕ). cond w l (c ∷ cs)) (sym (white_is c)) (skips cs)

drops : (cs : List ℕ) → drop_trailing_whitespace cs ≡ trim_end cs
unfolding trim_end
drops [] = refl
drops (c ∷ cs) =
    ap₂ (λ (w : Bool) (l : List ℕ). cond (w && eqb (length l) 0) [] (c ∷ l)) (sym (white_is c)) (drops cs) ∙ kept (white c) refl (trim_end cs)
  where
    kept : (w : Bool) → white c ≡ w → (l : List ℕ) → cond (white c && eqb (length l) 0) [] (c ∷ l) ≡ keep c l
    kept true e [] = simp e
    kept true e (d ∷ l) = simp (e, ne_eqb (suc (length l)) 0 (omega arith))
    kept false e [] = simp e
    kept false e (d ∷ l) = simp e

pub start_scalars : (cs : List ℕ) → Scalars cs → Scalars (trim_start cs)
unfolding trim_start
start_scalars [] s = tt
start_scalars (c ∷ cs) s = go (white c) (start_scalars cs s.1)
  where
    go : (w : Bool) → Scalars (trim_start cs) → Scalars (cond w (trim_start cs) (c ∷ cs))
    go true on = on
    go false on = s

-- ---- the text

module _ (bs : List ℕ) (e : decode bs ≡ text (chars bs)) where
  behind : their_start bs ≡ encodes (trim_start (chars bs))
  unfolding their_start
  behind = same_encodes _ ∙ ap encodes (skips (chars bs))

  left : their_end (their_start bs) ≡ encodes (trim (chars bs))
  unfolding their_end trim
  left =
      let s = start_scalars (chars bs) (decoded bs (chars bs) e).scalars in
      let cs = trim_start (chars bs) in
      let spelt = ap chars (behind ∙ sym (same_encodes cs)) ∙ chars-encodes cs (are_scalars cs s) in
      ap (λ (l : List ℕ). their_encodes (drop_trailing_whitespace l)) spelt ∙ same_encodes _ ∙ ap encodes (drops cs)

  taken : length bs - length (their_start bs) ≡ length (encodes (leading (chars bs)))
  taken =
      let whole = (decoded bs (chars bs) e).bytes ∙ ap encodes (start_is (chars bs)) ∙ encodes_append (leading (chars bs)) (trim_start (chars bs)) in
      omega (arith, ap length whole, ap length behind, length-append (encodes (leading (chars bs))) (encodes (trim_start (chars bs))))

  pub placed_by : at (length bs - length (their_start bs)) (length (their_end (their_start bs))) ≡ trimmed_of bs
  unfolding trimmed_of
  placed_by = ap₂ at taken (ap length left) ∙ sym (ap placed e)

pub unplaced : (bs : List ℕ) → decode bs ≡ bad → None ≡ trimmed_of bs
unfolding trimmed_of
unplaced bs e = sym (ap placed e)
