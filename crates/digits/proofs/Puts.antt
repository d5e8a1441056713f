-- Texts put one behind the other.
use mathlib.Core.Path.{◌≡◌, refl, sym, ap, ◌∙◌, subst}
use mathlib.Core.List.{List, [], ◌∷◌, ◌++◌, append_assoc}
use Prim.Native.Nat.{ℕ, ◌+◌, ◌≤◌, ◌<◌}
use native.Mathlib.Nat.{add-zero}
use native.Mathlib.Numerals.{add-one}
use native.Mathlib.Omega.{arith}
use lib.ListN.{length, take, drop, set, length-append, length-set, take-append-drop}
use lib.Seq.{length-take-le, take_at, drop_at, drop-drop, set_split}
use Rattle.digits.specs.Put.{Put, Puts}
use Rattle.digits.specs.declared.Pen.{Pen}

-- the bytes before, a text, and the bytes behind it
module _ (old : List ℕ) (at : ℕ) (l : List ℕ) (r : ℕ) (fits : at ≤ length old) (e : r ≡ at + length l) where
  before_long : length (take at old ++ l) ≡ r
  before_long = length-append (take at old) l ∙ rw (length-take-le at old fits) (sym e)

  abbrev with_text : List ℕ
  with_text = take at old ++ (l ++ drop r old)

  take_text : take r with_text ≡ take at old ++ l
  take_text = ap (take r) (sym (append_assoc (take at old) l (drop r old))) ∙ take_at (take at old ++ l) (drop r old) r before_long

  drop_text : drop r with_text ≡ drop r old
  drop_text = ap (drop r) (sym (append_assoc (take at old) l (drop r old))) ∙ drop_at (take at old ++ l) (drop r old) r before_long

-- the bytes up to behind the text
pub put_text : {l x y : List ℕ} {a b : ℕ} → Put l a x b y → take b y ≡ take a x ++ l
put_text {l} {x} {y} {a} {b} p = ap (take b) p.holds ∙ take_text x a l b (omega (arith, p.next, p.fits)) p.next

pub put_then : {l m x y z : List ℕ} {a b c : ℕ} → Put l a x b y → Put m b y c z → Put (l ++ m) a x c z
put_then {l} {m} {x} {y} {z} {a} {b} {c} p q =
    let h : a ≤ length x = omega (arith, p.next, p.fits) in
    let behind : drop c y ≡ drop c x =
    ap (λ k. drop k y) q.next
    ∙ sym (drop-drop (length m) b y)
    ∙ ap (drop (length m)) (ap (drop b) p.holds ∙ drop_text x a l b h p.next)
    ∙ drop-drop (length m) b x
    ∙ ap (λ k. drop k x) (sym q.next) in
    record {
      next = omega (arith, length-append l m, p.next, q.next);
      fits = omega (arith, q.fits, p.same);
      same = q.same ∙ p.same;
      holds = q.holds ∙ rw (put_text p, behind) (append_assoc (take a x) l (m ++ drop c x) ∙ ap (λ t. take a x ++ t) (sym (append_assoc l m (drop c x))));
    }

-- the same text, said otherwise
pub put_as : {l m x y : List ℕ} {a b : ℕ} → l ≡ m → Put l a x b y → Put m a x b y
put_as {x = x} {y} {a} {b} e p = subst (λ t. Put t a x b y) e p

pub put_one : (old : List ℕ) (at b : ℕ) → at < length old → Put (b ∷ []) at old (at + 1) (set old at b)
put_one old at b h = record { next = refl; fits = omega arith; same = length-set old at b; holds = rw add-one (set_split old at b h) }

pub put_none : {old : List ℕ} {at : ℕ} → at ≤ length old → Put [] at old at old
put_none {old} {at} h = record { next = sym (add-zero at); fits = h; same = refl; holds = sym (take-append-drop at old) }

-- ---- by a pen

pub puts_then : {l m : List ℕ} {p q r : Pen} → Puts l p q → Puts m q r → Puts (l ++ m) p r
puts_then a b = record { put = put_then a.put b.put; same_reference = b.same_reference ∙ a.same_reference }

pub puts_as : {l m : List ℕ} {p q : Pen} → l ≡ m → Puts l p q → Puts m p q
puts_as {p = p} {q} e a = subst (λ t. Puts t p q) e a

pub puts_none : {p : Pen} → p.at ≤ length p.out.now → Puts [] p p
puts_none h = record { put = put_none h; same_reference = refl }

-- the same pen, said otherwise
pub puts_to : {l : List ℕ} {p q r : Pen} → r ≡ q → Puts l p q → Puts l p r
puts_to {l} {p} e a = subst (λ x. Puts l p x) (sym e) a

-- where the pen is laid down, the memory is as it left it
pub put_end : {l old new last : List ℕ} {at r : ℕ} → last ≡ new → Put l at old r new → Put l at old r last
put_end {l} {old} {at = at} {r} e p = subst (λ x. Put l at old r x) (sym e) p
