-- Bytes put into a buffer.
use mathlib.Core.Path.{◌≡◌, sym, ap, ◌∙◌}
use mathlib.Core.Bool.{false≢true}
use mathlib.Core.List.{List, ◌++◌}
use Prim.Native.Nat.{ℕ, ◌+◌, ◌≤◌, ◌<◌}
use native.Mathlib.Nat.{zero-add}
use native.Mathlib.Numerals.{add-one}
use native.Mathlib.Omega.{arith}
use lib.Dec.{leb}
use lib.ListN.{length, take, drop, set, get_or}
use lib.Seq.{paste, paste-suc, take-length, take_at, drop_at, drop-drop}
use borrow.Author.Tests.{le-leb, lt-leb, leb-true, leb-false}
use borrow.Table.Steps.{cases as by}
use Rattle.std.specs.Prelude.{None, Some}
use Rattle.written.specs.Written.{written}

-- one byte more
pub paste_on : (d s new : List ℕ) (at i : ℕ) → new ≡ paste d at s i → at + i < length d → i < length s → set new (at + i) (get_or s i 0) ≡ paste d at s (i + 1)
paste_on d s new at i e g h = rw add-one (ap (λ (l : List ℕ). set l (at + i) (get_or s i 0)) e ∙ paste-suc d at s i 0 g h)

pub paste_more : (d s new : List ℕ) (i : ℕ) → new ≡ paste d 0 s i → i < length d → i < length s → set new i (get_or s i 0) ≡ paste d 0 s (i + 1)
paste_more d s new i e g h =
    ap (λ (j : ℕ). set new j (get_or s i 0)) (sym (zero-add i)) ∙ paste_on d s new 0 i e (omega arith) h

pub paste_start : (d l : List ℕ) → paste d 0 l (length l) ≡ l ++ drop (length l) d
paste_start d l = rw (zero-add (length l)) (ap (λ (k : List ℕ). k ++ drop (length l) d) (take-length l))

-- l behind what is there already
pub paste_next : (d done l : List ℕ) (n : ℕ) → n ≡ length done → paste (done ++ drop n d) n l (length l) ≡ (done ++ l) ++ drop (n + length l) d
paste_next d done l n e =
    let new = done ++ drop n d in
    ap (λ (k : List ℕ). k ++ take (length l) l ++ drop (n + length l) new) (take_at done (drop n d) n (sym e))
    ∙ ap (λ (k : List ℕ). done ++ k ++ drop (n + length l) new) (take-length l)
    ∙ ap (λ (k : List ℕ). (done ++ l) ++ k) (sym (drop-drop (length l) n new) ∙ ap (drop (length l)) (drop_at done (drop n d) n (sym e)) ∙ drop-drop (length l) n d)

-- ---- the whole text, or nothing

module _ (room : ℕ) (text : List ℕ) where
  pub fills : (n : ℕ) → n ≡ length text → n ≤ room → Some n ≡ written room text
  fills n e h = let k : length text ≤ room = omega arith in simp (le-leb _ _ k, e)

  pub overflows : room < length text → None ≡ written room text
  overflows h = simp (lt-leb _ _ h)

  pub room_for : (n : ℕ) → Some n ≡ written room text → length text ≤ room
  room_for n e =
      by (leb (length text) room) (λ t. leb-true _ _ t)
      λ t. let f : Some n ≡ None = simp t at e in absurd (false≢true cc)

  pub length_for : (n : ℕ) → Some n ≡ written room text → n ≡ length text
  length_for n e =
      by (leb (length text) room) (λ t. let f : Some n ≡ Some (length text) = simp t at e in cc)
      λ t. let f : Some n ≡ None = simp t at e in absurd (false≢true cc)

  pub no_room : None ≡ written room text → room < length text
  no_room e =
      by (leb (length text) room) (λ t. let f : None ≡ Some (length text) = simp t at e in absurd (false≢true cc))
      λ t. leb-false _ _ t
