-- The loop of Fill columns, for any rule: what is read so far, and what is left of the reading.
use mathlib.Core.Path.{◌≡◌, refl, ◌∙◌}
use mathlib.Core.Bool.{Bool}
use mathlib.Core.List.{List, [], ◌∷◌, ◌++◌, append_assoc, append-nil}
use Prim.Native.Nat.{ℕ, zero, suc, ◌+◌, ◌-◌, ◌<◌}
use native.Mathlib.Omega.{arith}
use native.Mathlib.Nat.{zero-add, add-zero, add_assoc}
use lib.ListN.{drop}
use lib.Seq.{drop-drop}
use Rattle.rules.specs.Rule.{Rule, Stop, got, stops, read}
use Rattle.rules.specs.Calls.{Item, Answer, full, stopped, Reading, nothing, read_up_to}

-- a reading, and another behind it
abbrev pub joined : {S R : Type 0} → Reading S R → Reading S R → Reading S R
joined s t = record { records = s.records ++ t.records; consumed = s.consumed + t.consumed; state = t.state; closing = t.closing }

module _ {S R : Type 0} (rule : S → Rule (Item S R)) (last : Bool) (n : ℕ) (st : S) (bs : List ℕ) where
  abbrev pub so_far : List R → ℕ → S → Answer → Reading S R
  so_far rows at cur z = record { records = rows; consumed = at; state = cur; closing = z }

  -- the loop's invariant: the rows so far, the bytes that they took, the state after them, and how many are left to read
  abbrev pub Filled : List R → ℕ → S → ℕ → Type 0
  Filled rows at cur left = read_up_to rule last n st bs ≡ joined (so_far rows at cur full) (read_up_to rule last left cur (drop at bs))

  -- at the start
  pub filled_start : Filled [] 0 st n
  filled_start = rw zero-add refl

  -- at each turn
  pub filled_more : (rows : List R) (at : ℕ) (cur : S) (left : ℕ) (x : Item S R) (k : ℕ) → 0 < left → Filled rows at cur left → read last (rule cur) (drop at bs) ≡ got x k →
      Filled (rows ++ (x.shows ∷ [])) (at + k) x.after (left - 1)
  unfolding read_up_to
  filled_more rows at cur zero x k h i e = absurd (omega arith)
  filled_more rows at cur (suc left) x k h i e =
      let back : suc left - 1 ≡ left = omega arith in
      rw back (i ∙ rw (e, drop-drop k at bs, append_assoc, add_assoc) refl)

  ends : (cur : S) (rows : List R) (at : ℕ) (z : Answer) → joined (so_far rows at cur full) (nothing cur z) ≡ so_far rows at cur z
  ends cur rows at z = rw (append-nil rows, add-zero at) refl

  -- where it stops
  pub filled_stops : (rows : List R) (at : ℕ) (cur : S) (left : ℕ) (z : Stop) → 0 < left → Filled rows at cur left → read last (rule cur) (drop at bs) ≡ stops z →
      read_up_to rule last n st bs ≡ so_far rows at cur (stopped z)
  unfolding read_up_to
  filled_stops rows at cur zero z h i e = absurd (omega arith)
  filled_stops rows at cur (suc left) z h i e = i ∙ rw e (ends cur rows at (stopped z))

  -- where it is full
  pub filled_full : (rows : List R) (at : ℕ) (cur : S) → Filled rows at cur 0 → read_up_to rule last n st bs ≡ so_far rows at cur full
  unfolding read_up_to
  filled_full rows at cur i = i ∙ ends cur rows at full
