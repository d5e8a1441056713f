-- Calls: which one a number asks for, that a call gives at most what it asks for, and that Z is the answer of the first that gave fewer.
use mathlib.Core.Path.{◌≡◌, refl, sym}
use mathlib.Core.Bool.{Bool, true, false, cond, false≢true}
use mathlib.Core.List.{List, [], ◌∷◌}
use Prim.Native.Nat.{ℕ, zero, suc, ◌+◌, ◌≤◌, ◌<◌}
use native.Mathlib.Omega.{arith}
use native.Mathlib.Numerals.{add-one}
use lib.ListN.{length, drop, get_or, length-append, length-drop, drop_of_length-le}
use lib.Seq.{drop-cons}
use lib.Dec.{eqb}
use borrow.Author.Tests.{le-ltb, eqb-true}
use Rattle.rules.specs.Rule.{Stop, refused, Read, got, stops, read}
use Rattle.rules.specs.Calls.{Item, full, stopped, Reading, nothing, one_record, go_on, Call, next, fill, fill_unequal, asks, asked, read_up_to, call, all_records, first_fewer, called}
use Rattle.rules.proofs.Laws.{taken_within}
use Rattle.streams.specs.declared.State.{State}
use Rattle.streams.specs.declared.Record.{Record}
use Rattle.chemstation.specs.Next.{rule}
use Rattle.calls.specs.MakeCalls.{call_of, calls_of}
use Rattle.calls.specs.declared.Call.{Call as Made}

-- the calls from place j on
pub calls_at : (l : List Made) (j : ℕ) (other : Made) → j < length l → calls_of (drop j l) ≡ call_of (get_or l j other) ∷ calls_of (drop (j + 1) l)
calls_at l j other h = rw (add-one, drop-cons l j other) refl

pub calls_end : (l : List Made) (j : ℕ) → length l ≤ j → calls_of (drop j l) ≡ []
calls_end l j h = rw (drop_of_length-le l h) refl

-- a call that asks for n records gives at most n, of the bytes at hand, and is full only with n
pub record AtMost (n : ℕ) (bs : List ℕ) (x : Reading State Record) : Type 0 where
  pub records : length x.records ≤ n
  pub consumed : x.consumed ≤ length bs
  pub closing : x.closing ≡ full → n ≤ length x.records

stopped_at_most : (n : ℕ) (bs : List ℕ) (st : State) (z : Stop) → AtMost n bs (nothing st (stopped z))
stopped_at_most n bs st z = record { records = omega arith; consumed = omega arith; closing = λ q. absurd (false≢true cc) }

reading_at_most : (n : ℕ) (st : State) (bs : List ℕ) → AtMost n bs (read_up_to rule false n st bs)
unfolding read_up_to
reading_at_most zero st bs = record { records = omega arith; consumed = omega arith; closing = λ _. omega arith }
reading_at_most (suc n) st bs = go (λ st' bs'. reading_at_most n st' bs') (read false (rule st) bs) refl
  where
    go : (ih : (st' : State) (bs' : List ℕ) → AtMost n bs' (read_up_to rule false n st' bs')) (x : Read (Item State Record)) → read false (rule st) bs ≡ x → AtMost (suc n) bs (go_on st bs (read_up_to rule false n) x)
    go ih (got x k) e =
        let b = ih x.after (drop k bs) in
        record {
          records = omega (arith, b.records);
          consumed = omega (arith, b.consumed, taken_within false (rule st) bs e, length-drop k bs);
          closing = λ q. omega (arith, b.closing q);
        }
    go ih (stops z) e = stopped_at_most (suc n) bs st z

pub at_most : (c : Call) (st : State) (bs : List ℕ) → AtMost (asks c) bs (call rule c st bs)
at_most next st bs = go (read false (rule st) bs) refl
  where
    go : (x : Read (Item State Record)) → read false (rule st) bs ≡ x → AtMost 1 bs (one_record st x)
    go (got x k) e = record { records = omega arith; consumed = taken_within false (rule st) bs e; closing = λ _. omega arith }
    go (stops z) e = stopped_at_most 1 bs st z
at_most (fill n) st bs = reading_at_most n st bs
at_most fill_unequal st bs = stopped_at_most 0 bs st (refused 15)

-- the calls give at most N records, and where they give N each gave what it asked for
all_at_most : (cs : List Call) (st : State) (bs : List ℕ) → length (all_records rule cs st bs) ≤ asked cs
unfolding all_records asked
all_at_most [] st bs = omega arith
all_at_most (c ∷ cs) st bs =
    let x = call rule c st bs in
    let rest = all_records rule cs x.state (drop x.consumed bs) in
    omega (arith, length-append x.records rest, (at_most c st bs).records, all_at_most cs x.state (drop x.consumed bs))

none_fewer : (cs : List Call) (st : State) (bs : List ℕ) → asked cs ≤ length (all_records rule cs st bs) → first_fewer rule cs st bs ≡ full
unfolding all_records asked first_fewer
none_fewer [] st bs h = refl
none_fewer (c ∷ cs) st bs h =
    let x = call rule c st bs in
    let bs' = drop x.consumed bs in
    let all = length-append x.records (all_records rule cs x.state bs') in
    rw (le-ltb (length x.records) (asks c) (omega (arith, h, all, all_at_most cs x.state bs'))) (none_fewer cs x.state bs' (omega (arith, h, all, (at_most c st bs).records)))

-- so that Z is the answer of the first call that gave fewer, and full where none did
pub closing_is : (cs : List Call) (st : State) (bs : List ℕ) → (called rule cs st bs).closing ≡ first_fewer rule cs st bs
unfolding called
closing_is cs st bs = go (eqb (length all) (asked cs)) refl
  where
    all : List Record
    all = all_records rule cs st bs

    go : (b : Bool) → eqb (length all) (asked cs) ≡ b → cond b full (first_fewer rule cs st bs) ≡ first_fewer rule cs st bs
    go true e = sym (none_fewer cs st bs (omega (arith, eqb-true (length all) (asked cs) e)))
    go false e = refl
