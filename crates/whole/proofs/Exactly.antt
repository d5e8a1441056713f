-- The reading in doubles and the reading in whole numbers, record by record: both read the same fields.
use mathlib.Core.Path.{◌≡◌, refl, sym, ap, ◌∙◌}
use mathlib.Core.Bool.{Bool, false}
use mathlib.Core.List.{List, []}
use Prim.Native.Nat.{ℕ, zero, suc, ◌≤◌}
use lib.IntN.{ℤ, pos}
use lib.ListN.{drop}
use lib.Ieee.{Float}
use Rattle.rules.specs.Rule.{Rule, Read, got, stops, read, map_rule, map_read}
use Rattle.rules.specs.Calls.{go_on, read_up_to, Call, asked, result_of, opening, by_calls, by_rules}
use Rattle.rules.proofs.Laws.{read_map}
use Rattle.rules.proofs.Demand.{demand}
use Rattle.common.specs.Bytes.{AreBytes}
use Rattle.common.proofs.Sizes.{bytes_drop}
use Rattle.common.proofs.Every.{Every, Gets, gets}
use Rattle.floats.specs.Wholes.{Sum, flat, wholes}
use Rattle.streams.specs.Told.{Told}
use Rattle.chemstation.specs.Next.{fields}
use Rattle.streams.specs.Next.{sum_of}
use Rattle.streams.specs.Next.{stepped}
use Rattle.chemstation.specs.Next.{rule}
use Rattle.whole.specs.Whole.{Whole, summed, whole_rule, at_open, Exact, AllExact}
use Rattle.whole.specs.Readings.{Begins, ExactReadings}
use Rattle.streams.specs.declared.State.{State}
use Rattle.whole.proofs.Kept.{bare, bare_fields, Holds, holds_exact, begins_holds, Keeps, keeps}

abbrev whole : State → Sum ℤ → ℕ → Whole
whole st w n = record { state = st; sum = w; deltas = n }

-- a record that is kept is exact
kept_exact : {s : Sum Float} {w : Sum ℤ} {n : ℕ} {t : Told} → Keeps s w n t → Exact (stepped s t).shows (summed w n t).shows
kept_exact {s} {w} {n} {t} p l =
    let st = (stepped s t).after in
    let y = (summed w n t).after in
    let few = p.kind y.deltas l in
    rw (p.shown few) (holds_exact st y.sum y.deltas p.holds few)

-- states that differ in their value alone have the same fields
same_fields : (x y : State) → bare x ≡ bare y → fields x ≡ fields y
same_fields x y e = bare_fields x ∙ ap fields e ∙ sym (bare_fields y)

module _ (last : Bool) where
  -- of the state in the second reading only the fields count
  abbrev Reading : ℕ → Type 0
  Reading m = (st st₀ : State) (w : Sum ℤ) (n : ℕ) (bs : List ℕ) → fields st ≡ fields st₀ → Holds st w n → AreBytes bs →
      AllExact (read_up_to rule last m st bs).records (read_up_to whole_rule last m (whole st₀ w n) bs).records

  one_more : (m : ℕ) → Reading m → Reading (suc m)
  unfolding read_up_to
  one_more m onward st st₀ w n bs e h b =
      let same : read last (whole_rule (whole st₀ w n)) bs ≡ map_read (summed w n) (read last (fields st) bs) =
      read_map last (summed w n) (fields st₀) bs ∙ ap (λ r. map_read (summed w n) (read last r bs)) (sym e) in
      rw (read_map last (stepped (sum_of st)) (fields st) bs, same) (go (read last (fields st) bs) (gets (keeps st w n h) last bs b))
    where
      go : (x : Read Told) → Gets (Keeps (sum_of st) w n) x →
          AllExact (go_on st bs (read_up_to rule last m) (map_read (stepped (sum_of st)) x)).records (go_on (whole st₀ w n) bs (read_up_to whole_rule last m) (map_read (summed w n) x)).records
      go (stops z) p = tt
      go (got t c) p =
          let x = (stepped (sum_of st) t).after in
          let y = (summed w n t).after in (
            kept_exact p,
            onward x y.state y.sum y.deltas (drop c bs) (same_fields x y.state p.same) p.holds (bytes_drop c bs b),
          )

  all : (m : ℕ) → Reading m
  all zero = unfold read_up_to in λ st st₀ w n bs e h b. tt
  all (suc m) = one_more m (all m)

pub exactly : ExactReadings
exactly st h last n bs b = all last n st st (flat wholes (pos 0)) 0 bs refl (begins_holds st h) b

-- ---- for an opening

-- the records of any calls, and the added-up values by the rules
pub exact_calls : {start : Rule State} → Every Begins start → (cs : List Call) (F : List ℕ) → 1 ≤ asked cs → AreBytes F →
    AllExact (by_calls rule start cs F).records (by_rules whole_rule (map_rule at_open start) (asked cs) F).records
exact_calls {start} o cs F h b = rw ((demand rule start cs F [] h).by_rules_lem, read_map false at_open start F) (go (read false start F) (gets o false F b))
  where
    go : (x : Read State) → Gets Begins x →
        AllExact (opening F (λ st bs. result_of (read_up_to rule false (asked cs) st bs)) x).records (opening F (λ st bs. result_of (read_up_to whole_rule false (asked cs) st bs)) (map_read at_open x)).records
    go (stops z) p = tt
    go (got st c) p = exactly st p false (asked cs) (drop c F) (bytes_drop c F b)
