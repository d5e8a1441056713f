-- The loop over the calls: what is gathered so far, and what the calls that are left give behind it.
use mathlib.Core.Path.{◌≡◌, refl, sym, ap, ◌∙◌, subst}
use mathlib.Core.Bool.{Bool, true, false, cond}
use mathlib.Core.List.{List, [], ◌++◌, append_assoc, append-nil}
use Prim.Native.Nat.{ℕ, ◌+◌, ◌-◌, ◌≤◌, ◌<◌}
use native.Mathlib.Omega.{arith}
use lib.Dec.{ltb}
use lib.ListN.{length, take, drop, get_or, length-append, length-drop}
use lib.Seq.{take_all, drop-drop}
use borrow.Author.Tests.{ltb-true}
use Rattle.rules.specs.Calls.{Answer, full, stopped, Reading, Call, asks, asked, call, all_records, first_fewer, called}
use Rattle.streams.specs.declared.State.{State}
use Rattle.streams.specs.declared.Record.{Record}
use Rattle.chemstation.specs.Next.{rule}
use Rattle.reader.specs.Columns.{Held, Even, Room, columns_with, closing_of}
use Rattle.reader.specs.declared.Filled.{Filled}
use Rattle.reader.proofs.ColumnLaws.{even_filled}
use Rattle.calls.specs.MakeCalls.{call_of, calls_of, or_else, columns_from, Gives, ComesTo}
use Rattle.calls.specs.declared.Call.{Call as Made}
use Rattle.calls.specs.declared.Call.TheVariants.{Next}
use Rattle.std.specs.Prelude.{Result}
use Rattle.error.specs.declared.Stopped.{Stopped}
use Rattle.calls.proofs.Calling.{calls_at, calls_end, at_most, closing_is}
use Rattle.calls.proofs.RowLaws.{columns_behind}

-- ---- Z

-- a call that gave fewer did not close with full, so that its answer stays
or_else_lem : (z a later : Answer) (b : Bool) → (b ≡ true → a ≡ full → ⊥) → or_else z (cond b a later) ≡ or_else (or_else z (cond b a full)) later
or_else_lem (stopped z) a later b h = refl
or_else_lem full a later false h = refl
or_else_lem full full later true h = absurd (h refl refl)
or_else_lem full (stopped a) later true h = refl

or_full : (z : Answer) → or_else z full ≡ z
or_full full = refl
or_full (stopped z) = refl

-- ---- the loop

module _ (calls : List Made) (st : State) (s : List ℕ) (old : Held) where
  -- the calls from place j on, and the one there
  abbrev left : ℕ → List Call
  left j = calls_of (drop j calls)

  abbrev here : ℕ → Call
  here j = call_of (get_or calls j Next)

  -- j calls are made: what is in the columns, the state, the bytes consumed, the count of rows, Z so far
  pub record Going (new : Held) (cur : State) (at i : ℕ) (z : Answer) (j : ℕ) : Type 0 where
    pub given : List Record
    pub count : length given ≡ i
    pub inside : at ≤ length s
    pub room : i + asked (left j) ≤ length old.time
    pub records : all_records rule (calls_of calls) st s ≡ given ++ all_records rule (left j) cur (drop at s)
    pub closing : first_fewer rule (calls_of calls) st s ≡ or_else z (first_fewer rule (left j) cur (drop at s))
    pub holds : new ≡ columns_with given old
    pub even : Even (length old.time) new
    pub even_old : Even (length old.time) old

  pub going_start : Even (length old.time) old → asked (calls_of calls) ≤ length old.time → Going old st 0 0 full 0
  going_start e h = record { given = []; count = refl; inside = omega arith; room = omega arith; records = refl; closing = refl; holds = refl; even = e; even_old = e }

  module _ (new : Held) (cur : State) (at i : ℕ) (z : Answer) (j : ℕ) (g : Going new cur at i z j) where
    pub going_ends : length calls ≤ j → (n : ℕ) (y : Result (Unit {0}) Stopped) → closing_of y ≡ z → ComesTo (called rule (calls_of calls) st s) n (record { asked = n; count = i; closing = y }) (record { entry = old; exit = new })
    unfolding all_records first_fewer called
    going_ends h n y closes =
        let none = calls_end calls j h in
        let all : all_records rule (calls_of calls) st s ≡ g.given = g.records ∙ rw none (append-nil g.given) in
        let last : first_fewer rule (calls_of calls) st s ≡ z = g.closing ∙ rw none (or_full z) in
        record {
          answer = rw (closing_is (calls_of calls) st s, all, last, g.count, closes) refl;
          columns = g.holds ∙ ap (λ l. columns_with l old) (sym all);
        }

    module _ (more : j < length calls) where
      pub going_room : Room (i + asks (here j)) new
      unfolding asked
      going_room = (subst (λ n. Even n new) (sym g.even.time) g.even, omega (arith, g.room, g.even.time, ap asked (calls_at calls j Next more)))

      abbrev x : Reading State Record
      x = call rule (here j) cur (drop at s)

      module _ (f : Filled) (new' : Held) (filled : Gives (here j) cur (take (length s - at) (drop at s)) i f (record { entry = new; exit = new' })) where
        b : Gives (here j) cur (drop at s) i f (record { entry = new; exit = new' })
        b = rw (take_all (length s - at) (drop at s) (omega (arith, length-drop at s))) at filled

        pub going_inside : at + f.consumed ≤ length s
        going_inside = omega (arith, (at_most (here j) cur (drop at s)).consumed, b.consumed, length-drop at s, g.inside)

        pub going_rows : i + f.count ≤ length old.time
        going_rows = omega (arith, (at_most (here j) cur (drop at s)).records, b.count, going_room.1, g.even.time)

        pub going_more : (z' : Answer) → z' ≡ or_else z (cond (ltb f.count (asks (here j))) (closing_of f.closing) full) → Going new' f.state (at + f.consumed) (i + f.count) z' (j + 1)
        unfolding asked all_records first_fewer
        going_more z' closes =
            let cons = calls_at calls j Next more in
            let bound = at_most (here j) cur (drop at s) in
            let given = g.given ++ x.records in
            let count : length given ≡ i + f.count = length-append g.given x.records ∙ rw (g.count, b.count) refl in
            let holds : new' ≡ columns_with given old = b.columns ∙ ap (columns_from i x.records) g.holds ∙ columns_behind g.given x.records i old g.count in
            record {
              given = given;
              count = count;
              inside = going_inside;
              room = omega (arith, bound.records, b.count, g.room, ap asked cons);
              records = g.records ∙ rw (cons, append_assoc, b.state, b.consumed, ← drop-drop x.consumed at s) refl;
              closing =
                  g.closing ∙ rw (cons, closes, b.count, b.closing, b.state, b.consumed, ← drop-drop x.consumed at s)
                  (or_else_lem z x.closing (first_fewer rule (left (j + 1)) x.state (drop x.consumed (drop at s))) (ltb (length x.records) (asks (here j)))
                  (λ t q. omega (arith, ltb-true (length x.records) (asks (here j)) t, bound.closing q)));
              holds = holds;
              even = subst (Even (length old.time)) (sym holds) (even_filled (length old.time) given old (omega (arith, count, going_rows)) g.even_old);
              even_old = g.even_old;
            }
