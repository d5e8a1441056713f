-- The rows of a call in the columns, from row i on: of Next record, of Fill columns on parts that are lent, and of calls one behind the other.
use mathlib.Core.Path.{◌≡◌, refl, sym, ap, ◌∙◌}
use mathlib.Core.Bool.{false}
use mathlib.Core.List.{List, [], ◌∷◌, ◌++◌, map, map-append, append_assoc}
use Prim.Native.Nat.{ℕ, zero, suc, ◌+◌, ◌≤◌, ◌<◌}
use native.Mathlib.Nat.{le_of_suc-le-suc}
use native.Mathlib.Numerals.{add-one}
use native.Mathlib.Omega.{arith}
use lib.ListN.{length, take, drop, set, length-append, length-map, length-drop}
use lib.Seq.{length-take-le, take_at, drop_at, drop-drop, set_split}
use borrow.Author.Tests.{eq-eqb}
use Rattle.rules.specs.Rule.{got, read}
use Rattle.rules.specs.Calls.{next, fill, fill_unequal, read_up_to}
use Rattle.streams.specs.declared.State.{State}
use Rattle.streams.specs.declared.Record.{Record}
use Rattle.chemstation.specs.Next.{rule}
use Rattle.reader.specs.Columns.{row_of, Held, columns, filled_with, columns_with, put_row, Room, Fills}
use Rattle.reader.specs.declared.Row.{Row}
use Rattle.reader.specs.declared.Filled.{Filled}
use Rattle.std.specs.Prelude.{Ok}
use Rattle.calls.specs.MakeCalls.{columns_from, Gives}
use Rattle.calls.proofs.Calling.{at_most}

-- an equation of columns, column by column
each : {c e : Held} → c.time ≡ e.time → c.axis ≡ e.axis → c.unscaled ≡ e.unscaled → c.scaled ≡ e.scaled → c.minutes ≡ e.minutes → c.leftover ≡ e.leftover → c ≡ e
each t a u s m l = λ j. record { time = t j; axis = a j; unscaled = u j; scaled = s j; minutes = m j; leftover = l j }

-- ---- Next record

row_put : {A : Type 0} (f : Row → A) (r : Record) (i : ℕ) (l : List A) → i < length l → set l i (f (row_of r)) ≡ take i l ++ filled_with f (r ∷ []) (drop i l)
row_put f r i l h = set_split l i (f (row_of r)) h ∙ rw (drop-drop 1 i l, add-one) refl

pub given_row : (st : State) (s : List ℕ) (i : ℕ) (old : Held) → Room (i + 1) old → (r : Record) (after : State) (k : ℕ) → read false (rule st) s ≡ got (record { shows = r; after = after }) k →
    Gives next st s i (record { count = 1; consumed = k; state = after; closing = Ok tt }) (record { entry = old; exit = put_row old i (row_of r) })
given_row st s i old h r after k q =
    let e = h.0 in
    let m : i < length old.time = omega (arith, h.1) in
    rw q (record {
      count = refl;
      consumed = refl;
      state = refl;
      closing = refl;
      columns =
          each (row_put (λ r. r.time) r i old.time m) (row_put (λ r. r.axis) r i old.axis (omega (arith, e.axis)))
          (row_put (λ r. r.unscaled) r i old.unscaled (omega (arith, e.unscaled))) (row_put (λ r. r.scaled) r i old.scaled (omega (arith, e.scaled)))
          (row_put (λ r. r.minutes) r i old.minutes (omega (arith, e.minutes))) (row_put (λ r. r.leftover) r i old.leftover (omega (arith, e.leftover)));
    })

-- ---- no rows

rejoined : {A : Type 0} (j k : ℕ) (l : List A) → j ≤ k → drop j (take k l) ++ drop k l ≡ drop j l
rejoined zero zero l h = refl
rejoined zero (suc k) [] h = refl
rejoined zero (suc k) (x ∷ xs) h = ap (λ l. x ∷ l) (rejoined zero k xs (omega arith))
rejoined (suc j) zero l h = absurd (omega arith)
rejoined (suc j) (suc k) [] h = refl
rejoined (suc j) (suc k) (x ∷ xs) h = rejoined j k xs (le_of_suc-le-suc h)

parted : {A : Type 0} (i : ℕ) (l : List A) → l ≡ take i l ++ drop i l
parted i l = sym (rejoined zero i l (omega arith))

pub no_rows : (i : ℕ) (old : Held) → old ≡ columns_from i [] old
no_rows i old = each (parted i old.time) (parted i old.axis) (parted i old.unscaled) (parted i old.scaled) (parted i old.minutes) (parted i old.leftover)

pub unequal_at : (st : State) (s : List ℕ) (i : ℕ) (r : Filled) (old : Held) → Gives fill_unequal st s 0 r (record { entry = old; exit = old }) → Gives fill_unequal st s i r (record { entry = old; exit = old })
unequal_at st s i r old b = record { count = b.count; consumed = b.consumed; state = b.state; closing = b.closing; columns = no_rows i old }

-- ---- Fill columns, on a part of k rows

abbrev cut : {A : Type 0} → ℕ → ℕ → List A → List A
cut i k l = take k (drop i l)

-- a column whose part was lent and is back
abbrev around : {A : Type 0} → ℕ → ℕ → List A → List A → List A
around i k back l = take i l ++ (back ++ drop k (drop i l))

around_filled : {A : Type 0} (f : Row → A) (rs : List Record) (i k : ℕ) (l : List A) → length rs ≤ k → around i k (filled_with f rs (cut i k l)) l ≡ take i l ++ filled_with f rs (drop i l)
around_filled f rs i k l h = rw (append_assoc (map (λ r. f (row_of r)) rs), rejoined (length rs) k (drop i l) h) refl

part_long : {A : Type 0} (i k n : ℕ) (l : List A) → i + k ≤ n → length l ≡ n → length (cut i k l) ≡ k
part_long i k n l h e = length-take-le k (drop i l) (omega (arith, length-drop i l))

pub filled_part : (k : ℕ) (st : State) (s : List ℕ) (i : ℕ) (r : Filled) (old back : Held) → Room (i + k) old →
    Fills st s false r
    (record { entry = columns (cut i k old.time) (cut i k old.axis) (cut i k old.unscaled) (cut i k old.scaled) (cut i k old.minutes) (cut i k old.leftover); exit = back }) →
    Gives (fill k) st s i r
    (record {
      entry = old;
      exit =
          columns (around i k back.time old.time) (around i k back.axis old.axis) (around i k back.unscaled old.unscaled) (around i k back.scaled old.scaled)
          (around i k back.minutes old.minutes) (around i k back.leftover old.leftover);
    })
filled_part k st s i r old back room filled =
    let e = room.0 in
    let n = length old.time in
    let b = rw (part_long i k n old.time room.1 refl, part_long i k n old.axis room.1 e.axis, part_long i k n old.unscaled room.1 e.unscaled, part_long i k n old.scaled room.1 e.scaled, part_long i k n old.minutes room.1 e.minutes, part_long i k n old.leftover room.1 e.leftover, eq-eqb k k refl) at filled in
    let rs = (read_up_to rule false k st s).records in
    let few = (at_most (fill k) st s).records in
    record {
      count = b.count;
      consumed = b.consumed;
      state = b.state;
      closing = b.closing;
      columns =
          rw b.columns
          (each (around_filled (λ r. r.time) rs i k old.time few) (around_filled (λ r. r.axis) rs i k old.axis few) (around_filled (λ r. r.unscaled) rs i k old.unscaled few)
          (around_filled (λ r. r.scaled) rs i k old.scaled few) (around_filled (λ r. r.minutes) rs i k old.minutes few) (around_filled (λ r. r.leftover) rs i k old.leftover few));
    }

-- ---- rows behind rows

behind : {A : Type 0} (f : Row → A) (given more : List Record) (i : ℕ) (old : List A) → length given ≡ i →
    let l = filled_with f given old in
    take i l ++ filled_with f more (drop i l) ≡ filled_with f (given ++ more) old
behind {A = A} f given more i old e =
    let g : Record → A = λ r. f (row_of r) in
    let size : length (map g given) ≡ i = length-map given g ∙ e in
    let rest = drop (length given) old in
    rw (take_at (map g given) rest i size, drop_at (map g given) rest i size, drop-drop, map-append, length-append) (sym (append_assoc (map g given) (map g more) (drop (length given + length more) old)))

pub columns_behind : (given more : List Record) (i : ℕ) (old : Held) → length given ≡ i → columns_from i more (columns_with given old) ≡ columns_with (given ++ more) old
columns_behind given more i old e =
    each (behind (λ r. r.time) given more i old.time e) (behind (λ r. r.axis) given more i old.axis e) (behind (λ r. r.unscaled) given more i old.unscaled e)
    (behind (λ r. r.scaled) given more i old.scaled e) (behind (λ r. r.minutes) given more i old.minutes e) (behind (λ r. r.leftover) given more i old.leftover e)
