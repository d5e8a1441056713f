-- The loop of Fill columns: what the columns hold after so many records, and the facts at the start, at each turn and at the end.
use mathlib.Core.Path.{◌≡◌, refl, sym, ap, ap₂, ◌∙◌, subst}
use mathlib.Core.Bool.{Bool, true, ◌&&◌}
use mathlib.Core.List.{List, [], ◌∷◌, ◌++◌, map}
use Prim.Native.Nat.{ℕ, ◌+◌, ◌-◌, ◌≤◌, ◌<◌}
use native.Mathlib.Nat.{sub-zero, le_of_suc-le-suc}
use native.Mathlib.Omega.{arith}
use lib.Dec.{T, eqb, eqb→eq}
use lib.ListN.{length, drop, set, length-append, length-map, length-drop}
use mir.Facts.{and_yes}
use Rattle.rules.specs.Rule.{Stop, got, stops, read}
use Rattle.rules.specs.Calls.{full, stopped, read_up_to}
use Rattle.rules.proofs.Laws.{taken_within}
use Rattle.rules.proofs.Filling.{Filled, filled_start, filled_more, filled_stops, filled_full}
use Rattle.chemstation.specs.Next.{rule}
use Rattle.streams.specs.declared.State.{State}
use Rattle.streams.specs.declared.Record.{Record}
use Rattle.reader.specs.Columns.{row_of, Held, equal_lengths, AreTheSame, Even, put_row, filled_with, columns_with, closing_of, FilledBy}
use Rattle.reader.specs.declared.Columns.{Columns}
use Rattle.reader.specs.declared.Row.{Row}
use Rattle.std.specs.Prelude.{Result}
use Rattle.error.specs.declared.Stopped.{Stopped}
use Rattle.reader.specs.declared.Filled.{Filled as Answer}

-- ---- a column, of any element type

length_filled : {A : Type 0} (f : Row → A) (rows : List Record) (old : List A) → length rows ≤ length old → length (filled_with f rows old) ≡ length old
length_filled f rows old h = length-append (map (λ r. f (row_of r)) rows) (drop (length rows) old) ∙ rw (length-map, length-drop) (omega arith)

filled_set : {A : Type 0} (f : Row → A) (rows : List Record) (r : Record) (old : List A) → length rows < length old → set (filled_with f rows old) (length rows) (f (row_of r)) ≡ filled_with f (rows ++ (r ∷ [])) old
filled_set f rows r [] h = absurd (omega arith)
filled_set f [] r (y ∷ ys) h = refl
filled_set f (x ∷ xs) r (y ∷ ys) h = ap (λ l. f (row_of x) ∷ l) (filled_set f xs r ys (le_of_suc-le-suc h))

-- ---- the slices of lent columns

pub same_still : {a b c : Columns} → AreTheSame a b → AreTheSame b c → AreTheSame a c
same_still p q = record {
  time = q.time ∙ p.time;
  axis = q.axis ∙ p.axis;
  unscaled = q.unscaled ∙ p.unscaled;
  scaled = q.scaled ∙ p.scaled;
  minutes = q.minutes ∙ p.minutes;
  leftover = q.leftover ∙ p.leftover;
}

-- ---- columns of one length

abbrev is_long : {A : Type 0} → ℕ → List A → Bool
is_long n l = eqb (length l) n

pub even_if : (c : Held) → equal_lengths c ≡ true → Even (length c.time) c
even_if c e =
    let n = length c.time in
    let last = is_long n c.minutes && is_long n c.leftover in
    let p = and_yes (is_long n c.axis) (is_long n c.unscaled && (is_long n c.scaled && last)) (subst T (sym e) tt) in
    let q = and_yes (is_long n c.unscaled) (is_long n c.scaled && last) p.1 in
    let r = and_yes (is_long n c.scaled) last q.1 in
    let s = and_yes (is_long n c.minutes) (is_long n c.leftover) r.1 in
    record {
      time = refl;
      axis = eqb→eq (length c.axis) n p.0;
      unscaled = eqb→eq (length c.unscaled) n q.0;
      scaled = eqb→eq (length c.scaled) n r.0;
      minutes = eqb→eq (length c.minutes) n s.0;
      leftover = eqb→eq (length c.leftover) n s.1;
    }

pub even_filled : (n : ℕ) (rows : List Record) (old : Held) → length rows ≤ n → Even n old → Even n (columns_with rows old)
even_filled n rows old h e = record {
  time = length_filled (λ r. r.time) rows old.time (omega (arith, e.time)) ∙ e.time;
  axis = length_filled (λ r. r.axis) rows old.axis (omega (arith, e.axis)) ∙ e.axis;
  unscaled = length_filled (λ r. r.unscaled) rows old.unscaled (omega (arith, e.unscaled)) ∙ e.unscaled;
  scaled = length_filled (λ r. r.scaled) rows old.scaled (omega (arith, e.scaled)) ∙ e.scaled;
  minutes = length_filled (λ r. r.minutes) rows old.minutes (omega (arith, e.minutes)) ∙ e.minutes;
  leftover = length_filled (λ r. r.leftover) rows old.leftover (omega (arith, e.leftover)) ∙ e.leftover;
}

pub put_next : (n : ℕ) (rows : List Record) (r : Record) (old : Held) → length rows < n → Even n old → put_row (columns_with rows old) (length rows) (row_of r) ≡ columns_with (rows ++ (r ∷ [])) old
put_next n rows r old h e = λ j. record {
  time = filled_set (λ r. r.time) rows r old.time (omega (arith, e.time)) j;
  axis = filled_set (λ r. r.axis) rows r old.axis (omega (arith, e.axis)) j;
  unscaled = filled_set (λ r. r.unscaled) rows r old.unscaled (omega (arith, e.unscaled)) j;
  scaled = filled_set (λ r. r.scaled) rows r old.scaled (omega (arith, e.scaled)) j;
  minutes = filled_set (λ r. r.minutes) rows r old.minutes (omega (arith, e.minutes)) j;
  leftover = filled_set (λ r. r.leftover) rows r old.leftover (omega (arith, e.leftover)) j;
}

-- ---- the loop

module _ (n : ℕ) (st : State) (s : List ℕ) (last : Bool) (old : Held) where
  -- i records of n are read, by at bytes, and stand in the columns new
  pub record Going (new : Held) (cur : State) (at i : ℕ) : Type 0 where
    pub rows : List Record
    pub count : length rows ≡ i
    pub low : i ≤ n
    pub inside : at ≤ length s
    pub read_so_far : Filled rule last n st s rows at cur (n - i)
    pub holds : new ≡ columns_with rows old
    pub even : Even n new

  abbrev Done : Answer → Held → Type 0
  Done r new = FilledBy (read_up_to rule last n st s) r old new

  pub going_start : Even n old → Going old st 0 0
  going_start e = record { rows = []; count = refl; low = omega arith; inside = omega arith; read_so_far = rw sub-zero (filled_start rule last n st s); holds = refl; even = e }

  module _ (new : Held) (cur : State) (at i : ℕ) (g : Going new cur at i) where
    pub going_more : i < n → Even n old → (r : Record) (after : State) (k : ℕ) → read last (rule cur) (drop at s) ≡ got (record { shows = r; after = after }) k →
        Going (put_row new i (row_of r)) after (at + k) (i + 1)
    going_more h e r after k q =
        let rows = g.rows ++ (r ∷ []) in
        let count : length rows ≡ i + 1 = length-append g.rows (r ∷ []) ∙ ap (λ m. m + 1) g.count in
        let fewer : n - i - 1 ≡ n - (i + 1) = omega arith in
        let holds : put_row new i (row_of r) ≡ columns_with rows old = ap₂ (λ c m. put_row c m (row_of r)) g.holds (sym g.count) ∙ put_next n g.rows r old (omega (arith, g.count)) e in
        record {
          rows = rows;
          count = count;
          low = omega arith;
          inside = omega (arith, taken_within last (rule cur) (drop at s) q, length-drop at s, g.inside);
          read_so_far = subst (Filled rule last n st s rows (at + k) after) fewer (filled_more rule last n st s g.rows at cur (n - i) (record { shows = r; after = after }) k (omega arith) g.read_so_far q);
          holds = holds;
          even = subst (Even n) (sym holds) (even_filled n rows old (omega (arith, count)) e);
        }

    pub going_stops : i < n → (z : Stop) (c : Result (Unit {0}) Stopped) → closing_of c ≡ stopped z → read last (rule cur) (drop at s) ≡ stops z → Done (record { count = i; consumed = at; state = cur; closing = c }) new
    going_stops h z c e q = let r = filled_stops rule last n st s g.rows at cur (n - i) z (omega arith) g.read_so_far q in rw r (record { count = sym g.count; consumed = refl; state = refl; closing = e; columns = g.holds })

    pub going_full : n ≤ i → (c : Result (Unit {0}) Stopped) → closing_of c ≡ full → Done (record { count = n; consumed = at; state = cur; closing = c }) new
    going_full h c e =
        let none : n - i ≡ 0 = omega (arith, g.low) in
        let r = filled_full rule last n st s g.rows at cur (subst (Filled rule last n st s g.rows at cur) none g.read_so_far) in
        rw r (record { count = omega (arith, g.count, g.low); consumed = refl; state = refl; closing = e; columns = g.holds })
