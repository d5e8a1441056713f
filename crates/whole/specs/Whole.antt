-- The added-up value of document 01: 'the value that a stream's rules give, worked from the bytes alone in whole numbers never rounded'; and where a record's double is it.
use mathlib.Core.List.{List, [], ◌∷◌, foldl}
use Rattle.std.specs.Prelude.{ℕ, suc, ◌^◌, ◌≤◌, ℤ, pos}
use Rattle.std.specs.Float.{binary64}
use Rattle.rules.specs.Rule.{Rule, map_rule}
use Rattle.rules.specs.Calls.{Item}
use Rattle.floats.specs.Doubles.{double}
use Rattle.floats.specs.Wholes.{IsWhole, Sum, flat, doubles, wholes}
use Rattle.streams.specs.Changes.{Change, clears, adds, slopes, becomes, restarts, after}
use Rattle.streams.specs.Told.{Told}
use Rattle.streams.specs.Next.{unscaled_of}
use Rattle.chemstation.specs.Next.{fields}
use Rattle.streams.specs.declared.State.{State}
use Rattle.streams.specs.declared.State.TheVariants.{Fid, Ms, Mwd, Dad, Uv, Array, AtlasDad, AtlasUv}
use Rattle.streams.specs.declared.Record.{Record}

-- ---- in whole numbers

-- how many deltas the value has added up since the start, a restart or an absolute value: so many before a change, and after it
abbrev pub deltas_after : ℕ → Change → ℕ
deltas_after n clears = 0
deltas_after n (adds v) = suc n
deltas_after n (slopes v) = suc n
deltas_after n (becomes z) = 0
deltas_after n (restarts high low) = 0

-- a record's added-up value and the deltas in it
pub record Added : Type 0 where
  pub value : ℤ
  pub deltas : ℕ
  pub state : State  -- after the record, as in `Whole`

-- what goes from record to record: the value, and a state that says which fields are due. Its own value, in doubles, stands at 0: no field turns on it
pub record Whole : Type 0 where
  pub state : State
  pub sum : Sum ℤ
  pub deltas : ℕ

abbrev pub summed : Sum ℤ → ℕ → Told → Item Whole Added
summed s n t =
    let state = t.makes.then (flat doubles (double 0)) in
    let sum = after wholes s t.does in
    let deltas = foldl deltas_after n t.does in
    record { shows = record { value = sum.value; deltas = deltas; state = state }; after = record { state = state; sum = sum; deltas = deltas } }

-- the same fields as those of `rule`
abbrev pub whole_rule : Whole → Rule (Item Whole Added)
whole_rule w = map_rule (summed w.sum w.deltas) (fields w.state)

-- '0 at Open'
abbrev pub at_open : State → Whole
at_open st = record { state = st; sum = flat wholes (pos 0); deltas = 0 }

-- ---- exact

-- through how many deltas the value is claimed to be exact, by the kind of the state; an array's is the stored number, and is not added up
abbrev pub Within : State → ℕ → Type 0
Within (Fid st) n = n ≤ 524288
Within (Ms st) n = Unit
Within (Mwd st) n = n ≤ 2 ^ 32
Within (Dad st) n = Unit
Within (Uv st) n = Unit
Within (Array st) n = ⊥
Within (AtlasDad st) n = Unit
Within (AtlasUv st) n = Unit

-- a record's unscaled intensity is the added-up value
abbrev pub Exact : Record → Added → Type 0
Exact r w = Within w.state w.deltas → IsWhole binary64 (unscaled_of r) w.value

-- as many, and each exact
abbrev pub AllExact : List Record → List Added → Type 0
AllExact [] [] = Unit
AllExact [] (w ∷ ws) = ⊥
AllExact (r ∷ rs) [] = ⊥
AllExact (r ∷ rs) (w ∷ ws) = Exact r w × AllExact rs ws
