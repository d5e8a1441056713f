-- A point of MWD, DAD or UV: a delta read at a position makes a record, whatever it tells.
use mathlib.Core.Path.{◌≡◌, refl, sym, ap, ◌∙◌}
use mathlib.Core.Bool.{Bool}
use mathlib.Core.List.{List, [], ◌∷◌}
use Prim.Native.Nat.{ℕ}
use lib.IntN.{pos}
use lib.Ieee.{Float}
use lib.ListN.{drop}
use Rattle.rules.specs.Rule.{Read, got, stops, taking, read, read_at, map_rule, map_read}
use Rattle.rules.specs.Calls.{Item}
use Rattle.rules.proofs.Laws.{read_map}
use Rattle.floats.specs.Wholes.{Sum, doubles, flat}
use Rattle.streams.specs.Changes.{clears}
use Rattle.streams.specs.Told.{Made, Told, told, delta, change_of, delta_read}
use Rattle.streams.specs.Next.{stepped}
use Rattle.streams.specs.declared.State.{State}
use Rattle.streams.specs.declared.Record.{Record}
use Rattle.streams.specs.declared.Delta.{Delta}
use Rattle.error.specs.declared.Stopped.{Stopped}
use Rattle.std.specs.Prelude.{Result}

module _ (order : List ℕ → ℕ) (last : Bool) (at : ℕ) (s : List ℕ) where
  -- what is answered, by the value before the point and what a delta tells
  abbrev point_at : Sum Float → (Delta → Told) → Read (Item State Record)
  point_at v f = map_read (stepped v) (read_at last (map_rule f (delta order)) at s)

  by_delta : (v : Sum Float) (f : Delta → Told) → point_at v f ≡ map_read (λ d. stepped v (f d)) (read_at last (delta order) at s)
  by_delta v f = ap (λ x. map_read (stepped v) (taking at x)) (read_map last f (delta order) (drop at s)) ∙ go (read last (delta order) (drop at s))
    where
      go : (x : Read Delta) → map_read (stepped v) (taking at (map_read f x)) ≡ map_read (λ d. stepped v (f d)) (taking at x)
      go (got d n) = refl
      go (stops z) = refl

  -- x is what was read of the delta, and y what a match on it says
  pub point_of_lem : (v : Sum Float) (f : Delta → Told) {x y : Result (Delta × ℕ) Stopped} → delta_read x ≡ read_at last (delta order) at s → x ≡ y → map_read (λ d. stepped v (f d)) (delta_read y) ≡ point_at v f
  point_of_lem v f e m = ap (map_read (λ d. stepped v (f d))) (ap delta_read (sym m) ∙ e) ∙ sym (by_delta v f)

  -- where the value is cleared first it might as well be 0 before
  pub point_cleared : (x : Float) (m : Delta → Made) →
      point_at (flat doubles (doubles.whole (pos 0))) (λ d. told (m d) (change_of d ∷ [])) ≡ point_at (flat doubles x) (λ d. told (m d) (clears ∷ change_of d ∷ []))
  point_cleared x m = by_delta (flat doubles (doubles.whole (pos 0))) (λ d. told (m d) (change_of d ∷ [])) ∙ sym (by_delta (flat doubles x) (λ d. told (m d) (clears ∷ change_of d ∷ [])))
