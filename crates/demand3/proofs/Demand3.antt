-- Demand 3, from the theorem on any rules and the one on exact readings: Open's states begin at 0.
use mathlib.Core.Path.{refl}
use mathlib.Core.Bool.{Bool, true, false, cond}
use Prim.Native.Nat.{ℕ}
use lib.Dec.{eqb}
use Rattle.rules.proofs.Demand.{demand}
use Rattle.common.proofs.Every.{Every, at_gives, every_then, any_outcome}
use Rattle.metadata.specs.Metadata.{Header}
use Rattle.chemstation.specs.Next.{rule}
use Rattle.whole.specs.Readings.{Begins}
use Rattle.streams.specs.declared.State.{State}
use Rattle.whole.proofs.Exactly.{exact_calls}
use Rattle.opening.specs.Opening.{begins}
use Rattle.modes.specs.Modes.{open_by, begins_by, start_by}
use Rattle.streams.specs.declared.Mode.{Mode}
use Rattle.streams.specs.declared.Mode.TheVariants.{Plain, Atlas}
use Rattle.streams.specs.declared.State.TheVariants.{Fid, Ms, Mwd, Dad, Uv, Array, AtlasDad, AtlasUv}
use Rattle.streams.specs.Next.{atlas_of}
use Rattle.demand3.specs.Demand3.{Demand3Holds}

-- a state before the first record, by the tests on the kind
begun_by : (b : Bool) {st : State} (other : State) → Begins st → Begins other → Begins (cond b st other)
begun_by true other p q = p
begun_by false other p q = q

begun : (kind : ℕ) (x : Header) → Begins (begins kind x)
unfolding begins
begun kind x =
    begun_by (eqb kind 1) _ (record { sum = refl; due = refl })
    (begun_by (eqb kind 2) _ (record { sum = refl; due = refl })
    (begun_by (eqb kind 3) _ (record { sum = refl; due = refl })
    (begun_by (eqb kind 4) _ (record { sum = refl; due = refl })
    (begun_by (eqb kind 5) _ (record { sum = refl; due = refl })
    (record { sum = refl; due = refl })))))

atlas_begun : (st : State) → Begins st → Begins (atlas_of st)
atlas_begun (Fid st) b = b
atlas_begun (Ms st) b = b
atlas_begun (Mwd st) b = b
atlas_begun (Dad st) b = record { sum = b.sum; due = b.due }
atlas_begun (Uv st) b = record { sum = b.sum; due = b.due }
atlas_begun (Array st) b = b
atlas_begun (AtlasDad st) b = b
atlas_begun (AtlasUv st) b = b

begun_in : (mode : Mode) (kind : ℕ) (x : Header) → Begins (begins_by mode kind x)
begun_in Plain kind x = begun kind x
begun_in Atlas kind x = atlas_begun (begins kind x) (begun kind x)

opens : (mode : Mode) (kind : ℕ) → Every Begins (start_by mode kind)
opens mode kind = every_then (any_outcome (open_by mode kind)) λ x _. at_gives (begun_in mode kind x)

pub demand3 : Demand3Holds
demand3 mode kind cs F G f g h = record { calls = demand rule (start_by mode kind) cs F G h; exact = exact_calls (opens mode kind) cs F h f }
