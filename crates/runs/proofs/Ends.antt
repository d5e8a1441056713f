-- Every run ends: the measure falls by each step, and by whatever a read or a write answers.
use mathlib.Core.Path.{◌≡◌, subst}
use mathlib.Core.List.{List}
use Prim.Native.Nat.{ℕ, zero, suc, ◌+◌, ◌<◌}
use native.Mathlib.Omega.{arith}
use lib.ListN.{length}
use Rattle.places.specs.declared.Place.{Place}
use Rattle.places.specs.declared.Ask.{Ask}
use Rattle.places.specs.Machine.{step_of}
use Rattle.runs.specs.Whole.{weight, Falls, Ends, each_ends}
use Rattle.runs.proofs.Falls.{falls, took_falls, unread_falls, wrote_falls}

-- what is asked for
asked : (p : Place) (buf out : List ℕ) {a : Ask} → (step_of p buf out).answer ≡ a → Falls p buf out a
asked p buf out e = subst (Falls p buf out) e (falls p buf out)

ends_within : (w : ℕ) (p : Place) (buf out input : List ℕ) → weight p < w → Ends p buf out input
ends_within zero p buf out input h = absurd (omega arith)
ends_within (suc w) p buf out input h =
    each_ends
    (λ q n ok e. let f = wrote_falls p q (asked p buf out e).0 ok in ends_within w _ _ _ input (omega (arith, f)))
    (λ q n ok e. let f = wrote_falls p q (asked p buf out e).0 ok in ends_within w _ _ _ input (omega (arith, f)))
    (λ q n part rest new e i. let f = took_falls p q buf out n (length part) new (asked p buf out e) in ends_within w _ new _ rest (omega (arith, f)))
    (λ q n new e. let f = unread_falls p q buf out n (asked p buf out e) in ends_within w _ new _ input (omega (arith, f)))

pub runs_end : (p : Place) (buf out input : List ℕ) → Ends p buf out input
runs_end p buf out input = ends_within (weight p + 1) p buf out input (omega arith)
