-- The loop keeps that n is what the calls before this one ask for, and at most the bound.
use mathlib.Core.Path.{◌≡◌}
use Prim.Native.Nat.{◌+◌, ◌≤◌}
use lib.ListN.{drop}
use Rattle.rules.specs.Calls.{asked}
use Rattle.calls.specs.MakeCalls.{calls_of}
use Rattle.calls.proofs.asked_by_all.Given as goal

abbrev pub invariant-loop-call : goal.invariant-loop-call
invariant-loop-call l = (l.n ≤ l.most) × (asked (calls_of l.calls) ≡ l.n + asked (calls_of (drop l.call-index l.calls)))
