-- A text behind a length byte, by the tests that code makes.
use mathlib.Core.Path.{◌≡◌}
use mathlib.Core.List.{List}
use Prim.Native.Nat.{ℕ, ◌+◌, ◌-◌, ◌≤◌, ◌<◌}
use native.Mathlib.Omega.{arith}
use lib.ListN.{length, get_or, take, drop, length-drop}
use lib.Seq.{length-take-le}
use borrow.Author.Tests.{lt-ltb, le-ltb}
use Rattle.rules.specs.Rule.{refuses}
use Rattle.trim.specs.WhiteSpace.{at, trimmed_of}
use Rattle.trim.proofs.Stands.{stands_at, inside_bounds}
use Rattle.pascal.specs.Texts.{trimmed_from, pascal}
use Rattle.agilent.proofs.Checks.{passes, fails}

module _ (h : List ℕ) (start width n : ℕ) (e : n ≡ get_or h start 0) where
  pub pascal_long : width ≤ n → pascal start width h ≡ refuses 7
  unfolding pascal
  pascal_long l = rw (← e) (fails 7 _ (le-ltb n width l))

  -- the bytes behind the length byte, as code takes them
  abbrev pub behind : List ℕ
  behind = take (start + 1 + n - (start + 1)) (drop (start + 1) h)

  pub pascal_trims : n < width → pascal start width h ≡ trimmed_from (start + 1) (trimmed_of behind)
  unfolding pascal
  pascal_trims l =
      let w : start + 1 + n - (start + 1) ≡ n = omega arith in
      rw (← e, w) (passes 7 _ (lt-ltb n width l))

  pub trims_within : start + 1 + n ≤ length h → (p m : ℕ) → trimmed_of behind ≡ at p m → start + 1 + p ≤ length h
  trims_within l p m t =
      omega (arith, inside_bounds (stands_at behind p m t), length-take-le (start + 1 + n - (start + 1)) (drop (start + 1) h) (omega (arith, length-drop (start + 1) h)))
