-- What the fields of a record do to the value that runs on, over any arithmetic: a rule says it and never computes it.
use mathlib.Core.List.{List, foldl}
use Rattle.std.specs.Prelude.{ℕ, ℤ, pos}
use Rattle.floats.specs.Wholes.{Arithmetic, Sum, added, sloped, restarted}

pub data Change : Type 0 where
  clears : Change  -- the value is 0
  adds : ℤ → Change  -- a delta
  slopes : ℤ → Change  -- a delta of FID: slope += v, value += slope
  becomes : ℤ → Change  -- an absolute value
  restarts : ℤ → ℕ → Change  -- FID: high × 65534 + low, slope 0

module _ {X : Type 0} (a : Arithmetic X) where
  abbrev pub changed : Sum X → Change → Sum X
  changed s clears = record { slope = s.slope; value = a.whole (pos 0) }
  changed s (adds v) = record { slope = s.slope; value = added a s.value v }
  changed s (slopes v) = sloped a s v
  changed s (becomes z) = record { slope = s.slope; value = a.whole z }
  changed s (restarts high low) = restarted a high low

  -- the changes in their order
  abbrev pub after : Sum X → List Change → Sum X
  after s cs = foldl changed s cs
