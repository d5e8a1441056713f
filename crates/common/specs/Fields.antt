-- The fields that are numbers: 'i16' or 'u32' of document 01, in a byte order.
use Rattle.std.specs.Prelude.{List, ℕ, ℤ}
use Rattle.rules.specs.Rule.{Rule, bytes_as}
use Rattle.common.specs.Bytes.{signed}

module _ (order : List ℕ → ℕ) where
  abbrev pub u16 : Rule ℕ
  u16 = bytes_as 2 order

  abbrev pub u32 : Rule ℕ
  u32 = bytes_as 4 order

  abbrev pub u64 : Rule ℕ
  u64 = bytes_as 8 order

  abbrev pub i16 : Rule ℤ
  i16 = bytes_as 2 (signed order)

  abbrev pub i32 : Rule ℤ
  i32 = bytes_as 4 (signed order)
