-- A delta of MWD, DAD or UV: what its rule reads, by the bytes that are there, in either byte order.
use mathlib.Core.Path.{◌≡◌, ap, ◌∙◌}
use mathlib.Core.Bool.{Bool, true, false, cond}
use mathlib.Core.List.{List}
use Prim.Native.Nat.{ℕ, ◌+◌, ◌≤◌, ◌<◌}
use native.Mathlib.Omega.{arith}
use lib.IntN.{ℤ, negsuc}
use lib.ListN.{length}
use Rattle.rules.specs.Rule.{gives, got, stops, read_at, map_rule}
use Rattle.rules.proofs.Places.{at_number, at_gives, at_cut, more_number, none, cut}
use Rattle.common.specs.Bytes.{signed, part}
use Rattle.common.specs.Fields.{i32}
use Rattle.streams.specs.Told.{is_int, delta}
use Rattle.streams.specs.declared.Delta.TheVariants.{By, Absolute}

module _ (order : List ℕ → ℕ) (last : Bool) (at : ℕ) (s : List ℕ) where
  abbrev v : ℤ
  v = signed order (part at 2 s)

  begins : at + 2 ≤ length s → read_at last (delta order) at s ≡ read_at last (cond (is_int v (negsuc 32767)) (map_rule Absolute (i32 order)) (gives (By v))) (at + 2) s
  unfolding delta
  begins h = at_number last 2 (signed order) _ at s h

  pub delta_by : at + 2 ≤ length s → is_int v (negsuc 32767) ≡ false → read_at last (delta order) at s ≡ got (By v) (at + 2)
  delta_by h e = begins h ∙ rw e (at_gives last (By v) (at + 2) s)

  pub delta_absolute : at + 6 ≤ length s → is_int v (negsuc 32767) ≡ true → read_at last (delta order) at s ≡ got (Absolute (signed order (part (at + 2) 4 s))) (at + 6)
  delta_absolute h e =
      let six : at + 2 + 4 ≡ at + 6 = omega arith in
      begins (omega arith) ∙ rw e (at_number last 4 (signed order) _ (at + 2) s (omega arith) ∙ at_gives last _ (at + 2 + 4) s ∙ ap (got (Absolute (signed order (part (at + 2) 4 s)))) six)

  pub delta_cut : at ≤ length s → length s < at + 2 → read_at last (delta order) at s ≡ stops (cut last)
  unfolding delta
  delta_cut h l = at_cut (more_number 2 0 (signed order) _ λ z. none) last at s h l

  pub delta_absolute_cut : at + 2 ≤ length s → length s < at + 6 → is_int v (negsuc 32767) ≡ true → read_at last (delta order) at s ≡ stops (cut last)
  delta_absolute_cut h l e = begins h ∙ rw e (at_cut (more_number 4 0 (signed order) _ λ z. none) last (at + 2) s h (omega arith))
