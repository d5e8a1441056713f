-- MS: what its rules read from a position on, by the bytes that are there.
use mathlib.Core.Path.{◌≡◌, refl, sym, ◌∙◌}
use mathlib.Core.Bool.{Bool, cond}
use mathlib.Core.List.{List, [], ◌∷◌}
use Prim.Native.Nat.{ℕ, zero, suc, ◌+◌, ◌-◌, ◌*◌, ◌/◌, ◌%◌, ◌^◌, ◌≤◌, ◌<◌}
use native.Mathlib.Omega.{arith}
use lib.Dec.{eqb, ltb}
use lib.Ieee.{Float, binary64, of_int, of_bits}
use lib.ListN.{length}
use borrow.Author.Tests.{eq-eqb, ne_eqb, lt-ltb, le-ltb}
use Rattle.rules.specs.Rule.{Rule, Read, gives, refuses, refused, finished, got, stops, read, read_at, ◌>>=◌, ◌>>◌, skip}
use Rattle.rules.proofs.Places.{at_number, at_gives, at_cut, more_number, none, cut}
use Rattle.common.specs.Bytes.{be, part}
use Rattle.common.specs.Fields.{u16, u32}
use Rattle.floats.specs.Doubles.{double, minutes}
use Rattle.streams.specs.Told.{Told, told}
use Rattle.streams.specs.declared.Scans.{Scans}
use Rattle.streams.specs.declared.Points.{Points}
use Rattle.streams.specs.declared.ChemstationMsState.{ChemstationMsState}
use Rattle.streams.specs.declared.State.TheVariants.{Ms}
use Rattle.streams.proofs.ScanningLaws.{scans_done, scan_new, scan_within}
use Rattle.streams.proofs.Steps.{Answers}
use Rattle.streams.proofs.UpTo.{number_to}
use Rattle.ms.specs.Ms.{ms_made, ms_value, ms_point, ms_scans, ms_scanning, ms_rule}

-- a shift by threes, of 14 bits in 32
pub shifted : (base e : ℕ) → base < 16384 → e < 4 → base * 2 ^ (3 * e) % 2 ^ 32 ≡ base * 8 ^ e
shifted base zero b h = omega arith
shifted base (suc zero) b h = omega arith
shifted base (suc (suc zero)) b h = omega arith
shifted base (suc (suc (suc zero))) b h = omega arith
shifted base (suc (suc (suc (suc e)))) b h = absurd (omega arith)

-- ---- a constant, by its bit pattern

pub twenty_is : of_bits binary64 4626322717216342016 ≡ double 20
unfolding of_int of_bits
twenty_is = refl

-- ---- a point

module _ (scans : Scans) (points : Points) (time : Float) (stored : ℕ) (last : Bool) (at : ℕ) (s : List ℕ) where
  abbrev point_of : Scans → Points → Told
  point_of left due = told (ms_made left due time stored (be (part at 2 s))) (ms_value (be (part (at + 2) 2 s)) ∷ [])

  point_begins : at + 4 ≤ length s → read_at last (ms_point scans points time stored) at s ≡ read_at last (cond (eqb points.0 1) (skip 10 >> gives (point_of (record { 0 = scans.0 - 1 }) (record { 0 = 0 }))) (gives (point_of scans (record { 0 = points.0 - 1 })))) (at + 4) s
  unfolding ms_point
  point_begins h = at_number last 2 be _ at s (omega arith) ∙ number_to last 2 be _ (at + 2) (at + 4) s (omega arith) h

  pub point_cut : at ≤ length s → length s < at + 4 → read_at last (ms_point scans points time stored) at s ≡ stops (cut last)
  unfolding ms_point
  point_cut h l = at_cut (more_number 2 2 be _ λ m. more_number 2 0 be _ λ r. none) last at s h l

  pub point_inner : at + 4 ≤ length s → (points.0 ≡ 1 → ⊥) → read_at last (ms_point scans points time stored) at s ≡ got (point_of scans (record { 0 = points.0 - 1 })) (at + 4)
  point_inner h e = point_begins h ∙ rw (ne_eqb points.0 1 e) (at_gives last _ (at + 4) s)

  pub point_last : at + 14 ≤ length s → points.0 ≡ 1 → read_at last (ms_point scans points time stored) at s ≡ got (point_of (record { 0 = scans.0 - 1 }) (record { 0 = 0 })) (at + 14)
  point_last h e = point_begins (omega arith) ∙ rw (eq-eqb points.0 1 e) (number_to last 10 _ _ (at + 4) (at + 14) s (omega arith) h ∙ at_gives last _ (at + 14) s)

  pub footer_cut : at + 4 ≤ length s → length s < at + 14 → points.0 ≡ 1 → read_at last (ms_point scans points time stored) at s ≡ stops (cut last)
  footer_cut h l e = point_begins h ∙ rw (eq-eqb points.0 1 e) (at_cut (more_number 10 0 _ _ λ x. none) last (at + 4) s h (omega arith))

-- ---- a scan

-- behind a count c
abbrev behind : ℕ → ℕ → Rule Told
behind left c = do
  time ← u32 be
  skip 12
  cond (eqb ((c - 14) / 2) 0) (skip 10 >> ms_scans (left - 1)) (ms_point (record { 0 = left }) (record { 0 = (c - 14) / 2 }) (minutes (double time)) time)

one_due : (left : ℕ) → 0 < left → ms_scans left ≡ (u16 be >>= λ c. cond (ltb c 14) (refuses 11) (behind left c))
unfolding ms_scans
one_due zero h = absurd (omega arith)
one_due (suc n) h = let back : suc n - 1 ≡ n = omega arith in rw back

pub none_due : (left : ℕ) (last : Bool) (at : ℕ) (s : List ℕ) → left ≡ 0 → read_at last (ms_scans left) at s ≡ stops finished
unfolding ms_scans read
none_due left last at s e = rw e

module _ (left : ℕ) (due : 0 < left) (last : Bool) (at : ℕ) (s : List ℕ) where
  abbrev count : ℕ
  count = be (part at 2 s)

  counted : at + 2 ≤ length s → read_at last (ms_scans left) at s ≡ read_at last (cond (ltb count 14) (refuses 11) (behind left count)) (at + 2) s
  counted h = rw (one_due left due) (at_number last 2 be _ at s h)

  pub count_cut : at ≤ length s → length s < at + 2 → read_at last (ms_scans left) at s ≡ stops (cut last)
  count_cut h l = rw (one_due left due) (at_cut (more_number 2 0 be _ λ c. none) last at s h l)

  pub count_refused : at + 2 ≤ length s → count < 14 → read_at last (ms_scans left) at s ≡ stops (refused 11)
  unfolding read
  count_refused h l = counted h ∙ rw (lt-ltb count 14 l)

  module _ (some : 14 ≤ count) where
    abbrev points : ℕ
    points = (count - 14) / 2

    -- with points
    module _ (any : points ≡ 0 → ⊥) where
      filled : at + 2 ≤ length s → read_at last (ms_scans left) at s ≡ read_at last (u32 be >>= λ time. skip 12 >> ms_point (record { 0 = left }) (record { 0 = points }) (minutes (double time)) time) (at + 2) s
      filled h = counted h ∙ rw (le-ltb count 14 some, ne_eqb points 0 any)

      pub filled_cut : at + 2 ≤ length s → length s < at + 18 → read_at last (ms_scans left) at s ≡ stops (cut last)
      filled_cut h l = filled h ∙ at_cut (more_number 4 12 be _ λ time. more_number 12 0 _ _ λ x. none) last (at + 2) s h (omega arith)

      pub filled_point : at + 18 ≤ length s → read_at last (ms_scans left) at s ≡ read_at last (ms_point (record { 0 = left }) (record { 0 = points }) (minutes (double (be (part (at + 2) 4 s)))) (be (part (at + 2) 4 s))) (at + 18) s
      filled_point h = filled (omega arith) ∙ number_to last 4 be _ (at + 2) (at + 6) s (omega arith) (omega arith) ∙ number_to last 12 _ _ (at + 6) (at + 18) s (omega arith) h

    -- with none
    module _ (no : points ≡ 0) where
      empty : at + 2 ≤ length s → read_at last (ms_scans left) at s ≡ read_at last (u32 be >>= λ time. skip 12 >> (skip 10 >> ms_scans (left - 1))) (at + 2) s
      empty h = counted h ∙ rw (le-ltb count 14 some, eq-eqb points 0 no)

      pub empty_cut : at + 2 ≤ length s → length s < at + 28 → read_at last (ms_scans left) at s ≡ stops (cut last)
      empty_cut h l = empty h ∙ at_cut (more_number 4 22 be _ λ time. more_number 12 10 _ _ λ x. more_number 10 0 _ _ λ y. none) last (at + 2) s h (omega arith)

      -- so many scans left at the place behind it
      pub empty_passed : {n next : ℕ} → n ≡ left - 1 → next ≡ at + 28 → next ≤ length s → read_at last (ms_scans n) next s ≡ read_at last (ms_scans left) at s
      empty_passed e f h =
          rw (e, f)
          (sym (empty (omega (arith, f, h)) ∙ number_to last 4 be _ (at + 2) (at + 6) s (omega arith) (omega (arith, f, h))
          ∙ number_to last 12 _ _ (at + 6) (at + 18) s (omega arith) (omega (arith, f, h)) ∙ number_to last 10 _ _ (at + 18) (at + 28) s (omega arith) (omega (arith, f, h))))

-- ---- the next record, by the counts that are due

module _ (st : ChemstationMsState) (last : Bool) (s : List ℕ) where
  abbrev Reads : Read Told → Type 0
  Reads = Answers (Ms st) (ms_rule st) last s

  pub none_left : st.n_scans_left.0 ≡ 0 → Reads (stops finished)
  none_left e = scans_done (Ms st) (ms_scanning st) last s (eq-eqb _ _ e)

  pub next_scan : (st.n_scans_left.0 ≡ 0 → ⊥) → st.n_mzs_left.0 ≡ 0 → Reads (read_at last (ms_scans st.n_scans_left.0) 0 s)
  next_scan some e = scan_new (Ms st) (ms_scanning st) last s (ne_eqb _ _ some) e

  pub next_point : (st.n_scans_left.0 ≡ 0 → ⊥) → (st.n_mzs_left.0 ≡ 0 → ⊥) → Reads (read_at last (ms_point st.n_scans_left st.n_mzs_left st.cur_time st.stored_time) 0 s)
  next_point some due = scan_within (Ms st) (ms_scanning st) last s (ne_eqb _ _ some) due
