-- UV: what is answered of a new scan, by the bytes that are there.
use mathlib.Core.Path.{◌≡◌, refl, sym, ap, ◌∙◌}
use mathlib.Core.Bool.{Bool, cond}
use mathlib.Core.List.{List, [], ◌∷◌}
use Prim.Native.Nat.{ℕ, ◌≤◌, ◌<◌}
use native.Mathlib.Omega.{arith}
use lib.Dec.{eqb, ltb}
use lib.Ieee.{binary64, of_int, of_bits}
use lib.ListN.{length}
use borrow.Author.Tests.{eq-eqb, ne_eqb, lt-ltb, le-ltb}
use Rattle.rules.specs.Rule.{Rule, finished, refuses, refused, Read, stops, read, read_at, ◌>>=◌, ◌>>◌, skip, map_read}
use Rattle.rules.proofs.Places.{at_number, at_cut, more_number, none, cut}
use Rattle.common.specs.Bytes.{le, part}
use Rattle.common.specs.Fields.{u16}
use Rattle.floats.specs.Doubles.{double}
use Rattle.floats.specs.Wholes.{doubles, flat}
use Rattle.streams.specs.Changes.{clears}
use Rattle.streams.specs.Told.{Told}
use Rattle.streams.specs.Next.{stepped, rule_by}
use Rattle.streams.specs.declared.State.TheVariants.{Uv}
use Rattle.streams.specs.declared.ChemstationUvState.{ChemstationUvState}
use Rattle.streams.proofs.PointLaws.{point_cleared}
use Rattle.streams.proofs.ScanningLaws.{scans_done, scan_new, scan_within}
use Rattle.streams.proofs.Steps.{answer}
use Rattle.uv.specs.Uv.{uv_point, uv_begun, uv_scan, uv_left, uv_scanning, uv_rule}

module _ (st : ChemstationUvState) (last : Bool) (s : List ℕ) where
  abbrev ReadsScan : Read Told → Type 0
  ReadsScan x = answer (Uv st) (read_at last (uv_scan st) 0 s) ≡ answer (Uv st) x

  abbrev after_step : ℕ → ℕ → ℕ → ℕ → Rule Told
  after_step time start end step = cond (eqb step 0) (refuses 13) (skip 8 >> uv_point (uv_begun st time start end step) st.n_scans_left (clears ∷ []))

  abbrev after_range : ℕ → ℕ → ℕ → Rule Told
  after_range time start end = cond (ltb end start) (refuses 12) (u16 le >>= after_step time start end)

  pub uv_range_cut : length s < 12 → ReadsScan (stops (cut last))
  unfolding uv_scan
  uv_range_cut l =
      ap (answer (Uv st))
      (at_cut (more_number 4 8 _ _ λ _. more_number 4 4 le _ λ time. more_number 2 2 le _ λ start. more_number 2 0 le _ λ end. none) last 0 s (omega arith) l)

  module _ {time start end : ℕ} (t : time ≡ le (part 4 4 s)) (a : start ≡ le (part 8 2 s)) (b : end ≡ le (part 10 2 s)) where
    ranges : 12 ≤ length s → ReadsScan (read_at last (after_range time start end) 12 s)
    unfolding uv_scan
    ranges h =
        rw (t, a, b)
        (ap (answer (Uv st))
        (at_number last 4 _ _ 0 s (omega arith)
        ∙ at_number last 4 le _ 4 s (omega arith)
        ∙ at_number last 2 le _ 8 s (omega arith)
        ∙ at_number last 2 le (after_range (le (part 4 4 s)) (le (part 8 2 s))) 10 s h))

    pub uv_above : end < start → 12 ≤ length s → ReadsScan (stops (refused 12))
    unfolding read
    uv_above l h = ranges h ∙ rw (lt-ltb end start l) refl

    module _ (l : start ≤ end) where
      pub uv_step_cut : 12 ≤ length s → length s < 14 → ReadsScan (stops (cut last))
      uv_step_cut h m = ranges h ∙ rw (le-ltb end start l) (ap (answer (Uv st)) (at_cut (more_number 2 0 le _ λ step. none) last 12 s h m))

      module _ {step : ℕ} (c : step ≡ le (part 12 2 s)) where
        steps : 14 ≤ length s → ReadsScan (read_at last (after_step time start end step) 14 s)
        steps h = ranges (omega arith) ∙ rw (le-ltb end start l, c) (ap (answer (Uv st)) (at_number last 2 le (after_step time start end) 12 s h))

        pub uv_step_zero : step ≡ 0 → 14 ≤ length s → ReadsScan (stops (refused 13))
        unfolding read
        uv_step_zero z h = steps h ∙ rw (eq-eqb step 0 z) refl

        module _ (z : step ≡ 0 → ⊥) where
          pub uv_skip_cut : 14 ≤ length s → length s < 22 → ReadsScan (stops (cut last))
          uv_skip_cut h m = steps h ∙ rw (ne_eqb step 0 z) (ap (answer (Uv st)) (at_cut (more_number 8 0 _ _ λ _. none) last 14 s h m))

          pub uv_first : 22 ≤ length s →
              answer (Uv st) (read_at last (uv_scan st) 0 s) ≡ map_read (stepped (flat doubles (double 0))) (read_at last (uv_point (uv_begun st time start end step) st.n_scans_left []) 22 s)
          unfolding uv_point
          uv_first h = steps (omega arith) ∙ rw (ne_eqb step 0 z) (ap (answer (Uv st)) (at_number last 8 _ _ 14 s h)) ∙ sym (point_cleared le last 22 s st.cur_intensity _)

-- ---- the next record, by the counts that are due

module _ (st : ChemstationUvState) (last : Bool) (s : List ℕ) where
  abbrev NextReads : Rule Told → Type 0
  NextReads r = read last (rule_by (Uv st) (uv_rule st)) s ≡ answer (Uv st) (read_at last r 0 s)

  pub uv_ends : st.n_scans_left.0 ≡ 0 → read last (rule_by (Uv st) (uv_rule st)) s ≡ stops finished
  uv_ends e = scans_done (Uv st) (uv_scanning st) last s (eq-eqb _ _ e)

  pub uv_new : (st.n_scans_left.0 ≡ 0 → ⊥) → st.n_wvs_left.0 ≡ 0 → NextReads (uv_scan st)
  uv_new n e = scan_new (Uv st) (uv_scanning st) last s (ne_eqb _ _ n) e

  pub uv_within : (st.n_scans_left.0 ≡ 0 → ⊥) → (st.n_wvs_left.0 ≡ 0 → ⊥) → NextReads (uv_point st (uv_left st) [])
  uv_within n e = scan_within (Uv st) (uv_scanning st) last s (ne_eqb _ _ n) e

-- ---- constants, by their bit patterns

pub zero_is : of_bits binary64 0 ≡ double 0
unfolding of_int of_bits
zero_is = refl

pub twenty_is : of_bits binary64 4626322717216342016 ≡ double 20
unfolding of_int of_bits
twenty_is = refl
