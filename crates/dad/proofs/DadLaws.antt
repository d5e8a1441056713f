-- DAD: what is answered of a new scan, by the bytes that are there.
use mathlib.Core.Path.{◌≡◌, refl, sym, ap, ◌∙◌}
use mathlib.Core.Bool.{Bool, cond}
use mathlib.Core.List.{List, [], ◌∷◌}
use Prim.Native.Nat.{ℕ, ◌-◌, ◌≤◌, ◌<◌}
use native.Mathlib.Omega.{arith}
use lib.Dec.{eqb}
use lib.Ieee.{binary64, of_int, of_bits}
use lib.ListN.{length}
use borrow.Author.Tests.{eq-eqb, ne_eqb}
use Rattle.rules.specs.Rule.{Rule, ends, finished, Read, stops, read, read_at, map_read, ◌>>=◌, ◌>>◌, skip}
use Rattle.rules.proofs.Places.{at_number, at_cut, more_number, none, cut}
use Rattle.common.specs.Bytes.{le, part}
use Rattle.common.specs.Fields.{u16, u32}
use Rattle.floats.specs.Doubles.{double}
use Rattle.floats.specs.Wholes.{doubles, flat}
use Rattle.streams.specs.Changes.{clears}
use Rattle.streams.specs.Told.{Told}
use Rattle.streams.specs.Next.{stepped, rule_by}
use Rattle.streams.specs.declared.State.TheVariants.{Dad}
use Rattle.streams.specs.declared.ChemstationDadState.{ChemstationDadState}
use Rattle.streams.proofs.PointLaws.{point_cleared}
use Rattle.streams.proofs.ScanningLaws.{scans_done, scan_new, scan_within}
use Rattle.streams.proofs.Steps.{answer}
use Rattle.dad.specs.Dad.{dad_point, dad_begun, dad_scan, dad_onward, dad_scanning, dad_rule}

module _ (st : ChemstationDadState) (last : Bool) (s : List ℕ) where
  abbrev ReadsScan : Read Told → Type 0
  ReadsScan x = answer (Dad st) (read_at last (dad_scan st.n_scans_left) 0 s) ≡ answer (Dad st) x

  abbrev after_head : ℕ → ℕ → ℕ → ℕ → Rule Told
  after_head bytes time start step = cond (eqb bytes 0) ends (dad_point (dad_begun st.n_scans_left (record { 0 = bytes }) time start step) (clears ∷ []))

  abbrev after_type : Rule Told
  after_type = u16 le >>= λ size. u32 le >>= λ time. u16 le >>= λ start. u16 le >>= λ end. u16 le >>= λ step. skip 8 >> after_head (size - 22) time start step

  pub dad_type_cut : length s < 2 → ReadsScan (stops (cut last))
  unfolding dad_scan
  dad_type_cut l = ap (answer (Dad st)) (at_cut (more_number 2 0 le _ λ type. none) last 0 s (omega arith) l)

  module _ {type : ℕ} (t : type ≡ le (part 0 2 s)) where
    types : 2 ≤ length s → ReadsScan (read_at last (cond (eqb type 67) after_type ends) 2 s)
    unfolding dad_scan
    types h = rw t (ap (answer (Dad st)) (at_number last 2 le _ 0 s h))

    pub dad_other : (type ≡ 67 → ⊥) → 2 ≤ length s → ReadsScan (stops finished)
    unfolding read
    dad_other e h = types h ∙ rw (ne_eqb type 67 e) refl

    module _ (e : type ≡ 67) where
      pub dad_head_cut : 2 ≤ length s → length s < 22 → ReadsScan (stops (cut last))
      dad_head_cut h l =
          types h
          ∙ rw (eq-eqb type 67 e)
          (ap (answer (Dad st))
          (at_cut (more_number 2 18 le _ λ size. more_number 4 14 le _ λ time. more_number 2 12 le _ λ start. more_number 2 10 le _ λ end. more_number 2 8 le _ λ step. more_number 8 0 _ _ λ _. none) last 2 s h l))

      module _ {size bytes : ℕ} (z : size ≡ le (part 2 2 s)) (b : bytes ≡ size - 22) (h : 22 ≤ length s) where
        heads : ReadsScan (read_at last (after_head bytes (le (part 4 4 s)) (le (part 8 2 s)) (le (part 12 2 s))) 22 s)
        heads =
            types (omega arith)
            ∙ rw (eq-eqb type 67 e, b, z)
            (ap (answer (Dad st))
            (at_number last 2 le _ 2 s (omega arith)
            ∙ at_number last 4 le _ 4 s (omega arith)
            ∙ at_number last 2 le _ 8 s (omega arith)
            ∙ at_number last 2 le _ 10 s (omega arith)
            ∙ at_number last 2 le _ 12 s (omega arith)
            ∙ at_number last 8 _ _ 14 s h))

        pub dad_none : bytes ≡ 0 → ReadsScan (stops finished)
        unfolding read
        dad_none n = heads ∙ rw (eq-eqb bytes 0 n) refl

        pub dad_first : (bytes ≡ 0 → ⊥) →
            answer (Dad st) (read_at last (dad_scan st.n_scans_left) 0 s) ≡ map_read (stepped (flat doubles (double 0))) (read_at last (dad_point (dad_begun st.n_scans_left (record { 0 = bytes }) (le (part 4 4 s)) (le (part 8 2 s)) (le (part 12 2 s))) []) 22 s)
        unfolding dad_point
        dad_first n = heads ∙ rw (ne_eqb bytes 0 n) (sym (point_cleared le last 22 s st.cur_intensity _))

-- ---- constants, by their bit patterns

pub zero_is : of_bits binary64 0 ≡ double 0
unfolding of_int of_bits
zero_is = refl

pub twenty_is : of_bits binary64 4626322717216342016 ≡ double 20
unfolding of_int of_bits
twenty_is = refl

pub two_thousand_is : of_bits binary64 4656510908468559872 ≡ double 2000
unfolding of_int of_bits
two_thousand_is = refl

-- ---- the next record, by the counts that are due

module _ (st : ChemstationDadState) (last : Bool) (s : List ℕ) where
  abbrev NextReads : Rule Told → Type 0
  NextReads r = read last (rule_by (Dad st) (dad_rule st)) s ≡ answer (Dad st) (read_at last r 0 s)

  pub dad_ends : st.n_scans_left.0 ≡ 0 → read last (rule_by (Dad st) (dad_rule st)) s ≡ stops finished
  dad_ends e = scans_done (Dad st) (dad_scanning st) last s (eq-eqb _ _ e)

  pub dad_new : (st.n_scans_left.0 ≡ 0 → ⊥) → st.n_bytes_left.0 ≡ 0 → NextReads (dad_scan st.n_scans_left)
  dad_new n e = scan_new (Dad st) (dad_scanning st) last s (ne_eqb _ _ n) e

  pub dad_within : (st.n_scans_left.0 ≡ 0 → ⊥) → (st.n_bytes_left.0 ≡ 0 → ⊥) → NextReads (dad_point (dad_onward st) [])
  dad_within n e = scan_within (Dad st) (dad_scanning st) last s (ne_eqb _ _ n) e
