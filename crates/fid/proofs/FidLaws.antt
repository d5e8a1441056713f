-- FID: what its rule reads, by the bytes that are there.
use mathlib.Core.Path.{◌≡◌, refl, sym, ◌∙◌}
use mathlib.Core.Bool.{Bool, true, cond}
use mathlib.Core.List.{List, [], ◌∷◌}
use Prim.Native.Nat.{ℕ, ◌≤◌, ◌<◌}
use native.Mathlib.Omega.{arith}
use lib.Ieee.{binary64, of_int, of_bits}
use lib.IntN.{ℤ, pos}
use lib.ListN.{length}
use mir.Syntax.{w16}
use mir.Val.{to_z, of_z}
use Rattle.std.proofs.lemmas.Int.{to_z-of_z}
use Rattle.rules.specs.Rule.{gives, Read, got, stops, lacks, read, read_at, ◌>>=◌}
use Rattle.rules.proofs.Places.{at_start, at_number, at_gives, at_cut, more_number, none, cut, may_end_some, may_end_none}
use Rattle.common.specs.Bytes.{be, signed, part}
use Rattle.common.specs.Fields.{u16, i32}
use Rattle.floats.specs.Doubles.{double}
use Rattle.streams.specs.Changes.{slopes, restarts}
use Rattle.streams.specs.Told.{Told, is_int, told}
use Rattle.fid.specs.Fid.{fid_made, fid_rule}
use Rattle.streams.specs.declared.State.TheVariants.{Fid}
use Rattle.streams.specs.declared.ChemstationFidState.{ChemstationFidState}
use Rattle.streams.proofs.Ints.{is_int_lem, is_no_int}
use Rattle.streams.proofs.Steps.{Answers, rule_reads}

-- a signed number that is passed on stays the same
pub ruleset passed_on = (to_z-of_z)

-- ---- constants, by their bit patterns

pub zero_is : of_bits binary64 0 ≡ double 0
unfolding of_int of_bits
zero_is = refl

pub factor_is : of_bits binary64 4679239737960038400 ≡ double 65534
unfolding of_int of_bits
factor_is = refl

-- ---- the next record

module _ (st : ChemstationFidState) (last : Bool) (s : List ℕ) where
  abbrev Reads : Read Told → Type 0
  Reads = Answers (Fid st) (fid_rule st) last s

  reads : (x : Read Told) → read last (fid_rule st) s ≡ x → Reads x
  reads x e = rule_reads (Fid st) (fid_rule st) last s e

  -- past the test for the end, from the first field on
  fid_begins_lem : 2 ≤ length s → read last (fid_rule st) s ≡ read_at last (cond (is_int (signed be (part 0 2 s)) (pos 32767)) (i32 be >>= λ high. u16 be >>= λ low. gives (told (fid_made st) (restarts high low ∷ []))) (gives (told (fid_made st) (slopes (signed be (part 0 2 s)) ∷ [])))) 2 s
  unfolding fid_rule
  fid_begins_lem h = may_end_some last _ s (omega arith) ∙ sym (at_start last _ s) ∙ at_number last 2 (signed be) _ 0 s h

  pub fid_none : length s ≡ 0 → Reads (stops (lacks last true []))
  unfolding fid_rule ◌>>=◌
  fid_none e = reads (stops (lacks last true [])) (may_end_none last 2 _ s (omega arith) e)

  pub fid_cut : 0 < length s → length s < 2 → Reads (stops (cut last))
  unfolding fid_rule
  fid_cut h l =
      reads (stops (cut last)) (may_end_some last _ s h ∙ sym (at_start last _ s) ∙ at_cut (more_number 2 0 (signed be) _ λ v. none) last 0 s (omega arith) l)

  -- v is the first number, as the code tests it
  module _ {v : ℤ} (e : v ≡ signed be (part 0 2 s)) (h : 2 ≤ length s) where
    pub fid_slopes : (of_z w16 v ≡ 32767 → ⊥) → Reads (got (told (fid_made st) (slopes v ∷ [])) 2)
    fid_slopes other = reads (got (told (fid_made st) (slopes v ∷ [])) 2) (fid_begins_lem h ∙ rw (is_no_int w16 32767 e refl other, e) (at_gives last _ 2 s))

    module _ (back : to_z w16 (of_z w16 v) ≡ v) (mark : of_z w16 v ≡ 32767) where
      restart : is_int (signed be (part 0 2 s)) (pos 32767) ≡ true
      restart = is_int_lem w16 32767 e back mark

      pub fid_restart_cut : length s < 8 → Reads (stops (cut last))
      fid_restart_cut l =
          reads (stops (cut last)) (fid_begins_lem h ∙ rw restart (at_cut (more_number 4 2 (signed be) _ λ high. more_number 2 0 be _ λ low. none) last 2 s h l))

      pub fid_restarts : 8 ≤ length s → Reads (got (told (fid_made st) (restarts (signed be (part 2 4 s)) (be (part 6 2 s)) ∷ [])) 8)
      fid_restarts k =
          reads (got (told (fid_made st) (restarts (signed be (part 2 4 s)) (be (part 6 2 s)) ∷ [])) 8) (fid_begins_lem h ∙ rw restart (at_number last 4 (signed be) _ 2 s (omega arith) ∙ at_number last 2 be _ 6 s (omega arith) ∙ at_gives last _ 8 s))
