-- Array: what its rule reads, by the bytes that are there, in either width.
use mathlib.Core.Path.{◌≡◌, sym, ap, ◌∙◌}
use mathlib.Core.Bool.{Bool}
use mathlib.Core.List.{List, []}
use Prim.Native.Nat.{ℕ, ◌≤◌, ◌<◌}
use native.Mathlib.Nat.{zero-add}
use native.Mathlib.Omega.{arith}
use lib.Ieee.{Float, binary32, binary64, of_bits}
use lib.ListN.{length}
use borrow.Author.Tests.{eq-eqb, ne_eqb}
use Rattle.rules.specs.Rule.{finished, Read, got, stops, read, read_at, bytes_as, map_rule}
use Rattle.rules.proofs.Places.{at_start, at_gives, at_cut, more_number, none, cut}
use Rattle.common.specs.Bytes.{part, le}
use Rattle.streams.specs.Told.{Told, told}
use Rattle.array.specs.Array.{array_made, stored, array_rule}
use Rattle.streams.specs.declared.State.TheVariants.{Array}
use Rattle.streams.specs.declared.ChemstationArrayState.{ChemstationArrayState}
use Rattle.streams.specs.declared.ChemstationArrayRecordType.TheVariants.{Float32Array, Float64Array}
use Rattle.streams.proofs.Steps.{Answers, rule_reads}
use Rattle.streams.proofs.UpTo.{number_to}

module _ (st : ChemstationArrayState) (last : Bool) (s : List ℕ) where
  abbrev Reads : Read Told → Type 0
  Reads = Answers (Array st) (array_rule st) last s

  pub array_none : st.n_scans_left.0 ≡ 0 → Reads (stops finished)
  unfolding array_rule read
  array_none e = rule_reads (Array st) (array_rule st) last s {x = stops finished} (rw (eq-eqb _ _ e))

  -- w bytes store the number that g makes of them
  module _ (w : ℕ) (g : List ℕ → Float) (due : st.n_scans_left.0 ≡ 0 → ⊥) (stores : stored st.record_type ≡ bytes_as w g) where
    begins : read last (array_rule st) s ≡ read_at last (map_rule (λ x. told (array_made st x) []) (bytes_as w g)) 0 s
    unfolding array_rule
    begins = rw (ne_eqb _ _ due, stores) (sym (at_start last _ s))

    pub array_gives : w ≤ length s → Reads (got (told (array_made st (g (part 0 w s))) []) w)
    array_gives h = rule_reads (Array st) (array_rule st) last s (begins ∙ number_to last w g _ 0 w s (zero-add w) h ∙ at_gives last _ w s)

    pub array_cut : length s < w → Reads (stops (cut last))
    array_cut l = rule_reads (Array st) (array_rule st) last s (begins ∙ at_cut (more_number w 0 g _ λ x. none) last 0 s (omega arith) (omega arith))

  module _ (due : st.n_scans_left.0 ≡ 0 → ⊥) where
    pub floats_give : st.record_type ≡ Float32Array → 4 ≤ length s → Reads (got (told (array_made st (of_bits binary32 (le (part 0 4 s)))) []) 4)
    floats_give e = array_gives 4 (λ b. of_bits binary32 (le b)) due (ap stored e)

    pub floats_cut : st.record_type ≡ Float32Array → length s < 4 → Reads (stops (cut last))
    floats_cut e = array_cut 4 (λ b. of_bits binary32 (le b)) due (ap stored e)

    pub doubles_give : st.record_type ≡ Float64Array → 8 ≤ length s → Reads (got (told (array_made st (of_bits binary64 (le (part 0 8 s)))) []) 8)
    doubles_give e = array_gives 8 (λ b. of_bits binary64 (le b)) due (ap stored e)

    pub doubles_cut : st.record_type ≡ Float64Array → length s < 8 → Reads (stops (cut last))
    doubles_cut e = array_cut 8 (λ b. of_bits binary64 (le b)) due (ap stored e)
