-- MWD: what is answered, by the points that are due and the bytes that are there.
use mathlib.Core.Path.{◌≡◌, refl, sym, ap, ◌∙◌}
use mathlib.Core.Bool.{Bool, true, false, cond}
use mathlib.Core.List.{List, []}
use Prim.Native.Nat.{ℕ, ◌%◌, ◌≤◌, ◌<◌}
use native.Mathlib.Omega.{arith}
use lib.Dec.{eqb}
use lib.ListN.{length}
use borrow.Author.Tests.{eq-eqb, ne_eqb}
use Rattle.rules.specs.Rule.{Rule, ends, finished, Read, stops, lacks, read, read_at, ◌>>=◌, may_end}
use Rattle.rules.proofs.Places.{at_start, at_number, at_cut, more_number, none, cut, may_end_some, may_end_none}
use Rattle.common.specs.Bytes.{be, part}
use Rattle.common.specs.Fields.{u16}
use Rattle.streams.specs.Told.{Told, delta}
use Rattle.mwd.specs.Mwd.{mwd_point, mwd_rule}
use Rattle.streams.specs.declared.State.TheVariants.{Mwd}
use Rattle.streams.specs.declared.ChemstationMwdState.{ChemstationMwdState}
use Rattle.streams.proofs.Steps.{answer, Answers, rule_reads}

module _ (st : ChemstationMwdState) (last : Bool) (s : List ℕ) where
  abbrev Reads : Read Told → Type 0
  Reads = Answers (Mwd st) (mwd_rule st) last s

  abbrev due : ℕ
  due = st.n_wvs_left.0

  abbrev counted : ℕ → Rule Told
  counted points = cond (eqb points 0) ends (mwd_point st (record { 0 = points }))

  abbrev either : Bool → Rule Told
  either none_due = cond none_due (u16 be >>= λ group. counted (group % 4096)) (mwd_point st st.n_wvs_left)

  pub mwd_none : length s ≡ 0 → Reads (stops (lacks last true []))
  unfolding mwd_rule mwd_point delta ◌>>=◌
  mwd_none e = rule_reads (Mwd st) (mwd_rule st) last s (go (eqb due 0))
    where
      go : (b : Bool) → read last (may_end (either b)) s ≡ stops (lacks last true [])
      go true = may_end_none last 2 _ s (omega arith) e
      go false = may_end_none last 2 _ s (omega arith) e

  -- past the test for the end
  begins : 0 < length s → Reads (read_at last (either (eqb due 0)) 0 s)
  unfolding mwd_rule
  begins h = rule_reads (Mwd st) (mwd_rule st) last s (may_end_some last (either (eqb due 0)) s h ∙ sym (at_start last (either (eqb due 0)) s))

  pub mwd_within : 0 < length s → (due ≡ 0 → ⊥) → Reads (read_at last (mwd_point st st.n_wvs_left) 0 s)
  mwd_within h d = begins h ∙ rw (ne_eqb due 0 d) refl

  module _ (d : due ≡ 0) where
    pub mwd_cut : 0 < length s → length s < 2 → Reads (stops (cut last))
    mwd_cut h l = begins h ∙ rw (eq-eqb due 0 d) (ap (answer (Mwd st)) (at_cut (more_number 2 0 be _ λ group. none) last 0 s (omega arith) l))

    module _ {group : ℕ} (e : group ≡ be (part 0 2 s)) (h : 2 ≤ length s) where
      groups : Reads (read_at last (counted (group % 4096)) 2 s)
      groups = begins (omega arith) ∙ rw (eq-eqb due 0 d, e) (ap (answer (Mwd st)) (at_number last 2 be (λ g. counted (g % 4096)) 0 s h))

      pub mwd_ends : group % 4096 ≡ 0 → Reads (stops finished)
      unfolding read
      mwd_ends z = groups ∙ rw (eq-eqb (group % 4096) 0 z) refl

      pub mwd_group : (group % 4096 ≡ 0 → ⊥) → Reads (read_at last (mwd_point st (record { 0 = group % 4096 })) 2 s)
      mwd_group z = groups ∙ rw (ne_eqb (group % 4096) 0 z) refl
