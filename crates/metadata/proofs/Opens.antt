-- Open: the header's bytes, then what is left of its rule, by the tests that code makes.
use mathlib.Core.Path.{◌≡◌, refl, sym, ap, ◌∙◌}
use mathlib.Core.Bool.{Bool, false}
use mathlib.Core.List.{List}
use mathlib.Core.Logic.{◌⊎◌, inl, inr}
use Prim.Native.Nat.{ℕ, ◌≤◌, ◌<◌}
use lib.Dec.{ltb}
use lib.Ieee.{Float, binary64, sub, div}
use lib.ListN.{length, take}
use borrow.Author.Tests.{lt-ltb, le-leb, lt-leb}
use Rattle.std.specs.Prelude.{Option}
use Rattle.rules.specs.Rule.{gives, refuses, ◌>>=◌, Read, refused, stops, got, read}
use Rattle.rules.proofs.Laws.{read_then, read_then_lem}
use Rattle.rules.proofs.Places.{at_gives}
use Rattle.common.specs.Bytes.{be, part}
use Rattle.floats.specs.Doubles.{double, scan_count_of}
use Rattle.agilent.specs.Header.{known, header_rule, kind_number}
use Rattle.agilent.specs.declared.Kind.{Kind}
use Rattle.agilent.specs.declared.Kind.TheVariants.{Fid, Ms, Mwd, Dad, Uv}
use Rattle.agilent.proofs.Checks.{passes, fails}
use Rattle.agilent.proofs.HeaderLaws.{size_unknown, header_stops}
use Rattle.layouts.specs.Table.{look, minima, texts}
use Rattle.metadata.specs.Metadata.{texts_rule, described_by, described_rule, metadata_rule, step_of, quotient_of, count_rule, array_scans, Header, after_description, after_bytes, open_rule}
use Rattle.metadata.specs.declared.ChemstationMetadata.{ChemstationMetadata}
use Rattle.metadata.proofs.Gathers.{AllFound}

-- ---- what is left of the rule

-- of an array's header
module _ (d : ChemstationMetadata) (h : List ℕ) where
  pub array_small : length h < 4126 → after_description 6 h d ≡ refuses 9
  unfolding array_scans ◌>>=◌
  array_small l = ap (λ r. r >>= λ n. gives (record { bytes = h; says = d; scans = n; step = step_of h })) (fails 9 (count_rule (scan_count_of (quotient_of d h))) (lt-leb 4126 _ l))

  pub array_counted : 4126 ≤ length h → {step : Float} → step ≡ step_of h → {x : Option ℕ} → x ≡ scan_count_of (div binary64 (sub binary64 d.end_time d.start_time) step) →
      after_description 6 h d ≡ (count_rule x >>= λ n. gives (record { bytes = h; says = d; scans = n; step = step }))
  unfolding array_scans quotient_of
  array_counted l s q = rw (passes 9 (count_rule (scan_count_of (quotient_of d h))) (le-leb 4126 _ l), q, s) refl

-- of a header h of edition e
module _ (h : List ℕ) (e : ℕ) where
  pub texts_refuse : {c : ℕ} → texts_rule e h texts ≡ refuses c → described_rule e h ≡ refuses c
  unfolding ◌>>=◌
  texts_refuse q = rw q refl

  pub texts_found : {starts lengths : List ℕ} → AllFound e h starts lengths → described_rule e h ≡ gives (described_by e h starts lengths)
  unfolding ◌>>=◌
  texts_found f = rw (f.given, f.first, f.second) refl

  module _ (q : e ≡ be (part 248 4 h)) where
    pub edition_unknown : look 0 minima e ≡ 0 → metadata_rule h ≡ refuses 5
    unfolding metadata_rule
    edition_unknown z = fails 5 _ (ap (ltb 0) (rw q at z))

    pub below_minimum : 0 < look 0 minima e → length h < look 0 minima e → metadata_rule h ≡ refuses 6
    unfolding metadata_rule
    below_minimum p l = passes 5 _ (lt-ltb 0 _ (rw q at p)) ∙ fails 6 _ (lt-leb _ _ (rw q at l))

    -- past the minimum, the texts decide
    pub past_minimum : 0 < look 0 minima e → look 0 minima e ≤ length h → metadata_rule h ≡ described_rule e h
    unfolding metadata_rule
    past_minimum p l =
        passes 5 _ (lt-ltb 0 _ (rw q at p)) ∙ passes 6 _ (le-leb _ _ (rw q at l)) ∙ ap (λ e. described_rule e h) (sym q)

-- the description decides what is left
pub not_described : (kind : ℕ) (h : List ℕ) {c : ℕ} → metadata_rule h ≡ refuses c → after_bytes kind h ≡ refuses c
unfolding ◌>>=◌
not_described kind h q = rw q refl

pub is_described : (kind : ℕ) (h : List ℕ) {d : ChemstationMetadata} → metadata_rule h ≡ gives d → after_bytes kind h ≡ after_description kind h d
unfolding ◌>>=◌
is_described kind h q = rw q refl

-- of a kind but array
module _ {kind : Kind} (d : ChemstationMetadata) (h : List ℕ) where
  pub no_scans : (kind ≡ Fid) ⊎ (kind ≡ Mwd) → after_description (kind_number kind) h d ≡ gives (record { bytes = h; says = d; scans = 0; step = double 0 })
  unfolding ◌>>=◌
  no_scans (inl e) = rw e refl
  no_scans (inr e) = rw e refl

  pub stored_scans : (kind ≡ Ms) ⊎ ((kind ≡ Dad) ⊎ (kind ≡ Uv)) → after_description (kind_number kind) h d ≡ gives (record { bytes = h; says = d; scans = be (part 278 4 h); step = double 0 })
  unfolding ◌>>=◌
  stored_scans (inl e) = rw e refl
  stored_scans (inr (inl e)) = rw e refl
  stored_scans (inr (inr e)) = rw e refl

pub open_reads : (kind : ℕ) (last : Bool) (s : List ℕ) {x : Read (List ℕ)} → read last (header_rule kind) s ≡ x → read last (open_rule kind) s ≡ read_then last s (after_bytes kind) x
unfolding open_rule
open_reads kind last s e = read_then_lem last (header_rule kind) (after_bytes kind) s ∙ ap (read_then last s (after_bytes kind)) e

pub open_unknown : (kind : ℕ) (last : Bool) (s : List ℕ) → known kind ≡ false → read last (open_rule kind) s ≡ stops (refused 1)
open_unknown kind last s e = open_reads kind last s (header_stops kind last s _ (sym (size_unknown kind last s e)))

-- of a header that is read, what is left of the rule decides
module _ (kind : ℕ) (last : Bool) (s : List ℕ) (n : ℕ) (q : read last (header_rule kind) s ≡ got (take n s) n) where
  pub open_refused : {c : ℕ} → after_bytes kind (take n s) ≡ refuses c → read last (open_rule kind) s ≡ stops (refused c)
  unfolding read
  open_refused e = open_reads kind last s q ∙ rw e refl

  pub open_gives : {x : Header} → after_bytes kind (take n s) ≡ gives x → read last (open_rule kind) s ≡ got x n
  open_gives e = open_reads kind last s q ∙ rw e (at_gives last _ n s)
