-- What the rule of Fetch reads, and the answers that say so.
use mathlib.Core.Path.{◌≡◌, refl, sym, ap, ◌∙◌}
use mathlib.Core.Bool.{true, false, ◌&&◌}
use mathlib.Core.List.{List}
use Prim.Native.Nat.{ℕ, ◌-◌}
use lib.Dec.{leb}
use borrow.Table.Steps.{cases as by}
use Rattle.rules.specs.Rule.{Stop, refused, Read, got, stops, read, map_read}
use Rattle.rules.proofs.Laws.{read_map}
use Rattle.error.specs.Number.{number_of}
use Rattle.error.specs.declared.Refusal.{Refusal}
use Rattle.std.specs.Prelude.{Result, Err}
use Rattle.utf16.specs.declared.Recoded.{Recoded}
use Rattle.fetch.specs.declared.described.Described.{Described}
use Rattle.fetch.specs.Headers.{IsHeader, IsRefusal, text_in, replaced_units}
use Rattle.layouts.specs.Table.{field_of}
use Rattle.agilent.specs.Header.{known}
use Rattle.metadata.specs.Metadata.{Header, open_rule}
use Rattle.fetch.specs.Fetch.{text_of, fetch_rule, Outcome, wrote, refuse, number_of_stop, outcome_of, Fetches, replaced_of, passed_on, passed}
use Rattle.agilent.proofs.Checks.{passes, fails}
use Rattle.agilent.proofs.HeaderLaws.{size_unknown, header_stops}
use Rattle.metadata.proofs.Opens.{open_reads}

-- ---- the number in the answer

pub passes_none : (o : Outcome) → 0 ≡ passed_on o 0
passes_none (wrote n) = refl
passes_none (refuse c) = refl

-- ---- the rule

abbrev pub text_read : ℕ → Header → List ℕ
text_read number x = text_of (field_of (number - 1) x.says.edition) x.bytes

module _ (kind number : ℕ) (s : List ℕ) where
  pub fetch_unknown : known kind ≡ false → read true (fetch_rule kind number) s ≡ stops (refused 1)
  unfolding fetch_rule read
  fetch_unknown e = rw (fails 1 _ e)

  pub fetch_no_text : known kind ≡ true → (leb 1 number && leb number 8) ≡ false → read true (fetch_rule kind number) s ≡ stops (refused 16)
  unfolding fetch_rule read
  fetch_no_text e f = rw (passes 1 _ e, fails 16 _ f)

  pub fetch_opens : known kind ≡ true → (leb 1 number && leb number 8) ≡ true → read true (fetch_rule kind number) s ≡ map_read (text_read number) (read true (open_rule kind) s)
  unfolding fetch_rule
  fetch_opens e f = rw (passes 1 _ e, passes 16 _ f) (read_map true (text_read number) (open_rule kind) s)

  -- as Open, of any kind
  pub fetch_reads : (leb 1 number && leb number 8) ≡ true → read true (fetch_rule kind number) s ≡ map_read (text_read number) (read true (open_rule kind) s)
  fetch_reads f =
      by (known kind) (λ k. fetch_opens k f)
      (λ k. fetch_unknown k ∙ sym (ap (map_read (text_read number)) (open_reads kind true s (header_stops kind true s _ (sym (size_unknown kind true s k))))))

-- ---- the answers, by what is read

module _ (kind number : ℕ) (s old : List ℕ) where
  pub refused_with : {r : Refusal} {z : Stop} → read true (fetch_rule kind number) s ≡ stops z → number_of r ≡ number_of_stop z
      → Fetches (Err r) old old (read true (fetch_rule kind number) s) × (0 ≡ passed kind number old s)
  unfolding passed
  refused_with e n = rw e (record { answer = ap refuse n; buffer = refl }, refl)

  module _ (k : known kind ≡ true) (i : (leb 1 number && leb number 8) ≡ true) where
    -- as Open
    pub opening_refused : {r : Refusal} → IsRefusal r (read true (open_rule kind) s) → Fetches (Err r) old old (read true (fetch_rule kind number) s) × (0 ≡ passed kind number old s)
    opening_refused {r} h = go (read true (open_rule kind) s) refl h
      where
        go : (x : Read Header) → read true (open_rule kind) s ≡ x → IsRefusal r x → Fetches (Err r) old old (read true (fetch_rule kind number) s) × (0 ≡ passed kind number old s)
        go (got x n) e h = absurd h
        go (stops z) e h = refused_with (fetch_opens kind number s k i ∙ ap (map_read (text_read number)) e) h

    -- the text of a header that was opened
    pub text_written : (d : Described) {r : Result Recoded Refusal} {new : List ℕ} → IsHeader d (read true (open_rule kind) s) → ((n : ℕ) → Fetches r old new (got (text_in (number - 1) d) n))
        → replaced_of r ≡ passed_on (outcome_of r) (replaced_units (number - 1) d) → Fetches r old new (read true (fetch_rule kind number) s) × (replaced_of r ≡ passed kind number old s)
    unfolding passed
    text_written d {r} {new} h f p = go (read true (open_rule kind) s) refl h
      where
        go : (x : Read Header) → read true (open_rule kind) s ≡ x → IsHeader d x → Fetches r old new (read true (fetch_rule kind number) s) × (replaced_of r ≡ passed kind number old s)
        go (stops z) e h = absurd h
        go (got x n) e h =
            let t : Fetches r old new (read true (fetch_rule kind number) s) = rw (fetch_opens kind number s k i ∙ ap (map_read (text_read number)) e, h.0, h.1) (f n) in
            (t, p ∙ ap (λ (o : Outcome). passed_on o (replaced_units (number - 1) d)) t.answer ∙ rw (e, h.0, h.1) refl)
