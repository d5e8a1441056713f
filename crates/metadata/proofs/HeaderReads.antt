-- What is known of a header that was opened: the bytes that say its description; and no header is 'finished'.
use mathlib.Core.Path.{◌≡◌, refl, sym, ap, ◌∙◌}
use mathlib.Core.Bool.{Bool, true, false}
use mathlib.Core.List.{List, [], ◌∷◌}
use Prim.Native.Nat.{ℕ, zero, suc, ◌≤◌, ◌<◌}
use native.Mathlib.Omega.{arith}
use lib.Dec.{leb, eqb}
use lib.ListN.{length, get_or, take}
use borrow.Author.Tests.{leb-true}
use Rattle.std.specs.Prelude.{Option, Some, None, Result, Ok, Err}
use Rattle.rules.specs.Rule.{gives, finished, got, stops, read}
use Rattle.error.specs.Number.{stop_of}
use Rattle.error.specs.declared.Stopped.{Stopped}
use Rattle.common.specs.Bytes.{be, part}
use Rattle.floats.specs.Doubles.{scan_count_of}
use Rattle.trim.specs.declared.Extent.{Extent}
use Rattle.agilent.specs.Header.{header_rule}
use Rattle.layouts.specs.Table.{Entry, look, minima, texts, field_of}
use Rattle.pascal.specs.Texts.{Place, trimmed_from, pascal, text_rule, reach}
use Rattle.metadata.specs.Metadata.{starts_of, lengths_of, texts_rule, described_by, metadata_rule, count_rule, quotient_of, array_scans, scans_rule, Header, after_bytes, open_rule, header_read}
use Rattle.pascal.specs.declared.TextField.{TextField}
use Rattle.pascal.specs.declared.TextField.TheVariants.{Absent, Pascal, PascalToEnd, Utf16}
use Rattle.metadata.specs.declared.ChemstationMetadata.{ChemstationMetadata}
use Rattle.metadata.specs.declared.OpenedHeader.{OpenedHeader}
use Rattle.metadata.proofs.Orderly.{Orderly, giving, refusing, asking, Any, proper, outcome, itself, next, then, either, tested, checked}
use Rattle.layouts.proofs.Tables.{field_lies}

-- ---- the description: what holds of each text holds of the eight

-- the place of text k
abbrev pub place_of : ChemstationMetadata → ℕ → Place
place_of d k = record { start = get_or d.text_starts k 0; bytes = get_or d.text_lengths k 0 }

module _ (h : List ℕ) (P : TextField → Place → Type 0) (text : (f : TextField) → reach f ≤ length h → Orderly false (P f) (text_rule f h)) (nothing : P Absent (record { start = 0; bytes = 0 })) where
  abbrev place_in : List Place → ℕ → Place
  place_in ps k = record { start = get_or (starts_of ps) k 0; bytes = get_or (lengths_of ps) k 0 }

  each_text : (e : ℕ) (ts : List (List (Entry TextField))) → ((k : ℕ) → k < length ts → reach (look Absent (get_or ts k []) e) ≤ length h)
      → Orderly false (λ ps. (k : ℕ) → P (look Absent (get_or ts k []) e) (place_in ps k)) (texts_rule e h ts)
  unfolding texts_rule
  each_text e [] m = giving λ k. nothing
  each_text e (t ∷ ts) m = next (text (look Absent t e) (m 0 (omega arith))) λ p x. next (each_text e ts (λ k l. m (suc k) (omega arith))) λ ps xs. giving (at p ps x xs)
    where
      at : (p : Place) (ps : List Place) → P (look Absent t e) p → ((k : ℕ) → P (look Absent (get_or ts k []) e) (place_in ps k)) → (k : ℕ) → P (look Absent (get_or (t ∷ ts) k []) e) (place_in (p ∷ ps) k)
      at p ps x xs zero = x
      at p ps x xs (suc k) = xs k

  pub metadata_orderly : Orderly false (λ d. (k : ℕ) → P (field_of k d.edition) (place_of d k)) (metadata_rule h)
  unfolding metadata_rule described_by field_of texts
  metadata_orderly =
      let e = be (part 248 4 h) in
      then (search checked) λ _. next (tested (leb (look 0 minima e) (length h)) 6) λ _ m.
      next (each_text e texts λ k l. omega (arith, field_lies k e, leb-true (look 0 minima e) (length h) m)) λ ps x. giving x

any_trimmed : (from : ℕ) (t : Option Extent) → Orderly false Any (trimmed_from from t)
any_trimmed from None = refusing
any_trimmed from (Some e) = giving tt

any_text : (h : List ℕ) (f : TextField) → Orderly false Any (text_rule f h)
unfolding text_rule pascal
any_text h Absent = giving tt
any_text h (Pascal start width) = then (search checked) λ _. search any_trimmed
any_text h (PascalToEnd start) = then (search checked) λ _. search any_trimmed
any_text h (Utf16 start) = giving tt

-- ---- the rule of Open

count : {fields : Bool} (x : Option ℕ) → Orderly fields Any (count_rule x)
count None = refusing
count (Some n) = giving tt

scans_by_lem : {fields : Bool} (kind : ℕ) (d : ChemstationMetadata) (h : List ℕ) → Orderly fields Any (scans_rule kind d h)
unfolding array_scans
scans_by_lem kind d h = either (eqb kind 6) (then (search checked) λ _. count (scan_count_of (quotient_of d h))) (giving tt)

header : (kind : ℕ) → Orderly true Any (header_rule kind)
unfolding header_rule
header kind =
    then (search checked) λ _. then (asking refl λ b. giving tt) λ begin. then (search checked) λ _. then (search checked) λ _.
    then (search checked) λ _. then (asking refl λ b. giving tt) λ rest. giving tt

-- what holds of a header x that was opened
pub record Fit (x : Header) : Type 0 where
  pub described : metadata_rule x.bytes ≡ gives x.says

opening : (kind : ℕ) → Orderly true Fit (open_rule kind)
unfolding open_rule
opening kind =
    then (header kind) λ h. next (itself (metadata_orderly h (λ f p. Unit) (λ f _. any_text h f) tt)) λ d q. then (scans_by_lem kind d h) λ n.
    giving (record { described = q })

-- ---- the size that a description says

any_texts : (e : ℕ) (h : List ℕ) (ts : List (List (Entry TextField))) → Orderly false Any (texts_rule e h ts)
unfolding texts_rule
any_texts e h [] = giving tt
any_texts e h (t ∷ ts) = then (any_text h (look Absent t e)) λ p. then (any_texts e h ts) λ ps. giving tt

sized : (h : List ℕ) → Orderly false (λ d. d.size ≡ length h) (metadata_rule h)
unfolding metadata_rule described_by
sized h = then (search checked) λ _. then (search checked) λ _. then (any_texts (be (part 248 4 h)) h texts) λ ps. giving refl

pub says_size : (kind : ℕ) (h : List ℕ) {x : Header} → after_bytes kind h ≡ gives x → x.says.size ≡ length h
says_size kind h e = outcome (λ (x : Header). x.says.size ≡ length h) (next (sized h) λ d q. then (scans_by_lem kind d h) λ n. giving q) e

-- ---- what the answer says

module _ (last : Bool) (kind : ℕ) (s : List ℕ) (r : Result OpenedHeader Stopped) (o : header_read s r ≡ read last (open_rule kind) s) where
  module _ {z : Stopped} (e : r ≡ Err z) where
    pub read_stopped : read last (open_rule kind) s ≡ stops (stop_of z)
    read_stopped = sym o ∙ ap (header_read s) e

    pub never_finished : ¬ (stop_of z ≡ finished)
    never_finished = rw read_stopped at (proper Fit (opening kind) last s)

  module _ {x : OpenedHeader} (e : r ≡ Ok x) where
    abbrev pub header_read_lem : Header
    header_read_lem = record { bytes = take x.metadata.size s; says = x.metadata; scans = x.scans; step = x.time_step }

    pub read_opened : read last (open_rule kind) s ≡ got header_read_lem x.metadata.size
    read_opened = sym o ∙ ap (header_read s) e

    pub fits : Fit header_read_lem × (x.metadata.size ≤ length s)
    fits = rw read_opened at (proper Fit (opening kind) last s)
