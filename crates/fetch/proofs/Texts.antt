-- What stands where a description says that a text does.
use mathlib.Core.Path.{◌≡◌, refl, sym, ap, ◌∙◌}
use mathlib.Core.Bool.{true, false}
use mathlib.Core.List.{List, []}
use Prim.Native.Nat.{ℕ, ◌+◌, ◌-◌, ◌*◌, ◌≤◌, ◌<◌}
use native.Mathlib.Omega.{arith}
use mir.Syntax.{w8}
use mir.Val.{Fits}
use lib.Dec.{ltb, eqb}
use lib.ListN.{length, get_or, take, drop, length-take, length-drop}
use lib.Seq.{drop-drop, take_all}
use borrow.Author.Tests.{eqb-true, eqb-false, leb-true, ltb-true, ltb-false}
use Rattle.rules.specs.Rule.{gives}
use Rattle.common.specs.Bytes.{part}
use Rattle.agilent.proofs.HeaderLaws.{part_take}
use Rattle.utf8.specs.Utf8.{encodes, decode}
use Rattle.utf16.specs.Utf16.{units, utf16, utf8_of, unpaired}
use Rattle.std.specs.Prelude.{Option, None, Some}
use Rattle.trim.specs.WhiteSpace.{at, trimmed_of}
use Rattle.trim.specs.declared.Extent.{Extent}
use borrow.Table.Steps.{cases as by}
use Rattle.utf8.proofs.Decodes.{exactly}
use Rattle.utf16.proofs.Units.{twice}
use Rattle.trim.proofs.Stands.{stands_at, inside_bounds, holds_text}
use Rattle.pascal.specs.declared.TextField.{TextField}
use Rattle.pascal.specs.declared.TextField.TheVariants.{Absent, Pascal, PascalToEnd, Utf16}
use Rattle.metadata.specs.declared.ChemstationMetadata.{ChemstationMetadata}
use Rattle.layouts.specs.Table.{field_of}
use Rattle.pascal.specs.Texts.{Place, place_at, trimmed_from, pascal, text_rule, reach}
use Rattle.metadata.specs.Metadata.{metadata_rule}
use Rattle.fetch.specs.Fetch.{trimmed_text, text_of, replaced_in}
use Rattle.fetch.specs.declared.described.Described.{Described}
use Rattle.fetch.specs.Headers.{text_in, replaced_units}
use Rattle.std.proofs.Math.Logic.{∥∥₁_elim}
use Rattle.std.specs.Coded.{le_prop, Coded-set, coded_list, coded_ℕ}
use Rattle.layouts.proofs.Tables.{suits, field_suits}
use Rattle.metadata.proofs.Orderly.{Orderly, giving, refusing, outcome, then, checked}
use Rattle.metadata.proofs.HeaderReads.{place_of, metadata_orderly}

-- at the place p of h stand the bytes t
pub record Holds (h : List ℕ) (p : Place) (t : List ℕ) : Type 0 where
  pub inside : p.start + p.bytes ≤ length h
  pub bytes : part p.start p.bytes h ≡ t

-- a place is 0, 0 where nothing stands
place_holds : (h : List ℕ) (at n : ℕ) → n ≤ length h - at → Holds h (place_at at n) (part at n h)
place_holds h at n l =
    by (eqb n 0) (λ t. rw (t, eqb-true n 0 t) (record { inside = omega arith; bytes = refl }))
    λ f. let z = eqb-false n 0 f in rw f (record { inside = omega arith; bytes = refl })

-- ---- a text of an old edition

module _ (h : List ℕ) (start : ℕ) where
  abbrev raw : List ℕ
  raw = part (start + 1) (get_or h start 0) h

  trimmed_holds : (p n : ℕ) → trimmed_of raw ≡ at p n → Holds h (place_at (start + 1 + p) n) (trimmed_text (decode raw))
  trimmed_holds p n e =
      let s = stands_at raw p n e in
      let i = inside_bounds s in
      let x = place_holds h (start + 1 + p) n (omega (arith, length-take (get_or h start 0) (drop (start + 1) h), length-drop (start + 1) h)) in
      record {
        inside = x.inside;
        bytes =
            x.bytes ∙ ap (take n) (sym (drop-drop p (start + 1) h)) ∙ sym (part_take p n (get_or h start 0) (drop (start + 1) h) i)
            ∙ holds_text s ∙ sym (ap trimmed_text ((exactly raw s.scalars).1 s.utf8));
      }

nothing_holds : (h : List ℕ) → Holds h (place_at 0 0) []
nothing_holds h = record { inside = omega arith; bytes = refl }

-- ---- each text

-- its bytes in the header: old ones trimmed, new ones as they are
abbrev pub stored : TextField → List ℕ → List ℕ
stored Absent h = []
stored (Pascal start width) h = trimmed_text (decode (raw h start))
stored (PascalToEnd start) h = trimmed_text (decode (raw h start))
stored (Utf16 start) h = part (start + 1) (2 * get_or h start 0) h

-- old editions hold UTF-8, and new ones UTF-16; an edition of either kind may lack a text
module _ (P : TextField → Type 0) (f : TextField) (e : ℕ) (s : suits f e ≡ true) (none : P Absent) where
  old_field : e ≤ 102 → ((start width : ℕ) → P (Pascal start width)) → ((start : ℕ) → P (PascalToEnd start)) → P f
  old_field l p q = go f s
    where
      go : (f : TextField) → suits f e ≡ true → P f
      go Absent s = none
      go (Pascal start width) s = p start width
      go (PascalToEnd start) s = q start
      go (Utf16 start) s = absurd (omega (arith, ltb-true 102 e s))

  new_field : 102 < e → ((start : ℕ) → P (Utf16 start)) → P f
  new_field l p = go f s
    where
      go : (f : TextField) → suits f e ≡ true → P f
      go Absent s = none
      go (Pascal start width) s = absurd (omega (arith, leb-true e 102 s))
      go (PascalToEnd start) s = absurd (omega (arith, leb-true e 102 s))
      go (Utf16 start) s = p start

module _ (k e : ℕ) (h : List ℕ) where
  as_it_is : e ≤ 102 → stored (field_of k e) h ≡ text_of (field_of k e) h
  unfolding text_of
  as_it_is l = old_field (λ f. stored f h ≡ text_of f h) (field_of k e) e (field_suits k e) refl l (λ start width. refl) λ start. refl

  as_units : 102 < e → utf8_of (stored (field_of k e) h) ≡ text_of (field_of k e) h
  unfolding text_of utf8_of utf16 encodes
  as_units l = new_field (λ f. utf8_of (stored f h) ≡ text_of f h) (field_of k e) e (field_suits k e) refl l λ start. refl

  -- of old ones no unit is replaced
  pub old_units : e ≤ 102 → 0 ≡ replaced_in (field_of k e) h
  unfolding replaced_in
  old_units l = old_field (λ f. 0 ≡ replaced_in f h) (field_of k e) e (field_suits k e) refl l (λ start width. refl) λ start. refl

  units_replaced : 102 < e → unpaired (units (stored (field_of k e) h)) ≡ replaced_in (field_of k e) h
  unfolding replaced_in unpaired
  units_replaced l = new_field (λ f. unpaired (units (stored f h)) ≡ replaced_in f h) (field_of k e) e (field_suits k e) refl l λ start. refl

abbrev pub Found : TextField → List ℕ → Place → Type 0
Found f h p = ((i : ℕ) → Fits w8 (get_or h i 0)) → Holds h p (stored f h)

-- a text of an old edition
module _ (f : TextField) (h : List ℕ) (start : ℕ) (old : (p : Place) → Holds h p (trimmed_text (decode (raw h start))) → Found f h p) where
  trimmed_found : (t : Option Extent) → trimmed_of (raw h start) ≡ t → Orderly false (Found f h) (trimmed_from (start + 1) t)
  trimmed_found None e = refusing
  trimmed_found (Some x) e = giving (old (place_at (start + 1 + x.start) x.count) (trimmed_holds h start x.start x.count e))

  pascal_found : (width : ℕ) → Orderly false (Found f h) (pascal start width h)
  unfolding pascal
  pascal_found width = then (search checked) λ _. trimmed_found (trimmed_of (raw h start)) refl

module _ (h : List ℕ) where
  found : (f : TextField) → reach f ≤ length h → Orderly false (Found f h) (text_rule f h)
  unfolding text_rule
  found Absent m = giving λ _. nothing_holds h
  found (Pascal start width) m = pascal_found (Pascal start width) h start (λ p x _. x) width
  found (PascalToEnd start) m = pascal_found (PascalToEnd start) h start (λ p x _. x) (length h - start)
  found (Utf16 start) m = giving λ small. place_holds h (start + 1) (2 * get_or h start 0) (omega (arith, small start))

-- the eight texts of a header
each_found : (h : List ℕ) → Orderly false (λ d. (k : ℕ) → Found (field_of k d.edition) h (place_of d k)) (metadata_rule h)
each_found h = metadata_orderly h (λ f. Found f h) (found h) λ _. nothing_holds h

-- ---- as the code takes them, from a start up to an end

module _ (h : List ℕ) (d : ChemstationMetadata) (k : ℕ) (e : metadata_rule h ≡ gives d) (small : (i : ℕ) → Fits w8 (get_or h i 0)) where
  there : Holds h (place_of d k) (stored (field_of k d.edition) h)
  there = outcome _ (each_found h) e k small

module _ (x : Described) (k : ℕ) where
  small : (i : ℕ) → Fits w8 (get_or x.bytes.now i 0)
  small i = record { fits = x.small i }

  pub text_inside : get_or x.says.text_starts k 0 + get_or x.says.text_lengths k 0 ≤ length x.bytes.now
  text_inside = ∥∥₁_elim x.described le_prop λ e. (there x.bytes.now x.says k e small).inside

  -- from its start on, and of that up to its length
  abbrev bytes : List ℕ
  bytes = take (get_or x.says.text_lengths k 0) (take (length x.bytes.now - get_or x.says.text_starts k 0) (drop (get_or x.says.text_starts k 0) x.bytes.now))

  pub bytes_there : bytes ≡ part (get_or x.says.text_starts k 0) (get_or x.says.text_lengths k 0) x.bytes.now
  bytes_there =
      let start = get_or x.says.text_starts k 0 in
      ap (take (get_or x.says.text_lengths k 0)) (take_all (length x.bytes.now - start) (drop start x.bytes.now) (omega (arith, length-drop start x.bytes.now)))

  taken : bytes ≡ stored (field_of k x.says.edition) x.bytes.now
  taken = bytes_there ∙ ∥∥₁_elim x.described (Coded-set (coded_list coded_ℕ) _ _) λ e. (there x.bytes.now x.says k e small).bytes

  pub new_text : 102 < x.says.edition → utf8_of bytes ≡ text_in k x
  new_text l = ap utf8_of taken ∙ as_units k x.says.edition x.bytes.now l

  pub new_units : 102 < x.says.edition → unpaired (units bytes) ≡ replaced_units k x
  new_units l = ap (λ (bs : List ℕ). unpaired (units bs)) taken ∙ units_replaced k x.says.edition x.bytes.now l

  pub old_text : x.says.edition ≤ 102 → bytes ≡ text_in k x
  old_text l = taken ∙ as_it_is k x.says.edition x.bytes.now l

  -- no byte of a header makes more than two of a text
  pub text_bounded : length (text_in k x) ≤ 2 * get_or x.says.text_lengths k 0
  text_bounded =
      let start = get_or x.says.text_starts k 0 in
      let n = length-take (get_or x.says.text_lengths k 0) (take (length x.bytes.now - start) (drop start x.bytes.now)) in
      by (ltb 102 x.says.edition) (λ t. omega (arith, n, ap length (new_text (ltb-true 102 x.says.edition t)), twice bytes))
      λ t. omega (arith, n, ap length (old_text (ltb-false 102 x.says.edition t)))
