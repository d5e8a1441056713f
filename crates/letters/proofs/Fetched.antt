-- The number beside Fetch's answer, and those of all texts at once.
use mathlib.Core.Path.{◌≡◌, refl, sym, ap, ◌∙◌, subst}
use mathlib.Core.Bool.{true, false, cond, ◌&&◌, false≢true}
use mathlib.Core.List.{List, [], ◌∷◌, ◌++◌, map}
use Prim.Native.Nat.{ℕ, zero, suc, ◌+◌, ◌-◌, ◌*◌, ◌≤◌}
use native.Mathlib.Nat.{zero-add}
use native.Mathlib.Omega.{arith}
use denote.Triple.Both.{Both}
use lib.Dec.{leb, eqb}
use lib.ListN.{length, take, drop, get_or}
use lib.Seq.{take_at}
use borrow.Table.Steps.{cases as by}
use Rattle.rules.specs.Rule.{Read, got, stops, Stop, read, map_read}
use Rattle.common.specs.Bytes.{AreBytes, part}
use Rattle.common.proofs.Sizes.{bytes_take, bytes_drop, bytes_append}
use Rattle.common.proofs.Every.{Every, gets, at_gives, at_field, every_then, any_outcome}
use Rattle.utf8.specs.Utf8.{Scalar, Scalars, Utf8, encodes, Decoded, bad, text, decode}
use Rattle.utf8.proofs.Cases.{never}
use Rattle.utf8.proofs.Decodes.{exactly}
use Rattle.trim.specs.WhiteSpace.{white, trim_start, keep, trim_end, trim}
use Rattle.trim.proofs.Library.{start_scalars}
use Rattle.agilent.specs.Header.{known, header_rule}
use Rattle.utf16.specs.Utf16.{units}
use Rattle.utf16.proofs.Units.{recodes}
use Rattle.layouts.specs.Table.{field_of}
use Rattle.layouts.proofs.Tables.{table}
use Rattle.pascal.specs.declared.TextField.{TextField}
use Rattle.pascal.specs.declared.TextField.TheVariants.{Absent, Pascal, PascalToEnd, Utf16}
use Rattle.metadata.specs.Metadata.{Header, metadata_rule, scans_rule, open_rule}
use Rattle.fetch.specs.Fetch.{trimmed_text, text_of, fetch_rule, Outcome, wrote, refuse, outcome_of, Fetches, replaced_of, replaced_in, replaced_by, passed_on, passed}
use Rattle.utf16.specs.declared.Recoded.{Recoded}
use Rattle.fetch.proofs.Texts.{old_units}
use Rattle.std.specs.Prelude.{Result}
use Rattle.error.specs.declared.Refusal.{Refusal}
use Rattle.fetch.proofs.Fetches.{text_read, fetch_unknown, fetch_no_text, fetch_opens, passes_none}
use Rattle.texts.specs.Eight.{numbers, Texts, all_passed}
use Rattle.texts.specs.Eight as all
use Rattle.texts.specs.declared.FetchedTexts.{FetchedTexts}
use Rattle.letters.specs.Letters.{occurrences, in_scalars, genuine, trimmed_scalars, scalars_in, Given, Tells, GivenAll, TellAll}
use Rattle.letters.proofs.Units.{no_letter, one_text, letters_of}

-- ---- the header's bytes are bytes

header_bytes : (kind : ℕ) → Every AreBytes (header_rule kind)
unfolding header_rule
header_bytes kind =
    every_then (any_outcome _) λ _ _. every_then {Q = AreBytes} (at_field λ bs b l. at_gives b) λ begin b. every_then (any_outcome _) λ _ _. every_then (any_outcome _) λ _ _.
    every_then (any_outcome _) λ _ _. every_then {Q = AreBytes} (at_field λ bs b l. at_gives b) λ rest r. at_gives (bytes_append begin rest b r)

open_bytes : (kind : ℕ) → Every (λ x. AreBytes x.bytes) (open_rule kind)
unfolding open_rule
open_bytes kind = every_then (header_bytes kind) λ h b. every_then (any_outcome (metadata_rule h)) λ d _. every_then (any_outcome (scans_rule kind d h)) λ n _. at_gives b

read_bytes : (kind m : ℕ) (s : List ℕ) (x : Header) → AreBytes s → read true (open_rule kind) s ≡ got x m → AreBytes x.bytes
read_bytes kind m s x o e = rw e at (gets (open_bytes kind) true s o)

-- ---- trimming takes no U+FFFD

letter_stays : white 0xFFFD ≡ false
unfolding white
letter_stays = refl

no_white_letter : (c : ℕ) → white c ≡ true → ◌≡◌ {A = ℕ} (cond (eqb c 0xFFFD) 1 0) 0
no_white_letter c w = no_letter 0xFFFD c λ e. never (sym (ap white e) ∙ w) letter_stays

start_keeps : (cs : List ℕ) → occurrences 0xFFFD (trim_start cs) ≡ occurrences 0xFFFD cs
unfolding trim_start
start_keeps [] = refl
start_keeps (c ∷ cs) = by (white c) (λ w. simp w (omega (arith, start_keeps cs, no_white_letter c w))) λ w. simp w

keep_keeps : (c : ℕ) (ds : List ℕ) → occurrences 0xFFFD (keep c ds) ≡ cond (eqb c 0xFFFD) 1 0 + occurrences 0xFFFD ds
keep_keeps c [] = by (white c) (λ w. simp w (omega (arith, no_white_letter c w))) λ w. simp w
keep_keeps c (d ∷ ds) = refl

end_keeps : (cs : List ℕ) → occurrences 0xFFFD (trim_end cs) ≡ occurrences 0xFFFD cs
unfolding trim_end
end_keeps [] = refl
end_keeps (c ∷ cs) = keep_keeps c (trim_end cs) ∙ ap (λ (n : ℕ). cond (eqb c 0xFFFD) 1 0 + n) (end_keeps cs)

trim_keeps : (cs : List ℕ) → occurrences 0xFFFD (trim cs) ≡ occurrences 0xFFFD cs
unfolding trim
trim_keeps cs = end_keeps (trim_start cs) ∙ start_keeps cs

-- nor makes it any

keep_scalars : (c : ℕ) (ds : List ℕ) → Scalar c → Scalars ds → Scalars (keep c ds)
keep_scalars c [] s t = by (white c) (λ w. simp w tt) λ w. simp w (s, tt)
keep_scalars c (d ∷ ds) s t = (s, t)

end_scalars : (cs : List ℕ) → Scalars cs → Scalars (trim_end cs)
unfolding trim_end
end_scalars [] s = s
end_scalars (c ∷ cs) s = keep_scalars c (trim_end cs) s.0 (end_scalars cs s.1)

trim_scalars : (cs : List ℕ) → Scalars cs → Scalars (trim cs)
unfolding trim
trim_scalars cs s = end_scalars (trim_start cs) (start_scalars cs s)

-- ---- the scalars of a text, by its field

empty_utf8 : Utf8 [] []
unfolding encodes
empty_utf8 = record { scalars = tt; bytes = refl }

old_utf8 : (bs : List ℕ) (d : Decoded) → decode bs ≡ d → Utf8 (trimmed_text d) (trimmed_scalars d)
old_utf8 bs bad e = empty_utf8
old_utf8 bs (text ds) e = record { scalars = trim_scalars ds ((exactly bs ds).0 e).scalars; bytes = refl }

text_utf8 : (f : TextField) (h : List ℕ) → AreBytes h → Utf8 (text_of f h) (scalars_in f h)
unfolding text_of
text_utf8 Absent h o = empty_utf8
text_utf8 (Pascal start width) h o = old_utf8 (part (start + 1) (get_or h start 0) h) (decode (part (start + 1) (get_or h start 0) h)) refl
text_utf8 (PascalToEnd start) h o = old_utf8 (part (start + 1) (get_or h start 0) h) (decode (part (start + 1) (get_or h start 0) h)) refl
text_utf8 (Utf16 start) h o = recodes (part (start + 1) (2 * get_or h start 0) h) (bytes_take (2 * get_or h start 0) (drop (start + 1) h) (bytes_drop (start + 1) h o))

-- ---- their U+FFFD

letters_old : (d : Decoded) → occurrences 0xFFFD (trimmed_scalars d) ≡ in_scalars d
letters_old bad = refl
letters_old (text ds) = trim_keeps ds

letters_in : (f : TextField) (h : List ℕ) → occurrences 0xFFFD (scalars_in f h) ≡ replaced_in f h + genuine f h
unfolding replaced_in
letters_in Absent h = refl
letters_in (Pascal start width) h = letters_old (decode (part (start + 1) (get_or h start 0) h)) ∙ sym (zero-add _)
letters_in (PascalToEnd start) h = letters_old (decode (part (start + 1) (get_or h start 0) h)) ∙ sym (zero-add _)
letters_in (Utf16 start) h = letters_of (units (part (start + 1) (2 * get_or h start 0) h))

-- ---- Fetch

wrote≢refuse : {n c : ℕ} → wrote n ≡ refuse c → ⊥
wrote≢refuse e = false≢true cc

same_count : {n k : ℕ} → wrote n ≡ wrote k → n ≡ k
same_count e = cc

-- a text that was written stands at the buffer's start
stands : (r : Result Recoded Refusal) (old new t : List ℕ) (m n : ℕ) → Fetches r old new (got t m) → outcome_of r ≡ wrote n → take n new ≡ t
stands r old new t m n f w =
    by (leb (length t) (length old))
    (λ b.
    let e : outcome_of r ≡ wrote (length t) = simp b at f.answer in
    let p : new ≡ t ++ drop (length t) old = simp b at f.buffer in
    ap (take n) p ∙ take_at t (drop (length t) old) n (sym (same_count (sym w ∙ e))))
    λ b. let e : outcome_of r ≡ refuse 15 = simp b at f.answer in absurd (wrote≢refuse (sym w ∙ e))

module _ (kind number : ℕ) (s : List ℕ) (r : Result Recoded Refusal) (old new : List ℕ) (g : Given kind number s r old new) where
  abbrev opened : Read Header
  opened = read true (open_rule kind) s

  by_answer : replaced_of r ≡ passed_on (outcome_of r) (replaced_by number opened)
  unfolding passed
  by_answer = g.count ∙ ap (λ (o : Outcome). passed_on o (replaced_by number opened)) (sym g.fetches.answer)

  module _ (n : ℕ) (w : outcome_of r ≡ wrote n) where
    given_count : replaced_of r ≡ replaced_by number opened
    given_count = by_answer ∙ ap (λ (o : Outcome). passed_on o (replaced_by number opened)) w

    no_stop : {z : Stop} → read true (fetch_rule kind number) s ≡ stops z → ⊥
    no_stop e = let f = rw e at g.fetches in absurd (wrote≢refuse (sym w ∙ f.answer))

    read_text : (x : Header) (m : ℕ) → opened ≡ got x m → read true (fetch_rule kind number) s ≡ got (text_read number x) m
    read_text x m e =
        by (known kind)
        (λ k. by (leb 1 number && leb number 8) (λ b. fetch_opens kind number s k b ∙ ap (map_read (text_read number)) e) (λ b. absurd (no_stop (fetch_no_text kind number s k b))))
        λ k. absurd (no_stop (fetch_unknown kind number s k))

    module _ (x : Header) (m : ℕ) (o : AreBytes s) (e : opened ≡ got x m) where
      abbrev field : TextField
      field = field_of (number - 1) x.says.edition

      fetched_utf8 : Utf8 (take n new) (scalars_in field x.bytes)
      fetched_utf8 =
          let f = rw (read_text x m e) at g.fetches in
          subst (λ (bs : List ℕ). Utf8 bs (scalars_in field x.bytes)) (sym (stands r old new (text_read number x) m n f w)) (text_utf8 field x.bytes (read_bytes kind m s x o e))

      fetched_letters : (cs : List ℕ) → Utf8 (take n new) cs → occurrences 0xFFFD cs ≡ replaced_of r + genuine field x.bytes
      fetched_letters cs u =
          ap (occurrences 0xFFFD) (one_text u fetched_utf8) ∙ letters_in field x.bytes
          ∙ ap (λ (k : ℕ). k + genuine field x.bytes) (sym (given_count ∙ ap (replaced_by number) e))

  pub tells : AreBytes s → Tells kind number s r new
  tells o = record {
    refused = λ c e. by_answer ∙ ap (λ (k : Outcome). passed_on k (replaced_by number opened)) e;
    old = λ x m e l. by_answer ∙ ap (passed_on (outcome_of r)) (ap (replaced_by number) e ∙ sym (old_units (number - 1) x.says.edition x.bytes l)) ∙ sym (passes_none (outcome_of r));
    utf8 = λ x m n e w. fetched_utf8 n w x m o e;
    letters = λ x m n cs e w u. fetched_letters n w x m o e cs u;
  }

-- ---- all texts at once

zeros : (ns : List ℕ) (k : ℕ) → ◌≡◌ {A = ℕ} (get_or (map (λ _. 0) ns) k 0) 0
zeros [] k = refl
zeros (n ∷ ns) zero = refl
zeros (n ∷ ns) (suc k) = zeros ns k

module _ (kind : ℕ) (s : List ℕ) (r : Result FetchedTexts Refusal) (m : Both Texts Texts) (g : GivenAll kind s r m) where
  abbrev numbered : Outcome → ℕ → ℕ
  numbered o number = passed_on o (replaced_by number (read true (open_rule kind) s))

  each_answer : all.replaced_of r ≡ map (numbered (all.outcome_of r)) numbers
  unfolding all_passed
  each_answer = g.counts ∙ ap (λ (o : Outcome). map (numbered o) numbers) (sym g.fetches.answer)

  by_number : (o : Outcome) (number : ℕ) → 1 ≤ number → number ≤ 8 → get_or (map (numbered o) numbers) (number - 1) 0 ≡ numbered o number
  by_number o number low high =
      let e : suc (number - 1) ≡ number = omega arith in
      table (map (numbered o) numbers) 0 8 (λ k. numbered o (suc k)) refl (number - 1) (omega arith) ∙ ap (numbered o) e

  each_is : (number n k : ℕ) (f : Result Recoded Refusal) (old new : List ℕ) → 1 ≤ number → number ≤ 8 → Given kind number s f old new → all.outcome_of r ≡ wrote n → outcome_of f ≡ wrote k
      → get_or (all.replaced_of r) (number - 1) 0 ≡ replaced_of f
  each_is number n k f old new low high h p q =
      ap (λ (l : List ℕ). get_or l (number - 1) 0) each_answer ∙ by_number (all.outcome_of r) number low high
      ∙ ap (λ (o : Outcome). numbered o number) p ∙ sym (given_count kind number s f old new h k q)

  pub tell_all : TellAll kind s r
  tell_all = record {
    eight = ap length each_answer;
    refused = λ c k e. ap (λ (l : List ℕ). get_or l k 0) (each_answer ∙ ap (λ (o : Outcome). map (numbered o) numbers) e) ∙ zeros numbers k;
    each = each_is;
  }
