-- Request 4: what the number of replaced units says of a text, of UTF-16, of Fetch and of all texts at once.
use Rattle.std.specs.Prelude.{Result, ◌≡◌, true, cond, List, [], ◌∷◌, ℕ, ◌+◌, ◌-◌, ◌*◌, ◌≤◌, eqb, length, take, get_or}
use denote.Triple.Both.{Both}
use Rattle.rules.specs.Rule.{got, read}
use Rattle.common.specs.Bytes.{AreBytes, part}
use Rattle.utf8.specs.Utf8.{Scalars, Utf8, Decoded, bad, text, decode}
use Rattle.trim.specs.WhiteSpace.{trim}
use Rattle.utf16.specs.Utf16.{units, utf16, encodes16, IsUtf16, utf8_of, unpaired}
use Rattle.layouts.specs.Table.{field_of}
use Rattle.pascal.specs.declared.TextField.{TextField}
use Rattle.pascal.specs.declared.TextField.TheVariants.{Absent, Pascal, PascalToEnd, Utf16}
use Rattle.metadata.specs.Metadata.{Header, open_rule}
use Rattle.error.specs.declared.Refusal.{Refusal}
use Rattle.fetch.specs.Fetch.{fetch_rule, wrote, refuse, outcome_of, Fetches, replaced_of, passed}
use Rattle.utf16.specs.declared.Recoded.{Recoded}
use Rattle.texts.specs.Eight.{eight_rule, Texts, FetchesAll, all_passed}
use Rattle.texts.specs.Eight as all
use Rattle.texts.specs.declared.FetchedTexts.{FetchedTexts}

-- how often x stands in a list
abbrev pub occurrences : ℕ → List ℕ → ℕ
occurrences x [] = 0
occurrences x (y ∷ ys) = cond (eqb y x) 1 0 + occurrences x ys

-- ---- UTF-16

pub record OfUnits : Type 0 where
  -- the U+FFFD of the text are the units that were replaced and the genuine ones
  pub letters : (bs cs : List ℕ) → AreBytes bs → Utf8 (utf8_of bs) cs → occurrences 0xFFFD cs ≡ unpaired (units bs) + occurrences 0xFFFD (units bs)
  -- none is replaced exactly where the units are the UTF-16 of some scalars
  pub none : (us cs : List ℕ) → IsUtf16 us cs → unpaired us ≡ 0
  pub some : (bs : List ℕ) → AreBytes bs → unpaired (units bs) ≡ 0 → IsUtf16 (units bs) (utf16 (units bs))
  -- and these are the scalars that the decoder finds
  pub inverts : (cs : List ℕ) → Scalars cs → utf16 (encodes16 cs) ≡ cs
  -- to look at: low and high; two high and a low; a high one at the end; a pair; a genuine U+FFFD
  pub reversed : unpaired (0xDC00 ∷ 0xD800 ∷ []) ≡ 2
  pub doubled : unpaired (0xD800 ∷ 0xD800 ∷ 0xDC00 ∷ []) ≡ 1
  pub last : unpaired (0x41 ∷ 0xDBFF ∷ []) ≡ 1
  pub paired : unpaired (0xDBFF ∷ 0xDFFF ∷ []) ≡ 0
  pub stored : unpaired (0xFFFD ∷ []) ≡ 0

-- ---- Fetch

abbrev pub in_scalars : Decoded → ℕ
in_scalars bad = 0
in_scalars (text cs) = occurrences 0xFFFD cs

-- the U+FFFD that stand in the header where a text does
abbrev pub genuine : TextField → List ℕ → ℕ
genuine Absent h = 0
genuine (Pascal start width) h = in_scalars (decode (part (start + 1) (get_or h start 0) h))
genuine (PascalToEnd start) h = in_scalars (decode (part (start + 1) (get_or h start 0) h))
genuine (Utf16 start) h = occurrences 0xFFFD (units (part (start + 1) (2 * get_or h start 0) h))

abbrev pub trimmed_scalars : Decoded → List ℕ
trimmed_scalars bad = []
trimmed_scalars (text cs) = trim cs

-- the scalars of the text in a field
abbrev pub scalars_in : TextField → List ℕ → List ℕ
scalars_in Absent h = []
scalars_in (Pascal start width) h = trimmed_scalars (decode (part (start + 1) (get_or h start 0) h))
scalars_in (PascalToEnd start) h = trimmed_scalars (decode (part (start + 1) (get_or h start 0) h))
scalars_in (Utf16 start) h = utf16 (units (part (start + 1) (2 * get_or h start 0) h))

-- what Fetch gives by its contract: the answer r with the number beside it, and the lent buffer before and after
pub record Given (kind number : ℕ) (s : List ℕ) (r : Result Recoded Refusal) (old new : List ℕ) : Type 0 where
  pub fetches : Fetches r old new (read true (fetch_rule kind number) s)
  pub count : replaced_of r ≡ passed kind number old s

-- what its number says
pub record Tells (kind number : ℕ) (s : List ℕ) (r : Result Recoded Refusal) (new : List ℕ) : Type 0 where
  -- 'A refusal passes 0'
  pub refused : (c : ℕ) → outcome_of r ≡ refuse c → replaced_of r ≡ 0
  -- 'an old-edition text reports 0'
  pub old : (x : Header) (m : ℕ) → read true (open_rule kind) s ≡ got x m → x.says.edition ≤ 102 → replaced_of r ≡ 0
  -- the n bytes that were written are UTF-8
  pub utf8 : (x : Header) (m n : ℕ) → read true (open_rule kind) s ≡ got x m → outcome_of r ≡ wrote n → Utf8 (take n new) (scalars_in (field_of (number - 1) x.says.edition) x.bytes)
  -- 'A genuine U+FFFD in the header is not counted': of their scalars cs, each other U+FFFD is
  pub letters : (x : Header) (m n : ℕ) (cs : List ℕ) → read true (open_rule kind) s ≡ got x m → outcome_of r ≡ wrote n → Utf8 (take n new) cs
      → occurrences 0xFFFD cs ≡ replaced_of r + genuine (field_of (number - 1) x.says.edition) x.bytes

-- ---- all texts at once

-- their answer r, with the numbers beside it
pub record GivenAll (kind : ℕ) (s : List ℕ) (r : Result FetchedTexts Refusal) (m : Both Texts Texts) : Type 0 where
  pub fetches : FetchesAll r m (read true (eight_rule kind) s)
  pub counts : all.replaced_of r ≡ all_passed kind m.entry.bytes s

pub record TellAll (kind : ℕ) (s : List ℕ) (r : Result FetchedTexts Refusal) : Type 0 where
  pub eight : length (all.replaced_of r) ≡ 8
  pub refused : (c k : ℕ) → all.outcome_of r ≡ refuse c → get_or (all.replaced_of r) k 0 ≡ 0
  -- each number is Fetch's, where neither is refused
  pub each : (number n m : ℕ) (f : Result Recoded Refusal) (old new : List ℕ) → 1 ≤ number → number ≤ 8 → Given kind number s f old new → all.outcome_of r ≡ wrote n → outcome_of f ≡ wrote m
      → get_or (all.replaced_of r) (number - 1) 0 ≡ replaced_of f

-- ---- the theorem

pub record ReplacedLetters : Type 0 where
  pub decoder : OfUnits
  pub fetch : (kind number : ℕ) (s : List ℕ) (r : Result Recoded Refusal) (old new : List ℕ) → AreBytes s → Given kind number s r old new → Tells kind number s r new
  pub texts : (kind : ℕ) (s : List ℕ) (r : Result FetchedTexts Refusal) (m : Both Texts Texts) → GivenAll kind s r m → TellAll kind s r
