-- All eight texts of a run at once, one behind the other. What each of them is, Fetch says (fetch/Fetch).
use Rattle.std.specs.Prelude.{◌≡◌, true, cond, List, [], ◌∷◌, ◌++◌, map, Result, Ok, Err, ℕ, ◌+◌, ◌-◌, ◌<◌, leb, length, drop, get_or, replicate}
use Rattle.std.specs.Borrow.{MutBor}
use denote.Triple.Both.{Both}
use Rattle.rules.specs.Rule.{Rule, gives, ◌>>=◌, Read, got, stops, read, map_read}
use Rattle.error.specs.Number.{number_of}
use Rattle.error.specs.declared.Refusal.{Refusal}
use Rattle.layouts.specs.Table.{field_of}
use Rattle.metadata.specs.Metadata.{open_rule}
use Rattle.common.specs.Bytes.{part}
use Rattle.fetch.specs.Fetch.{text_of, Outcome, wrote, refuse, fetched, Fetches, replaced_in, replaced_by, passed_on}
use Rattle.fetch.specs.Fetch as one
use Rattle.fetch.specs.declared.described.Described.{Described}
use Rattle.utf16.specs.declared.Recoded.{Recoded}
use Rattle.texts.specs.declared.FetchedTexts.{FetchedTexts}

abbrev pub numbers : List ℕ
numbers = 1 ∷ 2 ∷ 3 ∷ 4 ∷ 5 ∷ 6 ∷ 7 ∷ 8 ∷ []

-- the texts of a header h of edition e, by their numbers
unfoldable pub texts_of : ℕ → List ℕ → List (List ℕ)
texts_of e h = map (λ number. text_of (field_of (number - 1) e) h) numbers

-- as Open; then all texts
unfoldable pub eight_rule : ℕ → Rule (List (List ℕ))
eight_rule kind = do
  x ← open_rule kind
  gives (texts_of x.says.edition x.bytes)

-- one behind the other
abbrev pub joined : List (List ℕ) → List ℕ
joined [] = []
joined (t ∷ ts) = t ++ joined ts

-- where each of them starts, the first of them at a place
abbrev pub starts_from : ℕ → List (List ℕ) → List ℕ
starts_from at [] = []
starts_from at (t ∷ ts) = at ∷ starts_from (at + length t) ts

-- the lent memory: bytes for all texts; of each text where it starts in them, and its length
pub record Texts : Type 0 where
  pub bytes : List ℕ
  pub starts : List ℕ
  pub lengths : List ℕ

abbrev pub lent_texts : Both (MutBor (List ℕ)) (MutBor (List ℕ)) → Both (MutBor (List ℕ)) (MutBor (List ℕ)) → Both (MutBor (List ℕ)) (MutBor (List ℕ)) → Both Texts Texts
lent_texts b s l = record {
  entry = record { bytes = b.entry.now; starts = s.entry.now; lengths = l.entry.now };
  exit = record { bytes = b.exit.now; starts = s.exit.now; lengths = l.exit.now };
}

-- all of them from the start of the buffer, the rest of which stays
abbrev pub laid_out : List (List ℕ) → List ℕ → Texts
laid_out ts old = record { bytes = joined ts ++ drop (length (joined ts)) old; starts = starts_from 0 ts; lengths = map length ts }

-- '15: the text is longer than the lent buffer', of all of them together; 'a refusal writes nothing'
abbrev pub texts_after : Texts → Read (List (List ℕ)) → Texts
texts_after old (got ts n) = cond (leb (length (joined ts)) (length old.bytes)) (laid_out ts old.bytes) old
texts_after old (stops z) = old

abbrev pub outcome_of : Result FetchedTexts Refusal → Outcome
outcome_of (Ok t) = wrote t.bytes
outcome_of (Err r) = refuse (number_of r)

-- the answer r, by Fetch's for the joined texts, and the lent memory m before and after, by what the rule reads
pub record FetchesAll (r : Result FetchedTexts Refusal) (m : Both Texts Texts) (x : Read (List (List ℕ))) : Type 0 where
  pub answer : outcome_of r ≡ fetched (length m.entry.bytes) (map_read joined x)
  pub memory : m.exit ≡ texts_after m.entry x

-- the text of a number less one, where the memory says that it stands
abbrev pub text_at : Texts → ℕ → List ℕ
text_at m k = part (get_or m.starts k 0) (get_or m.lengths k 0) m.bytes

-- the law: what is said of a text at once is what Fetch says of it alone
pub record AsFetched (r : Result FetchedTexts Refusal) (m : Both Texts Texts) (number : ℕ) (f : Result Recoded Refusal) (old new : List ℕ) : Type 0 where
  -- Fetch writes the text that stands in its place
  pub given : (n : ℕ) → outcome_of r ≡ wrote n → Fetches f old new (got (text_at m.exit (number - 1)) n)
  -- and is refused as all are, but for their length
  pub refused : (c : ℕ) → ¬ (c ≡ 15) → outcome_of r ≡ refuse c → one.outcome_of f ≡ refuse c

-- what a caller may count on who knows no text: one behind the other, and nothing else is touched
pub record Lies (r : Result FetchedTexts Refusal) (m : Both Texts Texts) : Type 0 where
  pub unwritten : (c : ℕ) → outcome_of r ≡ refuse c → m.exit ≡ m.entry
  pub first : (n : ℕ) → outcome_of r ≡ wrote n → get_or m.exit.starts 0 0 ≡ 0
  pub next : (n : ℕ) → outcome_of r ≡ wrote n → (k : ℕ) → k < 7 → get_or m.exit.starts (k + 1) 0 ≡ get_or m.exit.starts k 0 + get_or m.exit.lengths k 0
  pub count : (n : ℕ) → outcome_of r ≡ wrote n → n ≡ get_or m.exit.starts 7 0 + get_or m.exit.lengths 7 0
  pub rest : (n : ℕ) → outcome_of r ≡ wrote n → drop n m.exit.bytes ≡ drop n m.entry.bytes

-- ---- Units that were replaced.

-- the numbers in the answer
abbrev pub replaced_of : Result FetchedTexts Refusal → List ℕ
replaced_of (Ok t) = t.replaced
replaced_of (Err r) = replicate 8 0

-- they, of each text as Fetch passes its own, 0 for each where they are refused; by the lent buffer before and the bytes of the file
unfoldable pub all_passed : ℕ → List ℕ → List ℕ → List ℕ
all_passed kind old s = map (λ number. passed_on (fetched (length old) (map_read joined (read true (eight_rule kind) s))) (replaced_by number (read true (open_rule kind) s))) numbers

-- ---- Steps of the code.

-- the texts of a header, by their numbers
abbrev pub texts_in : Described → List (List ℕ)
texts_in d = texts_of d.says.edition d.bytes.now

-- the units replaced in each
unfoldable pub replaced_in_each : Described → List ℕ
replaced_in_each d = map (λ number. replaced_in (field_of (number - 1) d.says.edition) d.bytes.now) numbers

-- the texts ts, with their counts, were laid out in memory that had room for them
pub record Lays (t : FetchedTexts) (old new : Texts) (ts : List (List ℕ)) (counts : List ℕ) : Type 0 where
  pub all : new ≡ laid_out ts old.bytes
  pub count : t.bytes ≡ length (joined ts)
  pub replaced : t.replaced ≡ counts
