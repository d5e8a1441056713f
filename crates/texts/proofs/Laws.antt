-- The answers, by what the rule reads; and each text is Fetch's.
use mathlib.Core.Path.{◌≡◌, refl, sym, ap, ap₂, ◌∙◌}
use mathlib.Core.Bool.{Bool, true, false, ◌&&◌, cond, false≢true}
use mathlib.Core.List.{List, [], ◌++◌, append_assoc}
use Prim.Native.Nat.{ℕ, ◌+◌, ◌-◌, ◌≤◌, ◌<◌}
use native.Mathlib.Omega.{arith}
use denote.Triple.Both.{Both}
use lib.Dec.{leb}
use lib.ListN.{length, take, drop, get_or, replicate, length-append}
use lib.Seq.{take_at, drop_at}
use borrow.Author.Tests.{le-leb, lt-leb}
use borrow.Table.Steps.{cases as by}
use Rattle.rules.specs.Rule.{Read, got, stops, read, map_read}
use Rattle.rules.proofs.Laws.{read_map}
use Rattle.error.specs.declared.Refusal.{Refusal}
use Rattle.error.specs.declared.Refusal.TheVariants.{LentLength}
use Rattle.metadata.specs.Metadata.{Header, open_rule}
use Rattle.std.specs.Prelude.{Result, Ok, Err}
use Rattle.utf16.specs.declared.Recoded.{Recoded}
use Rattle.fetch.specs.declared.described.Described.{Described}
use Rattle.fetch.specs.Fetch.{fetch_rule, wrote, refuse, fetched, Fetches}
use Rattle.fetch.specs.Headers.{IsHeader, IsRefusal}
use Rattle.fetch.proofs.Fetches.{text_read, fetch_reads}
use Rattle.texts.specs.declared.FetchedTexts.{FetchedTexts}
use Rattle.texts.specs.Eight.{texts_of, eight_rule, joined, Texts, laid_out, text_at, outcome_of, FetchesAll, AsFetched, Lies, all_passed, texts_in, replaced_in_each, Lays}
use Rattle.texts.proofs.Joins.{eight, text_of_lem, before, none_before, grown, all_before, split_after, starts_at, length_at}

-- ---- the rule

abbrev pub texts_read : Header → List (List ℕ)
texts_read x = texts_of x.says.edition x.bytes

pub eight_opens : (kind : ℕ) (s : List ℕ) → read true (eight_rule kind) s ≡ map_read texts_read (read true (open_rule kind) s)
unfolding eight_rule
eight_opens kind s = read_map true texts_read (open_rule kind) s

-- ---- the answers, by what is read

module _ (kind : ℕ) (s : List ℕ) (old : Texts) where
  -- the memory is as it was, and each count 0
  abbrev Refuses : Refusal → Type 0
  Refuses r = FetchesAll (Err r) (record { entry = old; exit = old }) (read true (eight_rule kind) s) × (replicate 8 0 ≡ all_passed kind old.bytes s)

  -- as Open
  pub opening_refused : {r : Refusal} → IsRefusal r (read true (open_rule kind) s) → Refuses r
  unfolding all_passed
  opening_refused {r} h = go (read true (open_rule kind) s) refl h
    where
      go : (x : Read Header) → read true (open_rule kind) s ≡ x → IsRefusal r x → Refuses r
      go (got x n) e h = absurd h
      go (stops z) e h = let q = eight_opens kind s ∙ ap (map_read texts_read) e in rw q (record { answer = ap refuse h; memory = refl }, refl)

  module _ (d : Described) (h : IsHeader d (read true (open_rule kind) s)) where
    -- no room for them
    pub room_refused : length old.bytes < length (joined (texts_in d)) → Refuses LentLength
    unfolding all_passed
    room_refused l = go (read true (open_rule kind) s) refl h
      where
        go : (x : Read Header) → read true (open_rule kind) s ≡ x → IsHeader d x → Refuses LentLength
        go (stops z) e h = absurd h
        go (got x n) e h =
            let q = eight_opens kind s ∙ ap (map_read texts_read) e in
            rw (q, h.0, h.1) (record { answer = simp (lt-leb _ _ l); memory = simp (lt-leb _ _ l) }, simp (lt-leb _ _ l) refl)

    pub texts_laid : (t : FetchedTexts) (new : Texts) → length (joined (texts_in d)) ≤ length old.bytes → Lays t old new (texts_in d) (replaced_in_each d)
        → FetchesAll (Ok t) (record { entry = old; exit = new }) (read true (eight_rule kind) s) × (t.replaced ≡ all_passed kind old.bytes s)
    unfolding all_passed replaced_in_each
    texts_laid t new r p = go (read true (open_rule kind) s) refl h
      where
        go : (x : Read Header) → read true (open_rule kind) s ≡ x → IsHeader d x → FetchesAll (Ok t) (record { entry = old; exit = new }) (read true (eight_rule kind) s) × (t.replaced ≡ all_passed kind old.bytes s)
        go (stops z) e h = absurd h
        go (got x n) e h =
            let q = eight_opens kind s ∙ ap (map_read texts_read) e in
            rw (q, h.0, h.1) (record { answer = simp (le-leb _ _ r) (ap wrote p.count); memory = simp (le-leb _ _ r) p.all }, simp (le-leb _ _ r) (rw (e, h.0, h.1) p.replaced))

-- ---- each text is Fetch's

module _ (kind number : ℕ) (s : List ℕ) (least : 1 ≤ number) (most : number ≤ 8) where
  nth : List (List ℕ) → List ℕ
  nth ts = get_or ts (number - 1) []

  of_each : (x : Read Header) → map_read (text_read number) x ≡ map_read nth (map_read texts_read x)
  unfolding nth
  of_each (got x n) = ap (λ (t : List ℕ). got t n) (sym (text_of_lem x.says.edition x.bytes (number - 1) (omega arith)))
  of_each (stops z) = refl

  numbered : (leb 1 number && leb number 8) ≡ true
  numbered = rw (le-leb _ _ least, le-leb _ _ most) refl

  pub reads_each : read true (fetch_rule kind number) s ≡ map_read (λ ts. get_or ts (number - 1) []) (read true (eight_rule kind) s)
  unfolding nth
  reads_each = fetch_reads kind number s numbered ∙ of_each (read true (open_rule kind) s) ∙ ap (map_read nth) (sym (eight_opens kind s))

-- ---- and stands in its place

stands : (ts : List (List ℕ)) (old : List ℕ) (k : ℕ) → k < length ts → text_at (laid_out ts old) k ≡ get_or ts k []
stands ts old k l =
    let t = get_or ts k [] in
    let rest = joined (drop (k + 1) ts) ++ drop (length (joined ts)) old in
    let whole = ap (λ (r : List ℕ). r ++ drop (length (joined ts)) old) (split_after ts k l) ∙ append_assoc (before ts k ++ t) (joined (drop (k + 1) ts)) (drop (length (joined ts)) old) ∙ append_assoc (before ts k) t rest in
    ap₂ (λ (a n : ℕ). take n (drop a (laid_out ts old).bytes)) (starts_at ts k l) (length_at ts k)
    ∙ ap (λ (r : List ℕ). take (length t) (drop (length (before ts k)) r)) whole
    ∙ ap (take (length t)) (drop_at (before ts k) (t ++ rest) (length (before ts k)) refl) ∙ take_at t rest (length t) refl

-- what was written fits
fitted : (ts : List (List ℕ)) (old : Texts) (r : Result FetchedTexts Refusal) (n : ℕ) → outcome_of r ≡ fetched (length old.bytes) (got (joined ts) 0) → outcome_of r ≡ wrote n → leb (length (joined ts)) (length old.bytes) ≡ true
fitted ts old r n a e =
    by (leb (length (joined ts)) (length old.bytes)) (λ t. t)
    λ t. let b : outcome_of r ≡ refuse 15 = simp t at a in absurd (false≢true cc)

no_text : {c n : ℕ} → refuse c ≡ wrote n → ⊥
no_text q = false≢true cc

fifteen : (b : Bool) (n c : ℕ) → cond b (wrote n) (refuse 15) ≡ refuse c → c ≡ 15
fifteen true n c e = absurd (false≢true cc)
fifteen false n c e = cc

module _ (r : Result FetchedTexts Refusal) (f : Result Recoded Refusal) (m : Both Texts Texts) (number : ℕ) (old new : List ℕ) (least : 1 ≤ number) (most : number ≤ 8) where
  agrees_on : (x : Read Header) → FetchesAll r m (map_read texts_read x) → Fetches f old new (map_read (λ ts. get_or ts (number - 1) []) (map_read texts_read x)) → AsFetched r m number f old new
  agrees_on (got x j) a b =
      let ts = texts_read x in
      record {
        given = λ n e.
            let t = fitted ts m.entry r n a.answer e in
            let p : m.exit ≡ laid_out ts m.entry.bytes = simp t at a.memory in
            let q = ap (λ (z : Texts). text_at z (number - 1)) p ∙ stands ts m.entry.bytes (number - 1) (omega (arith, eight x.says.edition x.bytes)) in
            rw q (record { answer = b.answer; buffer = b.buffer });
        refused = λ c k e. absurd (k (fifteen (leb (length (joined ts)) (length m.entry.bytes)) (length (joined ts)) c (sym a.answer ∙ e)));
      }
  agrees_on (stops z) a b =
      record {
        given = λ n e. absurd (no_text (sym a.answer ∙ e));
        refused = λ c k e. b.answer ∙ sym a.answer ∙ e;
      }

pub agrees : (kind number : ℕ) (s : List ℕ) (r : Result FetchedTexts Refusal) (f : Result Recoded Refusal) (m : Both Texts Texts) (old new : List ℕ) → 1 ≤ number → number ≤ 8 → FetchesAll r m (read true (eight_rule kind) s)
    → Fetches f old new (read true (fetch_rule kind number) s) → AsFetched r m number f old new
agrees kind number s r f m old new least most a b =
    let e = eight_opens kind s in
    agrees_on r f m number old new least most (read true (open_rule kind) s) (rw e at a) (rw (reads_each kind number s least most ∙ ap (map_read (λ ts. get_or ts (number - 1) [])) e) at b)

-- ---- one behind the other, and nothing else is touched

module _ (ts : List (List ℕ)) (old : List ℕ) (e : length ts ≡ 8) where
  abbrev all : Texts
  all = laid_out ts old

  starts_first : get_or all.starts 0 0 ≡ 0
  starts_first = starts_at ts 0 (omega (arith, e)) ∙ ap length (none_before ts)

  ends_at : (k : ℕ) → k < 8 → length (before ts (k + 1)) ≡ get_or all.starts k 0 + get_or all.lengths k 0
  ends_at k l =
      let i : k < length ts = omega (arith, e) in
      omega (arith, ap length (grown ts k i), length-append (before ts k) (get_or ts k []), starts_at ts k i, length_at ts k)

  starts_next : (k : ℕ) → k < 7 → get_or all.starts (k + 1) 0 ≡ get_or all.starts k 0 + get_or all.lengths k 0
  starts_next k l = starts_at ts (k + 1) (omega (arith, e)) ∙ ends_at k (omega arith)

  counted : length (joined ts) ≡ get_or all.starts 7 0 + get_or all.lengths 7 0
  counted = ap length (sym (all_before ts 8 (omega (arith, e)))) ∙ ends_at 7 (omega arith)

  untouched : drop (length (joined ts)) all.bytes ≡ drop (length (joined ts)) old
  untouched = drop_at (joined ts) (drop (length (joined ts)) old) (length (joined ts)) refl

counts_all : (ts : List (List ℕ)) (old : Texts) (r : Result FetchedTexts Refusal) (n : ℕ) → outcome_of r ≡ fetched (length old.bytes) (got (joined ts) 0) → outcome_of r ≡ wrote n → n ≡ length (joined ts)
counts_all ts old r n a e =
    let b : outcome_of r ≡ wrote (length (joined ts)) = simp (fitted ts old r n a e) at a in cc

refused_all : (b : Bool) (ts : List (List ℕ)) (old : Texts) (n c : ℕ) → cond b (wrote n) (refuse 15) ≡ refuse c → cond b (laid_out ts old.bytes) old ≡ old
refused_all true ts old n c e = absurd (false≢true cc)
refused_all false ts old n c e = refl

module _ (r : Result FetchedTexts Refusal) (m : Both Texts Texts) where
  lies_in : (x : Read Header) → FetchesAll r m (map_read texts_read x) → Lies r m
  lies_in (got x j) a =
      let ts = texts_read x in
      let e = eight x.says.edition x.bytes in
      let laid : (n : ℕ) → outcome_of r ≡ wrote n → m.exit ≡ laid_out ts m.entry.bytes = λ n q. let t = fitted ts m.entry r n a.answer q in simp t at a.memory in
      record {
        unwritten = λ c q. a.memory ∙ refused_all (leb (length (joined ts)) (length m.entry.bytes)) ts m.entry (length (joined ts)) c (sym a.answer ∙ q);
        first = λ n q. rw (laid n q) (starts_first ts m.entry.bytes e);
        next = λ n q k l. rw (laid n q) (starts_next ts m.entry.bytes e k l);
        count = λ n q. rw (laid n q) (counts_all ts m.entry r n a.answer q ∙ counted ts m.entry.bytes e);
        rest = λ n q. rw (laid n q, counts_all ts m.entry r n a.answer q) (untouched ts m.entry.bytes e);
      }
  lies_in (stops z) a =
      record {
        unwritten = λ c q. a.memory;
        first = λ n q. absurd (no_text (sym a.answer ∙ q));
        next = λ n q. absurd (no_text (sym a.answer ∙ q));
        count = λ n q. absurd (no_text (sym a.answer ∙ q));
        rest = λ n q. absurd (no_text (sym a.answer ∙ q));
      }

pub lies : (kind : ℕ) (s : List ℕ) (r : Result FetchedTexts Refusal) (m : Both Texts Texts) → FetchesAll r m (read true (eight_rule kind) s) → Lies r m
lies kind s r m a = lies_in r m (read true (open_rule kind) s) (rw (eight_opens kind s) at a)
