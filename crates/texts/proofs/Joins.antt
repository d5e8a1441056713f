-- Texts one behind the other: how far the first k of them reach.
use mathlib.Core.Path.{◌≡◌, refl, sym, ap, ap₂, ◌∙◌}
use mathlib.Core.List.{List, [], ◌∷◌, ◌++◌, map, append-nil, append_assoc}
use Prim.Native.Nat.{ℕ, zero, suc, ◌+◌, ◌-◌, ◌*◌, ◌≤◌, ◌<◌}
use native.Mathlib.Numerals.{add-one}
use native.Mathlib.Omega.{arith}
use lib.ListN.{length, take, drop, set, get_or, get_or-eq_default, length-append, length-drop, length-set, replicate, drop_of_length-le, get_or-map}
use Rattle.std.specs.List.{sum}
use Rattle.std.proofs.lemmas.List.Sums.{sum_by_more, sum_by-take-le}
use lib.Dec.{ltb}
use borrow.Author.Tests.{ltb-true, ltb-false}
use borrow.Table.Steps.{cases as by}
use lib.Seq.{paste, take-suc, take-suc-set, take_all, drop-drop}
use borrow.Rule.Slice.PartMut.{put_mid, Post-is}
use Rattle.fetch.specs.declared.described.Described.{Described}
use Rattle.layouts.specs.Table.{field_of}
use Rattle.layouts.proofs.Tables.{table}
use Rattle.written.proofs.Puts.{paste_next}
use Rattle.fetch.specs.Fetch.{text_of}
use Rattle.fetch.specs.declared.stored.Stored.{Stored}
use Rattle.fetch.specs.Headers.{text_in, replaced_units, utf8_in}
use Rattle.fetch.proofs.Texts.{text_bounded}
use Rattle.texts.specs.Eight.{texts_of, joined, starts_from, Texts, texts_in, replaced_in_each, Lays}

-- ---- the eight

module _ (e : ℕ) (h : List ℕ) where
  pub eight : length (texts_of e h) ≡ 8
  unfolding texts_of
  eight = refl

  pub text_of_lem : (k : ℕ) → k < 8 → get_or (texts_of e h) k [] ≡ text_of (field_of k e) h
  unfolding texts_of
  text_of_lem k l = table (texts_of e h) [] 8 (λ k. text_of (field_of k e) h) refl k l

module _ (d : Described) where
  pub eight_texts : length (texts_in d) ≡ 8
  eight_texts = eight d.says.edition d.bytes.now

  -- text k, as the code has it
  pub text_is : (k : ℕ) (t : Stored) → k < 8 → utf8_in t ≡ text_in k d → get_or (texts_in d) k [] ≡ utf8_in t
  text_is k t l e = text_of_lem d.says.edition d.bytes.now k l ∙ sym e

  pub eight_counts : length (replaced_in_each d) ≡ 8
  unfolding replaced_in_each
  eight_counts = refl

  pub count_of : (k : ℕ) → k < 8 → get_or (replaced_in_each d) k 0 ≡ replaced_units k d
  unfolding replaced_in_each
  count_of k l = table (replaced_in_each d) 0 8 (λ k. replaced_units k d) refl k l

-- ---- the first k

pub before : List (List ℕ) → ℕ → List ℕ
before ts k = joined (take k ts)

pub none_before : (ts : List (List ℕ)) → before ts 0 ≡ []
unfolding before
none_before ts = refl

one_more : (ts : List (List ℕ)) (k : ℕ) → k < length ts → joined (take (suc k) ts) ≡ joined (take k ts) ++ get_or ts k []
one_more [] k l = absurd (omega arith)
one_more (t ∷ ts) zero l = append-nil t
one_more (t ∷ ts) (suc k) l = ap (λ (r : List ℕ). t ++ r) (one_more ts k (omega arith)) ∙ sym (append_assoc t (joined (take k ts)) (get_or ts k []))

pub grown : (ts : List (List ℕ)) (k : ℕ) → k < length ts → before ts (k + 1) ≡ before ts k ++ get_or ts k []
unfolding before
grown ts k l = rw add-one (one_more ts k l)

pub all_before : (ts : List (List ℕ)) (k : ℕ) → length ts ≤ k → before ts k ≡ joined ts
unfolding before
all_before ts k l = ap joined (take_all k ts l)

parts : (ts : List (List ℕ)) (k : ℕ) → joined ts ≡ joined (take k ts) ++ joined (drop k ts)
parts [] zero = refl
parts [] (suc k) = refl
parts (t ∷ ts) zero = refl
parts (t ∷ ts) (suc k) = ap (λ (r : List ℕ). t ++ r) (parts ts k) ∙ sym (append_assoc t (joined (take k ts)) (joined (drop k ts)))

pub reaches : (ts : List (List ℕ)) (k : ℕ) → length (before ts k) ≤ length (joined ts)
unfolding before
reaches ts k = omega (arith, ap length (parts ts k), length-append (joined (take k ts)) (joined (drop k ts)))

-- text k between those before it and those behind
pub split_after : (ts : List (List ℕ)) (k : ℕ) → k < length ts → joined ts ≡ (before ts k ++ get_or ts k []) ++ joined (drop (k + 1) ts)
unfolding before
split_after ts k l = parts ts (k + 1) ∙ ap (λ (r : List ℕ). r ++ joined (drop (k + 1) ts)) (grown ts k l)

-- counting them: n bytes are before text k, which is t
module _ (ts : List (List ℕ)) (n k : ℕ) (t : List ℕ) (c : n ≡ length (before ts k)) (l : k < length ts) (is : get_or ts k [] ≡ t) where
  pub counts : (m : ℕ) → m ≡ length t → n + m ≡ length (before ts (k + 1))
  counts m e = omega (arith, c, e, ap length (grown ts k l), length-append (before ts k) (get_or ts k []), ap length is)

  pub passes_by : (room : ℕ) → n ≤ room → room - n < length t → room < length (joined ts)
  passes_by room h f = omega (arith, counts (length t) refl, reaches ts (k + 1))

-- by the bytes that are stored of them
stored_more : (ns : List ℕ) (k : ℕ) → sum (take k ns) + get_or ns k 0 ≤ sum (take (suc k) ns)
stored_more ns k =
    by (ltb k (length ns))
    (λ t.
    let e : suc k ≡ k + 1 = omega arith in rw e (omega (arith, sum_by_more (λ x. x) ns k 0 (ltb-true _ _ t))))
    λ t. let l = ltb-false _ _ t in rw (take_all k ns l, take_all (suc k) ns (omega (arith, l)), get_or-eq_default ns 0 l) (omega arith)

module _ (d : Described) where
  bounded : (k : ℕ) → k ≤ 8 → length (joined (take k (texts_in d))) ≤ 2 * sum (take k d.says.text_lengths)
  bounded zero l = omega arith
  bounded (suc k) l =
      let ts = texts_in d in
      omega (
        arith,
        bounded k (omega arith),
        ap length (one_more ts k (omega (arith, eight d.says.edition d.bytes.now))),
        length-append (joined (take k ts)) (get_or ts k []),
        ap length (text_of_lem d.says.edition d.bytes.now k (omega arith)),
        text_bounded d k,
        stored_more d.says.text_lengths k,
      )

  pub all_bounded : length (joined (texts_in d)) ≤ 2 * sum d.says.text_lengths
  all_bounded = let ts = texts_in d in omega (arith, bounded 8 (omega arith), ap (λ (r : List (List ℕ)). length (joined r)) (take_all 8 ts (omega (arith, eight d.says.edition d.bytes.now))), sum_by-take-le (λ x. x) d.says.text_lengths 8)

-- ---- where they start

length_starts : (ts : List (List ℕ)) (at : ℕ) → length (starts_from at ts) ≡ length ts
length_starts [] at = refl
length_starts (t ∷ ts) at = ap suc (length_starts ts (at + length t))

length_lengths : (ts : List (List ℕ)) → length (map length ts) ≡ length ts
length_lengths [] = refl
length_lengths (t ∷ ts) = ap suc (length_lengths ts)

start_of : (ts : List (List ℕ)) (k at : ℕ) → k < length ts → get_or (starts_from at ts) k 0 ≡ at + length (joined (take k ts))
start_of [] k at l = absurd (omega arith)
start_of (t ∷ ts) zero at l = omega arith
start_of (t ∷ ts) (suc k) at l = omega (arith, start_of ts k (at + length t) (omega arith), length-append t (joined (take k ts)))

pub starts_at : (ts : List (List ℕ)) (k : ℕ) → k < length ts → get_or (starts_from 0 ts) k 0 ≡ length (before ts k)
unfolding before
starts_at ts k l = omega (arith, start_of ts k 0 l)

pub length_at : (ts : List (List ℕ)) (k : ℕ) → get_or (map length ts) k 0 ≡ length (get_or ts k [])
length_at ts k = get_or-map length ts k []

-- a text at the start of the part of a buffer from a place on is the text at that place
pub put_behind : (d part t : List ℕ) (at n : ℕ) → at ≤ length d → n ≡ length t → part ≡ t ++ drop n (take (length d - at) (drop at d))
    → put_mid at (length d - at) d part ≡ paste d at t n
put_behind d part t at n h e p =
    let rest : length (drop at d) ≤ length d - at = omega (arith, length-drop at d) in
    let whole = p ∙ ap (λ (r : List ℕ). t ++ drop n r) (take_all (length d - at) (drop at d) rest) ∙ ap (λ (r : List ℕ). t ++ r) (drop-drop n at d) in
    let none = Post-is at (length d) d h ∙ drop_of_length-le d {i = length d} (omega arith) in
    ap₂ (λ (r q : List ℕ). take at d ++ (r ++ q)) whole none ∙ ap (λ (r : List ℕ). take at d ++ r) (append-nil (t ++ drop (at + n) d))
    ∙ sym (append_assoc (take at d) t (drop (at + n) d)) ∙ ap (λ (r : List ℕ). take at d ++ r ++ drop (at + n) d) (sym (take_all n t (omega (arith, e))))

-- ---- laying them out

-- the first k numbers of l are those of m
pub record Listed (m l : List ℕ) (k : ℕ) : Type 0 where
  pub same : take k l ≡ take k m
  pub long : length l ≡ length m

list_on : {m l : List ℕ} {k : ℕ} (x : ℕ) → Listed m l k → k < length m → x ≡ get_or m k 0 → Listed m (set l k x) (k + 1)
list_on {m} {l} {k} x g i e =
    record {
      same = rw add-one (take-suc-set l k x (omega (arith, g.long)) ∙ ap₂ (λ (r : List ℕ) (y : ℕ). r ++ y ∷ []) g.same e ∙ sym (take-suc m k 0 i));
      long = length-set l k x ∙ g.long;
    }

listed : {m l : List ℕ} {k : ℕ} → Listed m l k → length m ≤ k → l ≡ m
listed {m} {l} {k} g i = sym (take_all k l (omega (arith, g.long))) ∙ g.same ∙ take_all k m i

pub record Laying (ts : List (List ℕ)) (cs old starts lengths replaced new : List ℕ) (n k : ℕ) : Type 0 where
  pub bytes : new ≡ before ts k ++ drop n old
  pub count : n ≡ length (before ts k)
  pub from : Listed (starts_from 0 ts) starts k
  pub of : Listed (map length ts) lengths k
  pub counts : Listed cs replaced k
  pub room : k ≤ length ts

pub lay_starts : (ts : List (List ℕ)) (cs old starts lengths : List ℕ) → length ts ≡ 8 → length cs ≡ 8 → length starts ≡ 8 → length lengths ≡ 8 → Laying ts cs old starts lengths (replicate 8 0) old 0 0
unfolding before
lay_starts ts cs old starts lengths e f g h =
    record {
      bytes = refl;
      count = refl;
      from = record { same = refl; long = g ∙ sym (length_starts ts 0 ∙ e) };
      of = record { same = refl; long = h ∙ sym (length_lengths ts ∙ e) };
      counts = record { same = refl; long = sym f };
      room = omega arith;
    }

pub same_room : {ts : List (List ℕ)} {cs old starts lengths replaced new : List ℕ} {n k : ℕ} → Laying ts cs old starts lengths replaced new n k → length (joined ts) ≤ length old → length new ≡ length old
same_room {ts} {old = old} {n = n} {k = k} g h =
    omega (arith, ap length g.bytes, length-append (before ts k) (drop n old), length-drop n old, g.count, reaches ts k)

module _ (ts : List (List ℕ)) (cs old starts lengths replaced new : List ℕ) (n k : ℕ) (g : Laying ts cs old starts lengths replaced new n k) (l : k < length ts) (t : List ℕ) (is : get_or ts k [] ≡ t) where
  pub lay_fits : length (joined ts) ≤ length old → n + length t ≤ length new
  lay_fits h = omega (arith, same_room g h, counts ts n k t g.count l is (length t) refl, reaches ts (k + 1))

  pub lays_on : (m c : ℕ) (now : List ℕ) → m ≡ length t → now ≡ paste new n t m → k < length cs → c ≡ get_or cs k 0 → Laying ts cs old (set starts k n) (set lengths k m) (set replaced k c) now (n + m) (k + 1)
  lays_on m c now e p i q =
      let more = grown ts k l ∙ ap (λ (r : List ℕ). before ts k ++ r) is in
      record {
        bytes =
            p ∙ ap₂ (λ (d : List ℕ) (j : ℕ). paste d n t j) g.bytes e ∙ paste_next old (before ts k) t n g.count
            ∙ ap₂ (λ (r : List ℕ) (j : ℕ). r ++ drop (n + j) old) (sym more) (sym e);
        count = omega (arith, g.count, e, ap length more, length-append (before ts k) t);
        from = list_on n g.from (omega (arith, length_starts ts 0)) (g.count ∙ sym (starts_at ts k l));
        of = list_on m g.of (omega (arith, length_lengths ts)) (e ∙ ap length (sym is) ∙ sym (length_at ts k));
        counts = list_on c g.counts i q;
        room = omega arith;
      }

pub laid : (ts : List (List ℕ)) (cs : List ℕ) (old : Texts) (starts lengths replaced new : List ℕ) (n k : ℕ) → Laying ts cs old.bytes starts lengths replaced new n k → length ts ≤ k → length cs ≤ k
    → Lays (record { bytes = n; replaced = replaced }) old (record { bytes = new; starts = starts; lengths = lengths }) ts cs
laid ts cs old starts lengths replaced new n k g l i =
    let all = all_before ts k l in
    let from = listed g.from (omega (arith, length_starts ts 0)) in
    let of = listed g.of (omega (arith, length_lengths ts)) in
    let c = g.count ∙ ap length all in
    let b = g.bytes ∙ ap₂ (λ (r : List ℕ) (j : ℕ). r ++ drop j old.bytes) all c in
    record { all = λ i. record { bytes = b i; starts = from i; lengths = of i }; count = c; replaced = listed g.counts i }
