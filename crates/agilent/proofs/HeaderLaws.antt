-- What the rule of a header reads, by the bytes that are there.
use mathlib.Core.Path.{◌≡◌, refl, sym, ap, ap₂, ◌∙◌, subst}
use mathlib.Core.Bool.{Bool, true, false}
use mathlib.Core.List.{List, ◌++◌}
use Prim.Native.Nat.{ℕ, ◌+◌, ◌-◌, ◌≤◌, ◌<◌}
use native.Mathlib.Omega.{arith}
use borrow.Author.Tests.{leb-true, le-leb, lt-leb, lt-ltb}
use lib.Dec.{leb, ltb}
use lib.ListN.{length, take, drop, length-drop, take-append-drop}
use lib.Seq.{take-append-le, drop-append-le, take-add, length-take-le}
use Rattle.rules.specs.Rule.{Rule, gives, ◌>>=◌, ◌>>◌, bytes_as, Stop, Read, got, stops, refused, read, read_at, map_read}
use Rattle.rules.proofs.Laws.{read_map, by_fit, got≢stops}
use Rattle.rules.proofs.Places.{at_start, at_number, at_gives, at_cut, more_number, none, cut}
use Rattle.common.specs.Bytes.{be, part}
use Rattle.agilent.specs.declared.Kind.{Kind}
use Rattle.agilent.specs.declared.Kind.TheVariants.{Fid, Ms, Mwd, Dad, Uv, Array}
use Rattle.agilent.specs.Header.{check, known, kind_number, size_of, header_rule, size_rule}
use borrow.Table.Steps.{cases as by_bool}
use Rattle.agilent.proofs.Checks.{passes, fails, by_check}

pub is_known : (kind : Kind) {number : ℕ} → kind_number kind ≡ number → known number ≡ true
is_known Fid e = rw (← e) refl
is_known Ms e = rw (← e) refl
is_known Mwd e = rw (← e) refl
is_known Dad e = rw (← e) refl
is_known Uv e = rw (← e) refl
is_known Array e = rw (← e) refl

pub part_take : (at w n : ℕ) (s : List ℕ) → at + w ≤ length (take n s) → part at w (take n s) ≡ part at w s
part_take at w n s h =
    sym (ap (part at w) (sym (take-append-drop n s))
    ∙ ap (take w) (drop-append-le at (take n s) (drop n s) (omega arith))
    ∙ take-append-le w (drop at (take n s)) (drop n s) (omega (arith, length-drop at (take n s))))

-- behind the first 268 bytes, by the size word: the checks, and what is due then
abbrev rest : ℕ → List ℕ → Rule (List ℕ)
rest size begin = bytes_as (size - 268) (λ b. b) >>= λ b. gives (begin ++ b)

abbrev sized : ℕ → ℕ → List ℕ → Rule (List ℕ)
sized kind word begin = do
  check (ltb 0 word) 2
  check (leb 512 (size_of kind word)) 3
  check (leb (size_of kind word) 20000) 4
  rest (size_of kind word) begin

abbrev pub word_in : List ℕ → ℕ
word_in s = be (part 264 4 s)

abbrev pub size_in : ℕ → List ℕ → ℕ
size_in kind s = size_of kind (word_in s)

module _ (kind : ℕ) (last : Bool) (s : List ℕ) where
  -- the size is read as the header is
  size_reads : {x : Read (List ℕ)} → read last (header_rule kind) s ≡ x → read last (size_rule kind) s ≡ map_read length x
  size_reads e = read_map last length (header_rule kind) s ∙ ap (map_read length) e

  size_stops : {z : Stop} → read last (header_rule kind) s ≡ stops z → read last (size_rule kind) s ≡ stops z
  size_stops e = size_reads e

  unknown : known kind ≡ false → read last (header_rule kind) s ≡ stops (refused 1)
  unfolding header_rule read
  unknown e = rw (fails 1 _ e) refl

  short : known kind ≡ true → length s < 268 → read last (header_rule kind) s ≡ stops (cut last)
  unfolding header_rule
  short e l = rw (passes 1 _ e) (sym (at_start last _ s) ∙ at_cut (more_number 268 0 (λ b. b) _ λ b. none) last 0 s (omega arith) l)

  pub size_unknown : known kind ≡ false → read last (size_rule kind) s ≡ stops (refused 1)
  size_unknown e = size_stops (unknown e)

  pub size_short : known kind ≡ true → length s < 268 → read last (size_rule kind) s ≡ stops (cut last)
  size_short e l = size_stops (short e l)

module _ (kind : ℕ) (last : Bool) (s : List ℕ) (e : known kind ≡ true) (h : 268 ≤ length s) where
  begins : read last (header_rule kind) s ≡ read_at last (sized kind (word_in s) (take 268 s)) 268 s
  unfolding header_rule
  begins = rw (passes 1 _ e) (sym (at_start last _ s) ∙ at_number last 268 (λ b. b) _ 0 s h ∙ rw (part_take 264 4 268 s (omega (arith, length-take-le 268 s h))) refl)

  pub size_word : word_in s ≡ 0 → read last (size_rule kind) s ≡ stops (refused 2)
  unfolding read
  size_word z = size_stops kind last s (begins ∙ rw (fails 2 _ (ap (ltb 0) z)) refl)

  pub size_small : 0 < word_in s → size_in kind s < 512 → read last (size_rule kind) s ≡ stops (refused 3)
  unfolding read
  size_small p l = size_stops kind last s (begins ∙ rw (passes 2 _ (lt-ltb 0 _ p), fails 3 _ (lt-leb 512 _ l)) refl)

  pub size_large : 0 < word_in s → 20000 < size_in kind s → read last (size_rule kind) s ≡ stops (refused 4)
  unfolding read
  size_large p l = size_stops kind last s (begins ∙ rw (passes 2 _ (lt-ltb 0 _ p), passes 3 _ (le-leb 512 (size_in kind s) (omega arith)), fails 4 _ (lt-leb _ 20000 l)) refl)

  -- the rest is due, and makes the header with the first 268 bytes
  due : 512 ≤ size_in kind s → size_in kind s ≤ length s → read_at last (rest (size_in kind s) (take 268 s)) 268 s ≡ got (take (size_in kind s) s) (size_in kind s)
  due g l =
      let z : 268 + (size_in kind s - 268) ≡ size_in kind s = omega arith in
      at_number last _ (λ b. b) _ 268 s (omega arith)
      ∙ at_gives last _ _ s
      ∙ ap₂ got (sym (take-add 268 (size_in kind s - 268) s) ∙ ap (λ n. take n s) z) z

  due_cut : length s < size_in kind s → read_at last (rest (size_in kind s) (take 268 s)) 268 s ≡ stops (cut last)
  due_cut l = at_cut (more_number _ 0 (λ b. b) _ λ b. none) last 268 s h (omega arith)

  module _ (p : 0 < word_in s) (g : 512 ≤ size_in kind s) (m : size_in kind s ≤ 20000) where
    passed : read last (header_rule kind) s ≡ read_at last (rest (size_in kind s) (take 268 s)) 268 s
    passed = begins ∙ rw (passes 2 _ (lt-ltb 0 _ p), passes 3 _ (le-leb 512 _ g), passes 4 _ (le-leb _ 20000 m)) refl

    pub size_cut : length s < size_in kind s → read last (size_rule kind) s ≡ stops (cut last)
    size_cut l = size_stops kind last s (passed ∙ due_cut l)

    pub size_whole : size_in kind s ≤ length s → read last (size_rule kind) s ≡ got (size_in kind s) (size_in kind s)
    size_whole l = size_reads kind last s (passed ∙ due g l) ∙ ap (λ n. got n (size_in kind s)) (length-take-le (size_in kind s) s l)

-- ---- a header that is read is the first bytes, and at least 512 of them

abbrev Whole : List ℕ → Read (List ℕ) → Type 0
Whole s (got b n) = (b ≡ take n s) × (512 ≤ n) × (n ≤ length s)
Whole s (stops z) = Unit

module _ (kind : ℕ) (last : Bool) (s : List ℕ) where
  stopped : {z : Stop} {x : Read (List ℕ)} → x ≡ stops z → Whole s x
  stopped q = subst (Whole s) (sym q) tt

  checked : known kind ≡ true → 268 ≤ length s → Whole s (read_at last (sized kind (word_in s) (take 268 s)) 268 s)
  unfolding read
  checked e h =
      let P : Rule (List ℕ) → Type 0 = λ r. Whole s (read_at last r 268 s) in
      by_check 2 _ (ltb 0 (word_in s)) P
      (λ p. by_check 3 _ (leb 512 (size_in kind s)) P
      (λ g. by_check 4 _ (leb (size_in kind s) 20000) P
      (λ m. let l = leb-true 512 (size_in kind s) g in
      by_fit (size_in kind s) s (λ f. subst (Whole s) (sym (due kind last s e h l f)) (refl, l, f)) (λ f. stopped (due_cut kind last s e h f)))
      tt) tt) tt

  header_whole : Whole s (read last (header_rule kind) s)
  header_whole =
      by_bool (known kind)
      (λ e. by_fit 268 s (λ h. subst (Whole s) (sym (begins kind last s e h)) (checked e h)) (λ l. stopped (short kind last s e l)))
      (λ e. stopped (unknown kind last s e))

  pub header_stops : (z : Stop) → stops z ≡ read last (size_rule kind) s → read last (header_rule kind) s ≡ stops z
  header_stops z q = go (read last (header_rule kind) s) (q ∙ read_map last length (header_rule kind) s)
    where
      go : (x : Read (List ℕ)) → stops z ≡ map_read length x → x ≡ stops z
      go (got b n) q = absurd (got≢stops (sym q))
      go (stops y) q = let e : y ≡ z = cc in ap stops e

  pub header_gives : (n : ℕ) → got n n ≡ read last (size_rule kind) s → (read last (header_rule kind) s ≡ got (take n s) n) × (512 ≤ n) × (n ≤ length s)
  header_gives n q = go (read last (header_rule kind) s) header_whole (q ∙ read_map last length (header_rule kind) s)
    where
      go : (x : Read (List ℕ)) → Whole s x → got n n ≡ map_read length x → (x ≡ got (take n s) n) × (512 ≤ n) × (n ≤ length s)
      go (got b m) w q = let e : m ≡ n = cc in (ap₂ got (w.0 ∙ ap (λ k. take k s) e) e, omega (arith, w.1), omega (arith, w.2))
      go (stops y) w q = absurd (got≢stops q)
