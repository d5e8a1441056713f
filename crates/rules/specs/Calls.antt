-- The records of a run: read straight, and by calls that ask for some at a time. Document 01, from 'Demand 3 is a single claim' on.
use Rattle.std.specs.Prelude.{◌≡◌, ◌↔◌, ◌⊎◌, Bool, false, cond, List, [], ◌∷◌, ◌++◌, ℕ, zero, suc, ◌+◌, ◌<◌, length, drop, ltb, eqb}
use Rattle.rules.specs.Rule.{Rule, gives, Stop, refused, finished, more_bytes, Read, got, stops, read, EndsPast, ◌>>=◌}

-- what the rule of a state gives: a record, and the state after it
pub record Item (S R : Type 0) : Type 0 where
  pub shows : R
  pub after : S

-- what closes a call: it gave as many records as it asked for, or it stopped before
pub data Answer : Type 0 where
  full : Answer
  stopped : Stop → Answer

-- FORMAT 2.3. What a call returns: the records, the count of bytes consumed, the state after the last record, the closing answer
pub record Reading (S R : Type 0) : Type 0 where
  pub records : List R
  pub consumed : ℕ
  pub state : S
  pub closing : Answer

-- a call without a record consumes nothing and returns the state that it was given
abbrev pub nothing : {S R : Type 0} → S → Answer → Reading S R
nothing st z = record { records = []; consumed = 0; state = st; closing = z }

-- a record that took n bytes, and then a reading behind it
abbrev pub ahead : {S R : Type 0} → R → ℕ → Reading S R → Reading S R
ahead r n s = record { records = r ∷ s.records; consumed = n + s.consumed; state = s.state; closing = s.closing }

-- Next record as a call: one record, or the answer
abbrev pub one_record : {S R : Type 0} → S → Read (Item S R) → Reading S R
one_record st (got x n) = record { records = x.shows ∷ []; consumed = n; state = x.after; closing = full }
one_record st (stops z) = nothing st (stopped z)

abbrev pub go_on : {S R : Type 0} → S → List ℕ → (S → List ℕ → Reading S R) → Read (Item S R) → Reading S R
go_on st bs onward (got x n) = ahead x.shows n (onward x.after (drop n bs))
go_on st bs onward (stops z) = nothing st (stopped z)

-- two readings of the same bytes, the second told that they are the last: they agree but for what closes them where more bytes are due
pub record SameToEnd {S R : Type 0} (x y : Reading S R) : Type 0 where
  pub records : y.records ≡ x.records
  pub consumed : y.consumed ≡ x.consumed
  pub state : y.state ≡ x.state
  pub closing : ¬ (x.closing ≡ stopped more_bytes) → y.closing ≡ x.closing
  pub at_end : x.closing ≡ stopped more_bytes → (y.closing ≡ stopped finished) ⊎ (y.closing ≡ stopped (refused 14))

-- 'Next record by value and Fill columns in any order and number'
pub data Call : Type 0 where
  next : Call
  fill : ℕ → Call  -- columns of this length
  fill_unequal : Call  -- columns whose lengths differ

-- 'Next record asks for one record, Fill columns for as many as its columns are long, for none if their lengths differ'
abbrev pub asks : Call → ℕ
asks next = 1
asks (fill n) = n
asks fill_unequal = 0

-- 'N is the sum'
unfoldable pub asked : List Call → ℕ
asked [] = 0
asked (c ∷ cs) = asks c + asked cs

-- 'R has each record, or filled row, in the order given'; Z
pub record Result (R : Type 0) : Type 0 where
  pub records : List R
  pub closing : Answer

abbrev pub result_of : {S R : Type 0} → Reading S R → Result R
result_of s = record { records = s.records; closing = s.closing }

-- 'If Open returns no state, the others are not made, R is empty and Z is Open's answer'
abbrev pub opening : {S R : Type 0} → List ℕ → (S → List ℕ → Result R) → Read S → Result R
opening F onward (got st n) = onward st (drop n F)
opening F onward (stops z) = record { records = []; closing = stopped z }

module _ {S R : Type 0} (rule : S → Rule (Item S R)) where
  -- the straight reading of at most n records, which is what Fill columns of length n reads: the count is tested before each read
  unfoldable pub read_up_to : Bool → ℕ → S → List ℕ → Reading S R
  read_up_to last zero st bs = nothing st full
  read_up_to last (suc n) st bs = go_on st bs (read_up_to last n) (read last (rule st) bs)

  -- a call that is told that its bytes are not the last
  abbrev pub call : Call → S → List ℕ → Reading S R
  call next st bs = one_record st (read false (rule st) bs)
  call (fill n) st bs = read_up_to false n st bs
  call fill_unequal st bs = nothing st (stopped (refused 15))

  -- R: each call has the state that the last returned and the bytes that it left
  unfoldable pub all_records : List Call → S → List ℕ → List R
  all_records [] st bs = []
  all_records (c ∷ cs) st bs = let a = call c st bs in a.records ++ all_records cs a.state (drop a.consumed bs)

  -- 'the answer of the first call that gave fewer than it asked for'
  unfoldable pub first_fewer : List Call → S → List ℕ → Answer
  first_fewer [] st bs = full
  first_fewer (c ∷ cs) st bs =
      let a = call c st bs in
      let later = first_fewer cs a.state (drop a.consumed bs) in
      cond (ltb (length a.records) (asks c)) a.closing later

  -- 'Z is full if R has N records, else ..'
  unfoldable pub called : List Call → S → List ℕ → Result R
  called cs st bs =
      let all = all_records cs st bs in
      record { records = all; closing = cond (eqb (length all) (asked cs)) full (first_fewer cs st bs) }

  -- the fields of n records, one behind the other
  unfoldable pub after_records : ℕ → S → Rule S
  after_records zero st = gives st
  after_records (suc n) st = rule st >>= λ x. after_records n x.after

  module _ (start : Rule S) where
    -- R and Z, by the calls
    abbrev pub by_calls : List Call → List ℕ → Result R
    by_calls cs F = opening F (called cs) (read false start F)

    -- R and Z, by the rules
    abbrev pub by_rules : ℕ → List ℕ → Result R
    by_rules n F = opening F (λ st bs. result_of (read_up_to false n st bs)) (read false start F)

    -- 'A field due next ends past F', after the first n records: the fields of the opening, of n records and of the next, from byte 0
    unfoldable pub DueEndsPast : ℕ → List ℕ → Type 0
    DueEndsPast n F = EndsPast (start >>= λ st. after_records n st >>= rule) F

    -- demand 3 for any rules: R and Z are what the calls give on F, and S and Y what they give on F with G behind it
    pub record Demand (cs : List Call) (F G : List ℕ) : Type 0 where
      pub by_rules_lem : by_calls cs F ≡ by_rules (asked cs) F
      pub begins : (more : List R) × ((by_calls cs (F ++ G)).records ≡ (by_calls cs F).records ++ more)
      pub settled : ¬ ((by_calls cs F).closing ≡ stopped more_bytes) → by_calls cs (F ++ G) ≡ by_calls cs F
      pub waits : ((by_calls cs F).closing ≡ stopped more_bytes) ↔ ((length (by_calls cs F).records < asked cs) × DueEndsPast (length (by_calls cs F).records) F)
