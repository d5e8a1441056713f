-- A rule of reading, as document 01 gives one for each kind: a field is due, and by its bytes another, or an outcome.
use Rattle.std.specs.Prelude.{◌≡◌, Bool, true, false, List, [], ◌∷◌, ◌⊎◌, ℕ, ◌+◌, ◌≤◌, ◌<◌, length, take, drop, leb}

-- FORMAT 2.1. A field is a number, or bytes taken or passed over together: so many bytes are due, and the rule goes on by them
pub data Rule (A : Type 0) : Type 0 where
  gives : A → Rule A  -- an outcome
  field : Bool → ℕ → (List ℕ → Rule A) → Rule A  -- due; true where the file may end before it
  refuses : ℕ → Rule A  -- by document 01's number
  ends : Rule A  -- 'finished'

-- the answers without an outcome
pub data Stop : Type 0 where
  refused : ℕ → Stop
  finished : Stop
  more_bytes : Stop

-- an outcome and the count of bytes that it took, or why there is none
pub data Read (A : Type 0) : Type 0 where
  got : A → ℕ → Read A
  stops : Stop → Read A

abbrev pub taking : {A : Type 0} → ℕ → Read A → Read A
taking w (got a n) = got a (w + n)
taking w (stops z) = stops z

-- FORMAT 2.2. What a due field that ends past the bytes is answered, told whether they are the last, by whether the file may end before it
abbrev pub lacks : Bool → Bool → List ℕ → Stop
lacks false may bs = more_bytes
lacks true true [] = finished
lacks true true (b ∷ bs) = refused 14
lacks true false bs = refused 14

-- FORMAT 2.1. What a rule reads from the bytes at hand
unfoldable pub read : {A : Type 0} → Bool → Rule A → List ℕ → Read A
read last (gives a) bs = got a 0
read last (field may w k) bs = elim (leb w (length bs)) [ true ↦ taking w (read last (k (take w bs)) (drop w bs)) | false ↦ stops (lacks last may bs) ]
read last (refuses c) bs = stops (refused c)
read last ends bs = stops finished

-- the same from a position on, with the bytes before it taken too
abbrev pub read_at : {A : Type 0} → Bool → Rule A → ℕ → List ℕ → Read A
read_at last r at s = taking at (read last r (drop at s))

-- 'A field due next ends past F': the rule reaches a field that is longer than what is left before it reaches an outcome, a refusal or the end
unfoldable pub EndsPast : {A : Type 0} → Rule A → List ℕ → Type 0
EndsPast (gives a) bs = ⊥
EndsPast (field may w k) bs = (length bs < w) ⊎ ((w ≤ length bs) × EndsPast (k (take w bs)) (drop w bs))
EndsPast (refuses c) bs = ⊥
EndsPast ends bs = ⊥

-- the file ends just before a field before which it may end
unfoldable pub EndsBefore : {A : Type 0} → Rule A → List ℕ → Type 0
EndsBefore (gives a) bs = ⊥
EndsBefore (field may w k) bs = ((may ≡ true) × (bs ≡ []) × (0 < w)) ⊎ ((w ≤ length bs) × EndsBefore (k (take w bs)) (drop w bs))
EndsBefore (refuses c) bs = ⊥
EndsBefore ends bs = ⊥

-- what is answered, told last, at a due field that ends past the bytes: 'finished' where the file may end there, else 14
abbrev pub AtEnd : {A : Type 0} → Rule A → List ℕ → Read A → Type 0
AtEnd r bs y = (EndsBefore r bs × (y ≡ stops finished)) ⊎ ((¬ EndsBefore r bs) × (y ≡ stops (refused 14)))

-- told that the bytes are the last, a reading differs only at a due field that ends past them
pub record ToldLast {A : Type 0} (r : Rule A) (bs : List ℕ) : Type 0 where
  pub agrees : ¬ EndsPast r bs → read true r bs ≡ read false r bs
  pub differs : EndsPast r bs → AtEnd r bs (read true r bs)

-- ---- rules made of rules

-- the fields of one rule, and by its outcome those of another
infixl 1 ◌>>=◌
unfoldable pub ◌>>=◌ : {A B : Type 0} → Rule A → (A → Rule B) → Rule B
gives a >>= f = f a
field may w k >>= f = field may w λ bs. k bs >>= f
refuses c >>= f = refuses c
ends >>= f = ends

infixl 1 ◌>>◌
abbrev pub ◌>>◌ : {A B : Type 0} → Rule A → Rule B → Rule B
r >> s = r >>= λ _. s

-- one field of w bytes, and what they mean
abbrev pub bytes_as : {A : Type 0} → ℕ → (List ℕ → A) → Rule A
bytes_as w meaning = field false w λ bs. gives (meaning bs)

-- w bytes passed over together
abbrev pub skip : ℕ → Rule (Unit {0})
skip w = bytes_as w λ _. tt

-- FORMAT 2.2. FID and MWD: the file may end before the first field
abbrev pub may_end : {A : Type 0} → Rule A → Rule A
may_end (gives a) = gives a
may_end (field may w k) = field true w k
may_end (refuses c) = refuses c
may_end ends = ends

-- the same fields, and another outcome made of each
abbrev pub map_rule : {A B : Type 0} → (A → B) → Rule A → Rule B
map_rule f r = r >>= λ a. gives (f a)

abbrev pub map_read : {A B : Type 0} → (A → B) → Read A → Read B
map_read f (got a n) = got (f a) n
map_read f (stops z) = stops z
