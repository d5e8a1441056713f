-- Size the header (FORMAT 4.1): the kind, then 268 bytes, the size word's checks, then the size itself.
use Rattle.std.specs.Prelude.{◌≡◌, Bool, false, cond, ◌&&◌, List, ◌++◌, ℕ, ◌-◌, ◌*◌, leb, ltb, eqb, length, Result, Ok, Err, MatchResult}
use Rattle.rules.specs.Rule.{Rule, gives, refuses, ◌>>=◌, ◌>>◌, bytes_as, map_rule, Read, got, stops}
use Rattle.error.specs.Number.{stop_of}
use Rattle.error.specs.declared.Refusal.{Refusal}
use Rattle.error.specs.declared.Refusal.TheVariants.{UnknownKind}
use Rattle.error.specs.declared.Stopped.{Stopped}
use Rattle.common.specs.Bytes.{be, part}
use Rattle.agilent.specs.declared.Kind.{Kind}
use Rattle.agilent.specs.declared.Kind.TheVariants.{Fid, Ms, Mwd, Dad, Uv, Array}

-- what must hold, or a refusal
abbrev pub check : Bool → ℕ → Rule (Unit {0})
check ok c = cond ok (gives tt) (refuses c)

-- '1 FID, 2 MS, 3 MWD, 4 DAD, 5 UV, 6 array'
abbrev pub known : ℕ → Bool
known kind = leb 1 kind && leb kind 6

abbrev pub kind_number : Kind → ℕ
kind_number Fid = 1
kind_number Ms = 2
kind_number Mwd = 3
kind_number Dad = 4
kind_number Uv = 5
kind_number Array = 6

-- the kind of a number, or the refusal of a number that no kind has
abbrev pub Decodes : ℕ → Result Kind Refusal → Type 0
Decodes number r = MatchResult r (λ kind. kind_number kind ≡ number) (λ e. (e ≡ UnknownKind) × (known number ≡ false))

-- 'Size is 2 × (word − 1), times 256 more unless MS'
abbrev pub size_of : ℕ → ℕ → ℕ
size_of kind word = cond (eqb kind 2) (2 * (word - 1)) (2 * (word - 1) * 256)

-- the header's bytes: '1: another kind. Then 268 bytes are due. 2: size word 0. 3: size below 512. 4: size above 20,000. Then the size itself is due'
unfoldable pub header_rule : ℕ → Rule (List ℕ)
header_rule kind = do
  check (known kind) 1
  begin ← bytes_as 268 λ b. b
  check (ltb 0 (be (part 264 4 begin))) 2
  check (leb 512 (size_of kind (be (part 264 4 begin)))) 3
  check (leb (size_of kind (be (part 264 4 begin))) 20000) 4
  rest ← bytes_as (size_of kind (be (part 264 4 begin)) - 268) λ b. b
  gives (begin ++ rest)

-- Size the header
abbrev pub size_rule : ℕ → Rule ℕ
size_rule kind = map_rule length (header_rule kind)

-- what an answer says: a size, all of whose bytes are there
abbrev pub size_read : Result ℕ Stopped → Read ℕ
size_read (Ok n) = got n n
size_read (Err z) = stops (stop_of z)
