-- Open by a reading (request 5): 'A separate opening starts an atlas reading under that rule, for DAD and UV only.'
use Rattle.std.specs.Prelude.{◌≡◌, Bool, ◌||◌, List, ℕ, eqb, Result}
use Rattle.rules.specs.Rule.{Rule, read, map_rule, ◌>>◌}
use Rattle.agilent.specs.Header.{check, known}
use Rattle.metadata.specs.Metadata.{Header, open_rule}
use Rattle.metadata.specs.declared.ChemstationMetadata.{ChemstationMetadata}
use Rattle.streams.specs.Next.{atlas_of}
use Rattle.streams.specs.declared.State.{State}
use Rattle.streams.specs.declared.Mode.{Mode}
use Rattle.streams.specs.declared.Mode.TheVariants.{Plain, Atlas}
use Rattle.opening.specs.Opening.{begins, start_read, says_read}
use Rattle.opening.specs.declared.OpenedRun.{OpenedRun}
use Rattle.error.specs.declared.Stopped.{Stopped}

-- 'for DAD and UV only'
abbrev pub has_atlas : ℕ → Bool
has_atlas kind = eqb kind 4 || eqb kind 5

-- the header; '18, after refusal 1, where an atlas reading is opened for another kind': both before any byte is due
abbrev pub open_by : Mode → ℕ → Rule Header
open_by Plain kind = open_rule kind
open_by Atlas kind = check (known kind) 1 >> (check (has_atlas kind) 18 >> open_rule kind)

-- the state before the first record: of the atlas reading it is the plain one, under that reading
abbrev pub begins_by : Mode → ℕ → Header → State
begins_by Plain kind x = begins kind x
begins_by Atlas kind x = atlas_of (begins kind x)

-- the rule of opening: that state
abbrev pub start_by : Mode → ℕ → Rule State
start_by mode kind = map_rule (begins_by mode kind) (open_by mode kind)

-- the same fields, for what the header says
abbrev pub says_by : Mode → ℕ → Rule ChemstationMetadata
says_by mode kind = map_rule (λ h. h.says) (open_by mode kind)

-- an answer r to the bytes s, told whether they are the last; under the plain reading it is Open's own contract
pub record OpensBy (mode : Mode) (kind : ℕ) (last : Bool) (s : List ℕ) (r : Result OpenedRun Stopped) : Type 0 where
  pub state : start_read r ≡ read last (start_by mode kind) s
  pub says : says_read r ≡ read last (says_by mode kind) s
