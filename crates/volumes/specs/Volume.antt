-- The run date of a file, and whether it lies in a window of time (request 6).
use Rattle.std.specs.Prelude.{◌≡◌, true, cond, ◌&&◌, List, Option, None, Some, Result, Ok, Err, ◌⊎◌, ℕ, ◌≤◌, ◌<◌, leb, ltb}
use Rattle.rules.specs.Rule.{Read, got, stops, read}
use Rattle.error.specs.Number.{number_of}
use Rattle.fetch.specs.Fetch.{fetch_rule, number_of_stop}
use Rattle.dates.specs.Dates.{date_of}
use Rattle.error.specs.declared.Refusal.{Refusal}
use Rattle.volumes.specs.declared.Placed.{Placed}
use Rattle.volumes.specs.declared.Placed.TheVariants as place

-- ---- The run date.

-- an instant, 'no date', or a refusal by its number
pub data Told : Type 0 where
  instant : ℕ → Told
  no_date : Told
  refuse : ℕ → Told

abbrev pub told : Option ℕ → Told
told (Some i) = instant i
told None = no_date

-- by what Fetch's rule reads
abbrev pub told_by : Read (List ℕ) → Told
told_by (got t n) = told (date_of t)
told_by (stops z) = refuse (number_of_stop z)

-- text 8 is the run date; 'Open's, its bytes taken as the last'
unfoldable pub run_date : ℕ → List ℕ → Told
run_date kind s = told_by (read true (fetch_rule kind 8) s)

abbrev pub date_told : Result (Option ℕ) Refusal → Told
date_told (Ok d) = told d
date_told (Err r) = refuse (number_of r)

-- ---- A window.

-- in or out of it, 'no date', 'which lies in no window', or a refusal by its number
pub data Place : Type 0 where
  inside : Place
  outside : Place
  undated : Place
  refused : ℕ → Place

-- 'from one instant up to, not including, another'
abbrev pub place_of : ℕ → ℕ → Told → Place
place_of start end (instant i) = cond (leb start i && ltb i end) inside outside
place_of start end no_date = undated
place_of start end (refuse c) = refused c

-- '19, before anything of the file is read, where a window's end comes before its start'
unfoldable pub placed : ℕ → ℕ → ℕ → List ℕ → Place
placed start end kind s = cond (ltb end start) (refused 19) (place_of start end (run_date kind s))

abbrev pub where_told : Placed → Place
where_told place.Inside = inside
where_told place.Outside = outside
where_told place.Undated = undated

abbrev pub place_told : Result Placed Refusal → Place
place_told (Ok p) = where_told p
place_told (Err r) = refused (number_of r)

-- ---- The laws.

-- a run lies in a window exactly when it has a date that is not before the start and before the end
pub record Lies (start end kind : ℕ) (s : List ℕ) : Type 0 where
  pub at : ℕ
  pub date : run_date kind s ≡ instant at
  pub from : start ≤ at
  pub before : at < end

pub record VolumeWindows : Type 0 where
  pub lies : (a b kind : ℕ) (s : List ℕ) → placed a b kind s ≡ inside → Lies a b kind s
  pub lying : (a b kind : ℕ) (s : List ℕ) → Lies a b kind s → placed a b kind s ≡ inside
  -- two windows, the second from the end of the first on, are one: each run is in one of them, never in both
  pub either : (a b c kind : ℕ) (s : List ℕ) → a ≤ b → b ≤ c → placed a c kind s ≡ inside → (placed a b kind s ≡ inside) ⊎ (placed b c kind s ≡ inside)
  pub first : (a b c kind : ℕ) (s : List ℕ) → a ≤ b → b ≤ c → placed a b kind s ≡ inside → placed a c kind s ≡ inside
  pub second : (a b c kind : ℕ) (s : List ℕ) → a ≤ b → b ≤ c → placed b c kind s ≡ inside → placed a c kind s ≡ inside
  pub apart : (a b c kind : ℕ) (s : List ℕ) → placed a b kind s ≡ inside → placed b c kind s ≡ inside → ⊥
  -- of any kind and any bytes, none at all too
  pub reversed : (a b kind : ℕ) (s : List ℕ) → b < a → placed a b kind s ≡ refused 19
  pub nothing : (a kind : ℕ) (s : List ℕ) → placed a a kind s ≡ inside → ⊥
