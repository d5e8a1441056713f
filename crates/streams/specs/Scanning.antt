-- MS, DAD and UV: records that come in scans.
use Rattle.std.specs.Prelude.{Bool, cond, ℕ, eqb}
use Rattle.rules.specs.Rule.{Rule, ends}
use Rattle.streams.specs.Told.{Told}

pub record Scanning : Type 0 where
  pub done : Bool  -- the test for the end
  pub due : ℕ  -- points or bytes due of a scan
  pub scan : Rule Told  -- a new scan
  pub point : Rule Told  -- a later point of a scan

-- 'No scans due: finished. With no points due: ..'
unfoldable pub scanning : Scanning → Rule Told
scanning f = cond f.done ends (cond (eqb f.due 0) f.scan f.point)
