-- What the steps of Open promise of a whole header.
use Rattle.std.specs.Prelude.{List, ℕ}
use Rattle.metadata.specs.Metadata.{Header}
use Rattle.metadata.specs.declared.OpenedHeader.{OpenedHeader}

-- the header of bytes h that was opened as o
abbrev pub header_of : List ℕ → OpenedHeader → Header
header_of h o = record { bytes = h; says = o.metadata; scans = o.scans; step = o.time_step }
