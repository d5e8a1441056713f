-- The rule of the next record, by the kind of the state and its reading.
use Rattle.rules.specs.Rule.{Rule, ends}
use Rattle.rules.specs.Calls.{Item}
use Rattle.streams.specs.Told.{Told}
use Rattle.streams.specs.Next.{rule_by}
use Rattle.streams.specs.declared.State.{State}
use Rattle.streams.specs.declared.State.TheVariants.{Fid, Ms, Mwd, Dad, Uv, Array, AtlasDad, AtlasUv}
use Rattle.streams.specs.declared.Record.{Record}
use Rattle.fid.specs.Fid.{fid_rule}
use Rattle.ms.specs.Ms.{ms_rule}
use Rattle.mwd.specs.Mwd.{mwd_rule}
use Rattle.dad.specs.Dad.{dad_rule}
use Rattle.uv.specs.Uv.{uv_rule}
use Rattle.array.specs.Array.{array_rule}
use Rattle.atlas.specs.Atlas.{atlas_dad_rule, atlas_uv_rule}

abbrev pub fields : State → Rule Told
fields (Fid st) = fid_rule st
fields (Ms st) = ms_rule st
fields (Mwd st) = mwd_rule st
fields (Dad st) = dad_rule st
fields (Uv st) = uv_rule st
fields (Array st) = array_rule st
fields (AtlasDad st) = atlas_dad_rule st
fields (AtlasUv st) = atlas_uv_rule st

abbrev pub rule : State → Rule (Item State Record)
rule st = rule_by st (fields st)

-- those of DAD and UV alone, by the reading; no other kind has fields here
abbrev pub spectrum_fields : State → Rule Told
spectrum_fields (Dad st) = dad_rule st
spectrum_fields (Uv st) = uv_rule st
spectrum_fields (AtlasDad st) = atlas_dad_rule st
spectrum_fields (AtlasUv st) = atlas_uv_rule st
spectrum_fields (Fid st) = ends
spectrum_fields (Ms st) = ends
spectrum_fields (Mwd st) = ends
spectrum_fields (Array st) = ends
