-- The atlas reading's answers by those of the plain reading.
use mathlib.Core.Path.{◌≡◌, refl, sym, ap, ◌∙◌}
use mathlib.Core.Bool.{Bool}
use mathlib.Core.List.{List}
use Prim.Native.Nat.{ℕ}
use Rattle.rules.specs.Rule.{Rule, Read, got, stops, read, map_rule, map_read}
use Rattle.rules.proofs.Laws.{read_map}
use Rattle.streams.specs.Told.{Told}
use Rattle.streams.specs.Next.{sum_of, stepped, rule_by}
use Rattle.streams.specs.declared.State.{State}
use Rattle.atlas.specs.Atlas.{atlas_told, atlas_item}

-- a rule of fields under the atlas reading: the plain reading's records, with the states behind them changed
pub atlas_reads : (k : ℕ) (st plain : State) (fields : Rule Told) (last : Bool) (s : List ℕ) → sum_of plain ≡ sum_of st →
    map_read (atlas_item k) (read last (rule_by plain fields) s) ≡ read last (rule_by st (map_rule (atlas_told k) fields)) s
atlas_reads k st plain fields last s e =
    ap (map_read (atlas_item k)) (read_map last (stepped (sum_of plain)) fields s)
    ∙ rw e (go (read last fields s))
    ∙ sym (read_map last (stepped (sum_of st)) (map_rule (atlas_told k) fields) s ∙ ap (map_read (stepped (sum_of st))) (read_map last (atlas_told k) fields s))
  where
    go : (x : Read Told) → map_read (atlas_item k) (map_read (stepped (sum_of st)) x) ≡ map_read (stepped (sum_of st)) (map_read (atlas_told k) x)
    go (got t n) = refl
    go (stops z) = refl
