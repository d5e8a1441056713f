-- The columns filled from the state, and the state after the last record stored back.
use mathlib.Core.Path.{sym, ◌∙◌}
use Rattle.chemread.proofs.Calls.{fills_into}
use Rattle.chemread.proofs.chemstation_fill.Goals as goal

pub returns : goal.returns
returns c =
    rw (c.into-2.ensures ∙ c.from.ensures, c.from-after.ensures)
    (fills_into _ _ _ _ _ _ _ (sym c.state.ensures ∙ c.in-Some.is) c.fill_slices-f.ensures)
