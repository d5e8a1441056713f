-- The description and the state of a header that was opened, or nothing.
use mathlib.Core.Path.{ap, ◌∙◌}
use Rattle.chemread.specs.Lent.{with_state}
use Rattle.chemread.proofs.Calls.{opens_into, opens_held}
use Rattle.chemread.proofs.LentRun.open.Goals as goal

pub returns-in-Err-clause-opens : goal.returns-in-Err-clause-opens
returns-in-Err-clause-opens c = rw c.into.ensures (opens_into _ _ c.open_by.ensures c.in-Err.is)

pub returns-in-Ok-clause-opens : goal.returns-in-Ok-clause-opens
returns-in-Ok-clause-opens c =
    rw c.into-in-Ok.ensures
    (opens_held (c.put_state.ensures.held ∙ ap (with_state c.in-Ok.run'.state) c.put_header.ensures.held) (opens_into _ _ c.open_by.ensures c.in-Ok.is))
