-- By the plain state at the state's place.
use mathlib.Core.Path.{sym, ◌∙◌}
use Rattle.chemstation.proofs.Spectrum.{plain_answers}
use Rattle.chemstation.proofs.spectrum_next.Goals as goal

pub returns-in-Dad : goal.returns-in-Dad
returns-in-Dad c =
    rw (c.atlas_by.ensures, c.dad_next.ensures, c.debit_of-debit.ensures)
    (plain_answers c.args.last c.args.s.now c.args.st _ (sym c.plain_of.ensures ∙ c.in-Dad.is))

pub returns-in-Uv : goal.returns-in-Uv
returns-in-Uv c =
    rw (c.atlas_by-in-Uv.ensures, c.uv_next.ensures, c.debit_of-debit.ensures)
    (plain_answers c.args.last c.args.s.now c.args.st _ (sym c.plain_of.ensures ∙ c.in-Uv.is))
