-- A kind that is refused, or what Open answers with its state under the atlas reading.
use mathlib.Core.Path.{sym, ap, ◌∙◌}
use Rattle.std.specs.Prelude.{Ok, Err}
use Rattle.std.proofs.lemmas.Result.{err_from_is_err_and}
use Rattle.error.specs.declared.Refusal.TheVariants.{UnknownKind, KindWithoutAtlas}
use Rattle.agilent.proofs.HeaderLaws.{is_known}
use Rattle.modes.specs.Modes.{has_atlas}
use Rattle.modes.proofs.ModeLaws.{no_kind, no_atlas, refused_by, opened_by_lem}
use Rattle.modes.proofs.open_atlas.Goals as goal

pub returns-in_default : goal.returns-in_default
returns-in_default c =
    rw c.into.ensures (refused_by c.args.kind c.args.last c.args.s.now UnknownKind (no_kind c.args.kind c.in_default.ensures.1))

pub returns-then-not-has_atlas : goal.returns-then-not-has_atlas
returns-then-not-has_atlas c =
    let none = ap has_atlas (sym c.in-Ok.ensures) ∙ sym c.has_atlas.ensures ∙ c.if-not-has_atlas.true in
    rw c.into-then-not-has_atlas.ensures (refused_by c.args.kind c.args.last c.args.s.now KindWithoutAtlas (no_atlas c.args.kind (is_known _ c.in-Ok.ensures) none))

pub returns-in_err-run : goal.returns-in_err-run
returns-in_err-run c =
    let p = err_from_is_err_and c.from_residual.result c.from_residual.ensures.1 in
    let some = ap has_atlas (sym c.in-Ok.ensures) ∙ sym c.has_atlas.ensures ∙ c.if-not-has_atlas.false in
    rw (p.1, p.2) (opened_by_lem c.args.kind c.args.last c.args.s.now (Err c.in_err-run.field-0.0) (is_known _ c.in-Ok.ensures) some (rw c.in-Ok.ensures at c.in_err-run.ensures))

pub returns : goal.returns
returns c =
    let some = ap has_atlas (sym c.in-Ok.ensures) ∙ sym c.has_atlas.ensures ∙ c.if-not-has_atlas.false in
    rw c.in_atlas-state.ensures (opened_by_lem c.args.kind c.args.last c.args.s.now (Ok c.in_ok-run.run') (is_known _ c.in-Ok.ensures) some (rw c.in-Ok.ensures at c.in_ok-run.ensures))
