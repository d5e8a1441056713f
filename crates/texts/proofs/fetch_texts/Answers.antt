-- The header first; then the texts of one that was opened.
use Rattle.std.proofs.Common.{sym, ◌∙◌}
use Rattle.std.proofs.lemmas.Bool.{leb-true, leb-false}
use Rattle.std.proofs.lemmas.Result.{err_from_is_err_and}
use Rattle.texts.specs.Eight.{Texts}
use Rattle.texts.proofs.Laws.{opening_refused, room_refused, texts_laid}
use Rattle.texts.proofs.fetch_texts.Goals as goal

pub returns-in_err-d : goal.returns-in_err-d
returns-in_err-d c =
    let old : Texts = record { bytes = c.args.out.now; starts = c.args.starts.now; lengths = c.args.lengths.now } in
    let p = err_from_is_err_and c.from_residual.result c.from_residual.ensures.1 in
    let t = opening_refused c.args.kind c.args.s.now old c.in_err-d.ensures.refused in
    rw (p.1, p.2) (record { texts = t.0; replaced = t.1 })

pub returns-then-not-fit : goal.returns-then-not-fit
returns-then-not-fit c =
    let old : Texts = record { bytes = c.args.out.now; starts = c.args.starts.now; lengths = c.args.lengths.now } in
    let t = room_refused c.args.kind c.args.s.now old c.in_ok-d.d c.in_ok-d.ensures.opened (leb-false _ _ (sym c.fit.ensures ∙ c.if-not-fit.true)) in
    record { texts = t.0; replaced = t.1 }

pub returns : goal.returns
returns c =
    let old : Texts = record { bytes = c.args.out.now; starts = c.args.starts.now; lengths = c.args.lengths.now } in
    let t = texts_laid c.args.kind c.args.s.now old c.in_ok-d.d c.in_ok-d.ensures.opened c.lay_out.result _ (leb-true _ _ (sym c.fit.ensures ∙ c.if-not-fit.false)) c.lay_out.ensures in
    record { texts = t.0; replaced = t.1 }
