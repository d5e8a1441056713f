-- Each turn finds one text more.
use mathlib.Core.Path.{sym, ap, ◌∙◌}
use native.Mathlib.Omega.{arith}
use Rattle.std.proofs.lemmas.Result.{err_from_is_err_and}
use lib.ListN.{get_or}
use Rattle.pascal.specs.declared.TextField.TheVariants.{Absent}
use Rattle.pascal.specs.Texts.{reach, text_rule}
use Rattle.layouts.specs.Editions.{edition_number}
use Rattle.layouts.proofs.Tables.{field_at, field_lies}
use Rattle.metadata.proofs.Gathers.{refused, found}
use Rattle.metadata.proofs.Opens.{texts_refuse}
use Rattle.metadata.proofs.WholeHeader.describe.Goals as goal

pub text_place-requires : goal.text_place-requires
text_place-requires c =
    let e = edition_number c.args.self.now.edition in
    let f = ap (λ l. reach (get_or l c.loop-k.k Absent)) c.fields-field-items.ensures ∙ ap reach (field_at c.loop-k.k e) in
    omega (arith, field_lies c.loop-k.k e)

pub returns-in_err-text : goal.returns-in_err-text
returns-in_err-text c =
    let e = edition_number c.args.self.now.edition in
    let h = c.args.self.now.bytes.now in
    let f = ap (λ l. text_rule (get_or l c.loop-k.k Absent) h) c.fields-field-items.ensures ∙ ap (λ f. text_rule f h) (field_at c.loop-k.k e) in
    let p = err_from_is_err_and c.from_residual.result c.from_residual.ensures.1 in
    rw (p.1, p.2) (sym (texts_refuse h e (refused e h c.loop-k.k (omega arith) _ _ c.loop-k.invariant _ (sym f ∙ sym c.in_err-text.ensures))))

pub loop-k-preserved : goal.loop-k-preserved
loop-k-preserved c =
    let e = edition_number c.args.self.now.edition in
    let h = c.args.self.now.bytes.now in
    let f = ap (λ l. text_rule (get_or l c.loop-k.k Absent) h) c.fields-field-items.ensures ∙ ap (λ f. text_rule f h) (field_at c.loop-k.k e) in
    found e h c.loop-k.k (omega arith) _ _ c.loop-k.invariant _ (sym f ∙ sym c.in_ok-text.ensures)
