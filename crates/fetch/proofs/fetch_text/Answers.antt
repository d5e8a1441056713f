-- The kind, the number, then the header; and the text of a header that was opened.
use Rattle.std.proofs.Common.{◌≡◌, ◌&&◌, leb, true, false, refl, arith}
use Rattle.std.proofs.lemmas.Grind.{common_steps}
use Rattle.std.proofs.lemmas.Result.{err_from_is_err_and}
use Rattle.agilent.proofs.HeaderLaws.{is_known}
use Rattle.fetch.proofs.Fetches.{fetch_unknown, fetch_no_text, refused_with, opening_refused, text_written}
use Rattle.fetch.proofs.fetch_text.Goals as goal

pub returns-in_err-try_from : goal.returns-in_err-try_from
returns-in_err-try_from c =
    let p = err_from_is_err_and c.from_residual.result c.from_residual.ensures.1 in
    let e = c.in_err-try_from.ensures in
    let t = refused_with c.args.kind c.args.number c.args.s.now c.args.out.now (fetch_unknown c.args.kind c.args.number c.args.s.now e.1) refl in
    rw (p.1, p.2, e.0) (record { text = t.0; replaced = t.1 })

pub returns-then-not-contains : goal.returns-then-not-contains
returns-then-not-contains c =
    let k = is_known c.in_ok-try_from.field-0 c.in_ok-try_from.ensures in
    let i : (leb 1 c.args.number && leb c.args.number 8) ≡ false = grind (arith, common_steps) in
    let t = refused_with c.args.kind c.args.number c.args.s.now c.args.out.now (fetch_no_text c.args.kind c.args.number c.args.s.now k i) refl in
    record { text = t.0; replaced = t.1 }

pub returns-in_err-header : goal.returns-in_err-header
returns-in_err-header c =
    let k = is_known c.in_ok-try_from.field-0 c.in_ok-try_from.ensures in
    let i : (leb 1 c.args.number && leb c.args.number 8) ≡ true = grind (arith, common_steps) in
    let p = err_from_is_err_and c.from_residual-in_err-header.result c.from_residual-in_err-header.ensures.1 in
    let t = opening_refused c.args.kind c.args.number c.args.s.now c.args.out.now k i c.in_err-header.ensures.refused in
    rw (p.1, p.2) (record { text = t.0; replaced = t.1 })

pub returns : goal.returns
returns c =
    let k = is_known c.in_ok-try_from.field-0 c.in_ok-try_from.ensures in
    let i : (leb 1 c.args.number && leb c.args.number 8) ≡ true = grind (arith, common_steps) in
    let t = text_written c.args.kind c.args.number c.args.s.now c.args.out.now k i c.in_ok-header.header c.in_ok-header.ensures.opened (rw (c.text.ensures.text, c.from.ensures) at c.write.ensures.text) (rw (c.text.ensures.replaced, c.from.ensures) at c.write.ensures.replaced) in
    record { text = t.0; replaced = t.1 }
