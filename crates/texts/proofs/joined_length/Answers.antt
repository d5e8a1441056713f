-- Each turn counts one text more.
use Rattle.std.proofs.Common.{◌-◌, ◌∙◌, length, sym, ap, arith}
use Rattle.written.proofs.Puts.{fills, overflows, room_for, length_for, no_room}
use Rattle.fetch.specs.Headers.{utf8_in}
use Rattle.texts.specs.Eight.{texts_in}
use Rattle.texts.proofs.Joins.{none_before, eight_texts, text_is, counts, passes_by, all_before}
use Rattle.texts.proofs.joined_length.Goals as goal

pub loop-k-init : goal.loop-k-init
loop-k-init c = record { count = sym (ap length (none_before _)); room = omega arith }

pub loop-k-preserved : goal.loop-k-preserved
loop-k-preserved c =
    let d = c.args.d.now in
    let h = c.loop-k-test.true in
    let t = utf8_in c.text.result in
    let w = sym c.in_ok-n.was ∙ c.measured.ensures in
    let e = length_for (c.args.room - c.loop-k.n) t c.in_ok-n.field-0 w in
    record {
      count = counts (texts_in d) c.loop-k.n c.loop-k.k _ c.loop-k.invariant.count (omega (arith, eight_texts d, h)) (text_is d c.loop-k.k c.text.result h c.text.ensures.text) _ e;
      room = omega (arith, room_for (c.args.room - c.loop-k.n) t c.in_ok-n.field-0 w, e, c.loop-k.invariant.room);
    }

pub returns-in_err-n : goal.returns-in_err-n
returns-in_err-n c =
    let d = c.args.d.now in
    let h = c.loop-k-test.true in
    let w = no_room (c.args.room - c.loop-k.n) (utf8_in c.text.result) (sym c.in_err-n.was ∙ c.measured.ensures) in
    c.from_residual.ensures
    ∙ overflows _ _ (passes_by (texts_in d) c.loop-k.n c.loop-k.k _ c.loop-k.invariant.count (omega (arith, eight_texts d, h)) (text_is d c.loop-k.k c.text.result h c.text.ensures.text) c.args.room c.loop-k.invariant.room w)

pub returns : goal.returns
returns c =
    let d = c.args.d.now in
    let all = all_before (texts_in d) c.loop-k.k (omega (arith, eight_texts d, c.loop-k-test.false)) in
    fills _ _ _ (c.loop-k.invariant.count ∙ ap length all) c.loop-k.invariant.room
