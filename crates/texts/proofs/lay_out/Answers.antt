-- Each turn puts one text more.
use Rattle.std.proofs.Common.{sym, ◌∙◌, ◌-◌, ◌<◌, arith, length, drop, length-take, length-drop}
use Rattle.fetch.specs.Headers.{utf8_in}
use Rattle.texts.specs.Eight.{texts_in}
use Rattle.texts.proofs.Joins.{lay_starts, eight_texts, text_is, eight_counts, count_of, lay_fits, lays_on, laid, put_behind}
use Rattle.texts.proofs.lay_out.Goals as goal

pub loop-k-init : goal.loop-k-init
loop-k-init c = lay_starts _ _ _ _ _ (eight_texts c.args.d.now) (eight_counts c.args.d.now) c.told-starts c.told-lengths

pub put-t-requires : goal.put-t-requires
put-t-requires c =
    let d = c.args.d.now in
    let h = c.loop-k-test.true in
    let f = lay_fits _ _ _ _ _ _ _ _ _ c.loop-k.invariant (omega (arith, eight_texts d, h)) _ (text_is d c.loop-k.k c.text.result h c.text.ensures.text) c.requires in
    omega (arith, f, length-take (length c.loop-k.out - c.loop-k.n) (drop c.loop-k.n c.loop-k.out), length-drop c.loop-k.n c.loop-k.out)

pub loop-k-preserved : goal.loop-k-preserved
loop-k-preserved c =
    let d = c.args.d.now in
    let h = c.loop-k-test.true in
    let t = c.put-t in
    let is = text_is d c.loop-k.k c.text.result h c.text.ensures.text in
    let l : c.loop-k.k < length (texts_in d) = omega (arith, eight_texts d, h) in
    let f = lay_fits _ _ _ _ _ _ _ _ _ c.loop-k.invariant l _ is c.requires in
    let p = put_behind c.loop-k.out t.new.out (utf8_in c.text.result) c.loop-k.n t.result.bytes (omega (arith, f)) t.ensures.count t.ensures.bytes in
    lays_on _ _ _ _ _ _ _ _ _ c.loop-k.invariant l _ is t.result.bytes t.result.replaced _ t.ensures.count p
    (omega (arith, eight_counts d, h)) (t.ensures.replaced ∙ c.text.ensures.replaced ∙ sym (count_of d c.loop-k.k h))

pub returns : goal.returns
returns c =
    let d = c.args.d.now in
    laid _ _ (record { bytes = c.args.out.now; starts = c.args.starts.now; lengths = c.args.lengths.now }) _ _ _ _ _ _ c.loop-k.invariant
    (omega (arith, eight_texts d, c.loop-k-test.false)) (omega (arith, eight_counts d, c.loop-k-test.false))
