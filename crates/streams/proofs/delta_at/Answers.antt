-- Each answer is what the rule of a delta reads of the bytes that are there, in the order that is passed along.
use mathlib.Core.Path.{◌≡◌, refl, sym, ap, ◌∙◌}
use mir.Syntax.{w16, w32}
use mir.Val.{to_z, of_z}
use native.Mathlib.Omega.{arith}
use borrow.Author.Rules.{rules}
use Prim.Native.Nat.{◌+◌}
use Rattle.rules.specs.Rule.{got, stops}
use Rattle.common.specs.Bytes.{order_of}
use Rattle.streams.specs.declared.Delta.TheVariants.{By, Absolute}
use Rattle.streams.proofs.Ints.{is_int_lem, is_no_int}
use Rattle.streams.proofs.DeltaLaws.{delta_by, delta_absolute, delta_cut, delta_absolute_cut}
use Rattle.streams.proofs.delta_at.Goals as goal

pub returns-then-input-lt2 : goal.returns-then-input-lt2
returns-then-input-lt2 c =
    ap stops c.lacking.ensures ∙ sym (delta_cut (order_of c.args.order) c.args.input.last c.args.input.at c.args.input.bytes.now (omega arith) (omega arith))

pub returns-then-v : goal.returns-then-v
returns-then-v c =
    let v = is_no_int w16 32768 c.in_order-v.ensures refl c.if-v.true in
    let back : to_z w16 (of_z w16 c.in_order-v.result) ≡ c.in_order-v.result = search rules in
    ap (λ z. got (By z) (c.args.input.at + 2)) (back ∙ c.in_order-v.ensures) ∙ sym (delta_by (order_of c.args.order) c.args.input.last c.args.input.at c.args.input.bytes.now (omega arith) v)

pub returns-then-input-lt6 : goal.returns-then-input-lt6
returns-then-input-lt6 c =
    let v = is_int_lem w16 32768 c.in_order-v.ensures (search rules) c.if-v.false in
    ap stops c.lacking-then-input-lt6.ensures ∙ sym (delta_absolute_cut (order_of c.args.order) c.args.input.last c.args.input.at c.args.input.bytes.now (omega arith) (omega arith) v)

pub returns : goal.returns
returns c =
    let v = is_int_lem w16 32768 c.in_order-v.ensures (search rules) c.if-v.false in
    let back : to_z w32 (of_z w32 c.in_order.result) ≡ c.in_order.result = search rules in
    ap (λ z. got (Absolute z) (c.args.input.at + 6)) (back ∙ c.in_order.ensures) ∙ sym (delta_absolute (order_of c.args.order) c.args.input.last c.args.input.at c.args.input.bytes.now (omega arith) v)
