-- Inside, the cast loses nothing, and where the total has room, the sum fits.
use Rattle.std.proofs.Common.{rules, arith, T, ◌≡◌, ◌∙◌, sym, subst, true, Some, Ok, w64, to_z, of_z}
use Rattle.std.proofs.lemmas.Int.{to_z-of_z}
use Rattle.std.proofs.lemmas.Grind.{common_steps}
use mir.Val.{SFits}
use lib.Ieee.{of_bits, of_int, fits, binary64}
use Rattle.tally.specs.Tally.{inside, roomy}
use Rattle.tally.proofs.Laws.{inside_casts, inside_fits, joined_amount}
use Rattle.tally.proofs.Tally.total.Goals as goal

pub float_to_int-result : goal.float_to_int-result
unfolding of_bits of_int
float_to_int-result c =
    let fit : T (fits binary64 c.args.self.near) = search rules in
    inside_casts c.args.self.near fit (sym c.is_inside.ensures ∙ c.if-is_inside.true)

pub overflow_add-result : goal.overflow_add-result
unfolding of_bits of_int
overflow_add-result c =
    let s : SFits w64 c.in-Some-Ok.a = search rules in
    let e : to_z w64 (of_z w64 c.in-Some-Ok.a) ≡ c.in-Some-Ok.a = to_z-of_z w64 _ s in
    let r : roomy c.in-Some-Ok.a ≡ true = rw e at (sym c.is_roomy.ensures ∙ c.if-is_roomy.true) in
    let fit : T (fits binary64 c.args.self.near) = search rules in
    let f = inside_fits c.args.self.near c.in-Some-Ok.a fit (sym c.is_inside.ensures ∙ c.if-is_inside.true) (subst T (sym r) tt) in
    rw (e, to_z-of_z w64 _ f.0) f.1

pub returns-in-Some-Ok : goal.returns-in-Some-Ok
unfolding of_bits of_int
returns-in-Some-Ok c =
    let s : SFits w64 c.in-Some-Ok.a = search rules in
    let e : to_z w64 (of_z w64 c.in-Some-Ok.a) ≡ c.in-Some-Ok.a = to_z-of_z w64 _ s in
    let i : inside c.args.self.near ≡ true = sym c.is_inside.ensures ∙ c.if-is_inside.true in
    let r : roomy c.in-Some-Ok.a ≡ true = rw e at (sym c.is_roomy.ensures ∙ c.if-is_roomy.true) in
    let fit : T (fits binary64 c.args.self.near) = search rules in
    let f = inside_fits c.args.self.near c.in-Some-Ok.a fit i (subst T (sym r) tt) in
    let far : c.args.self.far ≡ Some (Ok c.in-Some-Ok.a) = grind (arith, common_steps) in
    rw (e, to_z-of_z w64 _ f.0, to_z-of_z w64 _ f.1) (joined_amount c.args.self.near c.args.self.far c.in-Some-Ok.a far i r)
