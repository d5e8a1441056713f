-- From the last digit to the first.
use Rattle.std.proofs.Common.{◌+◌, ◌-◌, ◌/◌, sym, subst, set}
use Rattle.digits.specs.Put.{Put}
use Rattle.digits.specs.Numbers.{digits}
use Rattle.digits.proofs.Digits.{Digiting, digiting_turn, digiting_done}
use Rattle.digits.proofs.Pen.put_digits.Goals as goal

pub loop-i-preserved : goal.loop-i-preserved
loop-i-preserved c =
    let g = c.loop-i.invariant in
    let i = c.loop-i.i - 1 in
    let turn = digiting_turn _ c.loop-i-test.true c.requires.0 c.digit.ensures g.digits in
    record {
      digits = subst (λ a. Digiting c.args.base c.args.k c.args.n c.args.self.now.out.now c.args.self.now.at (set c.loop-i.self.out.now (a + i) c.digit.result) i (c.loop-i.rest / c.args.base)) (sym g.place) turn;
      place = g.place;
      same_reference = g.same_reference;
    }

pub returns : goal.returns
returns c =
    let g = c.loop-i.invariant in
    let p = digiting_done _ c.loop-i-test.false c.requires.0 g.digits in
    record {
      put = subst (λ a. Put (digits c.args.base c.args.k c.args.n) c.args.self.now.at c.args.self.now.out.now (a + c.args.k) c.loop-i.self.out.now) (sym g.place) p;
      same_reference = g.same_reference;
    }
