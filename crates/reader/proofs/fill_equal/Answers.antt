-- The loop keeps that so many records are read and stand in the columns; it ends where the columns are full or the rule stops.
use mathlib.Core.Path.{refl}
use native.Mathlib.Omega.{arith}
use Rattle.chemstation.proofs.Answers.{answered}
use Rattle.reader.proofs.ColumnLaws.{same_still, going_more, going_stops, going_full}
use Rattle.reader.proofs.fill_equal.Goals as goal

pub returns-in-Err-clause-filled : goal.returns-in-Err-clause-filled
returns-in-Err-clause-filled c =
    let q = answered c.loop-i.cur c.args.last c.args.s.now c.loop-i.at _ _ c.next_record.ensures c.in-Err.is in
    rw c.requires (going_stops _ _ _ _ _ _ _ _ _ c.loop-i.invariant.going (omega arith) _ _ refl q)

pub loop-i-preserved : goal.loop-i-preserved
loop-i-preserved c =
    let q = answered c.loop-i.cur c.args.last c.args.s.now c.loop-i.at _ _ c.next_record.ensures c.in-Ok.is in
    record {
      same = same_still c.loop-i.invariant.same c.put.ensures.same;
      even = c.loop-i.invariant.even;
      going = rw (c.put.ensures.held, c.into.ensures) (going_more _ _ _ _ _ _ _ _ _ c.loop-i.invariant.going (omega arith) c.loop-i.invariant.even _ _ _ q);
    }

pub returns-clause-filled : goal.returns-clause-filled
returns-clause-filled c =
    rw c.requires (going_full _ _ _ _ _ _ _ _ _ c.loop-i.invariant.going (omega arith) _ refl)
