-- The loop keeps what is gathered so far, and what the calls that are left give behind it.
use mathlib.Core.Path.{refl}
use native.Mathlib.Omega.{arith}
use Rattle.calls.proofs.CallLoop.{going_ends, going_room, going_inside, going_rows}
use Rattle.calls.proofs.calls_from.Goals as goal

pub one_call-f-requires : goal.one_call-f-requires
one_call-f-requires c = going_room _ _ _ _ _ _ _ _ _ _ c.loop-call.invariant.going (omega arith)

pub overflow_add-at : goal.overflow_add-at
overflow_add-at c =
    let h = going_inside _ _ _ _ _ _ _ _ _ _ c.loop-call.invariant.going (omega arith) _ _ c.one_call-f.ensures.gives in
    omega (arith, h)

pub overflow_add-rows : goal.overflow_add-rows
overflow_add-rows c =
    let h = going_rows _ _ _ _ _ _ _ _ _ _ c.loop-call.invariant.going (omega arith) _ _ c.one_call-f.ensures.gives in
    omega (arith, h)

pub returns-clause-comes_to : goal.returns-clause-comes_to
returns-clause-comes_to c = going_ends _ _ _ _ _ _ _ _ _ _ c.loop-call.invariant.going (omega arith) _ _ refl
