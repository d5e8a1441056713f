-- What has been passed has had room.
use mathlib.Core.Path.{◌≡◌, sym, ap, ◌∙◌, subst}
use Prim.Native.Nat.{◌+◌, ◌-◌}
use native.Mathlib.Omega.{arith}
use lib.ListN.{length, drop}
use Rattle.utf8.specs.Utf8.{encode}
use Rattle.utf8.proofs.Library.{same_encode}
use Rattle.utf16.specs.Utf16.{utf8_of}
use Rattle.written.proofs.Puts.{fills}
use Rattle.utf16.proofs.Units.{Passing, passes, all_counted}
use Rattle.utf16.proofs.measured.Goals as goal

pub loop-p-preserved : goal.loop-p-preserved
loop-p-preserved c =
    let s = c.args.s.now in
    let step = c.in-Some.ensures.steps in
    let w = c.len_utf8.ensures.len ∙ ap length (same_encode c.in-Some.p.scalar) in
    let k = c.in_ok-left.ensures in
    let n : c.args.room - c.loop-p.left + length (encode c.in-Some.p.scalar) ≡ c.args.room - c.in_ok-left.left = omega (arith, w, k.0, k.1, c.loop-p.invariant.1) in
    (subst (λ r. Passing s r (c.args.room - c.in_ok-left.left)) (sym step.1) (subst (Passing s (drop c.in-Some.p.width c.loop-p.p-iterator.0.now)) n (passes c.loop-p.invariant.0 step.0)), omega (arith, k.1, c.loop-p.invariant.1))

pub returns : goal.returns
returns c =
    fills _ (utf8_of c.args.s.now) _ (all_counted c.loop-p.invariant.0 c.in-None.ensures.steps) (omega arith)
