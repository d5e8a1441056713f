-- Each turn takes the copy of i bytes to the copy of i + 1.
use mathlib.Core.Path.{◌≡◌, ap, ◌∙◌}
use Prim.Native.Nat.{ℕ}
use native.Mathlib.Omega.{arith}
use lib.ListN.{length}
use lib.Seq.{paste, paste-zero, length-paste}
use Rattle.written.proofs.Puts.{paste_more, paste_start}
use Rattle.written.proofs.put.Goals as goal

pub loop-i-init : goal.loop-i-init
loop-i-init c = paste-zero c.args.out.now 0 c.args.src.now

pub bounds-out-i : goal.bounds-out-i
bounds-out-i c =
    omega (arith, ap length c.loop-i.invariant ∙ length-paste c.args.out.now 0 c.args.src.now c.loop-i.i (omega arith) (omega arith))

pub loop-i-preserved : goal.loop-i-preserved
loop-i-preserved c = paste_more c.args.out.now c.args.src.now c.loop-i.out c.loop-i.i c.loop-i.invariant (omega arith) (omega arith)

pub returns : goal.returns
returns c =
    let e : c.loop-i.i ≡ length c.args.src.now = omega arith in
    c.loop-i.invariant ∙ ap (λ (k : ℕ). paste c.args.out.now 0 c.args.src.now k) e ∙ paste_start c.args.out.now c.args.src.now
