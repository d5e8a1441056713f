-- A record takes no more bytes than are left from the position on.
use mathlib.Core.Path.{sym, ap, ◌∙◌}
use native.Mathlib.Omega.{arith}
use lib.ListN.{drop, length-drop}
use Rattle.rules.proofs.Laws.{taken_within}
use Rattle.streams.specs.Next.{answer_of}
use Rattle.chemstation.specs.Next.{rule}
use Rattle.borrowed.proofs.next_at.Goals as goal

pub overflow_add-result : goal.overflow_add-result
overflow_add-result c =
    let q = sym c.given_at-next.ensures ∙ ap answer_of c.in-Ok.is in
    omega (arith, taken_within c.args.last (rule c.args.st) (drop c.args.at c.args.s.now) q, length-drop c.args.at c.args.s.now)
