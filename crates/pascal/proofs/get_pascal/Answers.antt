-- A trimmed text lies within the header.
use mathlib.Core.Path.{◌≡◌, sym, ◌∙◌}
use native.Mathlib.Omega.{arith}
use Rattle.std.proofs.Common.{Some}
use Rattle.pascal.proofs.TextLaws.{trims_within}
use Rattle.pascal.proofs.get_pascal.Goals as goal

pub overflow_add-from-2 : goal.overflow_add-from-2
overflow_add-from-2 c =
    let t = c.in_ok-text.text in
    let n : c.trim_utf8.result ≡ Some t = grind arith in
    record { fits = omega (arith, trims_within c.args.h.now c.args.start c.args.width c.from-n.result c.from-n.ensures (omega arith) t.start t.count (sym c.trim_utf8.ensures ∙ n), c.well_formed) }
