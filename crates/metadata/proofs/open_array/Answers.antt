-- The size first, then the count.
use mathlib.Core.Path.{◌≡◌, sym, ◌∙◌}
use native.Mathlib.Omega.{arith}
use Rattle.std.proofs.Common.{Some, None}
use Rattle.std.proofs.lemmas.Result.{err_from_is_err_and}
use Rattle.rules.specs.Rule.{◌>>=◌}
use Rattle.error.specs.declared.Refusal.TheVariants.{TooManyScans}
use Rattle.metadata.proofs.Opens.{array_counted}
use Rattle.metadata.proofs.open_array.Goals as goal

pub returns-in_err-scans : goal.returns-in_err-scans
unfolding ◌>>=◌
returns-in_err-scans c =
    let p = err_from_is_err_and c.from_residual.result c.from_residual.ensures.1 in
    let n : c.scan_count.result ≡ None = grind arith in
    let e : c.in_err-scans.field-0.0 ≡ TooManyScans = grind arith in
    rw (p.1, p.2, e) (sym (array_counted c.args.metadata c.args.h.now c.if-h-lt4126.false c.time_step-time_step.ensures (sym n ∙ c.scan_count.ensures)))

pub returns : goal.returns
unfolding ◌>>=◌
returns c =
    let n : c.scan_count.result ≡ Some c.in_ok-scans.scans = grind arith in
    sym (array_counted c.args.metadata c.args.h.now c.if-h-lt4126.false c.time_step-time_step.ensures (sym n ∙ c.scan_count.ensures))
