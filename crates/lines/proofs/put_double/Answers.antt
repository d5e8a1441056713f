-- By whether it is a NaN.
use Rattle.std.proofs.Common.{sym, ap, ◌∙◌}
use Rattle.digits.specs.Put.{Puts}
use Rattle.floats.specs.Doubles.{bits_of}
use Rattle.lines.specs.Lines.{bits_text}
use Rattle.digits.proofs.Puts.{puts_as, puts_then, puts_to}
use Rattle.lines.proofs.put_double.Goals.{in-Some, in-None}
use Rattle.lines.proofs.put_double.Goals as goal

pub returns-clause-put : goal.returns-clause-put
unfolding bits_text
returns-clause-put c =
    let bits : Puts (bits_text (bits_of c.args.x)) c.args.pen.now c.match-f64_to_bits.pen = elim c.match-f64_to_bits.branch [
      | in-Some w ↦ puts_as (ap bits_text (sym w.in-Some.is ∙ c.f64_to_bits.ensures)) (puts_to w.pen-is w.put_bits.ensures)
      | in-None w ↦ puts_as (ap bits_text (sym w.in-None.is ∙ c.f64_to_bits.ensures)) (puts_to w.pen-is w.put_nan.ensures)
    ] in
    puts_then bits c.put_byte.ensures
