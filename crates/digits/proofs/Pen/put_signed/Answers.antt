-- The size, behind a sign where it is due.
use Rattle.std.proofs.Common.{◌≡◌, true, false, [], ◌∷◌, ◌++◌, ap, ◌∙◌, subst, pos, nat_abs, arith}
use lib.Signed.{le_z}
use mir.Facts.{to_z-of_z}
use Rattle.std.proofs.lemmas.Int.{ints}
use Rattle.digits.specs.Put.{Puts}
use Rattle.digits.specs.Numbers.{number}
use Rattle.digits.proofs.Puts.{puts_as, puts_then}
use Rattle.digits.proofs.Signs.{plain_text, minus_text}
use Rattle.digits.proofs.Pen.put_signed.Goals as goal
use Rattle.digits.proofs.Pen.put_signed.Goals.{then-n-lt0, else-n-lt0}

pub returns-clause-put : goal.returns-clause-put
returns-clause-put c =
    let n = c.args.n in
    let size = c.unsigned_abs.ensures.value ∙ ap nat_abs (to_z-of_z c.ranges.n) in
    elim c.if-n-lt0.branch [
      | then-n-lt0 w ↦
          let e : le_z (pos 0) n ≡ false = grind (arith, ints) in
          let p = puts_then w.put_byte.ensures (subst (λ q. Puts (number c.unsigned_abs.result c.args.sep) q c.put_number.new.self) w.self-is c.put_number.ensures.put) in
          puts_as (ap (λ m. (45 ∷ []) ++ number m c.args.sep) size ∙ minus_text n c.args.sep e) p
      | else-n-lt0 w ↦
          let e : le_z (pos 0) n ≡ true = grind (arith, ints) in
          let p = subst (λ q. Puts (number c.unsigned_abs.result c.args.sep) q c.put_number.new.self) w.self-is c.put_number.ensures.put in
          puts_as (ap (λ m. number m c.args.sep) size ∙ plain_text n c.args.sep e) p
    ]
