-- An amount behind its letter.
use Rattle.std.proofs.Common.{◌≡◌, [], ◌∷◌, ◌++◌, sym, ap, ◌∙◌, rules, arith, w64, to_z, of_z, Some, Ok}
use Rattle.std.proofs.lemmas.Grind.{common_steps}
use Rattle.digits.specs.Numbers.{signed_number}
use Rattle.lines.specs.Lines.{total_line}
use Rattle.digits.proofs.Puts.{puts_as, puts_then}
use Rattle.lines.proofs.put_total.Goals as goal

pub returns-in-Some-Ok-clause-put : goal.returns-in-Some-Ok-clause-put
returns-in-Some-Ok-clause-put c =
    let n = c.in-Some-Ok.n in
    let is : c.args.t ≡ Some (Ok n) = grind (arith, common_steps) in
    let read : to_z w64 (of_z w64 n) ≡ n = search rules in
    puts_as (ap (λ z. (116 ∷ 32 ∷ []) ++ signed_number z 10) read ∙ ap total_line (sym is)) (puts_then c.put_letter.ensures c.put_signed.ensures.put)
