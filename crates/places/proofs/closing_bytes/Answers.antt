-- The first length that is finished.
use Rattle.std.proofs.Common.{◌∙◌, true, false, arith, rules, tests}
use Rattle.std.proofs.lemmas.Iterator.{first_from_Range}
use Rattle.places.proofs.Steps.{Found, first_found}
use Rattle.places.proofs.closing_bytes.Goals as goal

pub returns : goal.returns
returns c =
    let st = c.args.st in
    let bs = c.args.s.now in
    let first = first_from_Range _ _ _ _ (Found st bs true) (Found st bs false) c.find.ensures.ran (λ x q k. grind (arith, tests)) (λ x q k. (search rules, grind (arith, tests))) in
    let found = first_found st bs _ first in
    (c.unwrap_or.ensures ∙ found.0, omega (arith, c.unwrap_or.ensures, found.1))
