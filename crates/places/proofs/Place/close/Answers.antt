-- The lines are put one behind the other, and all is written.
use Rattle.std.proofs.Common.{refl, ap, rules}
use Rattle.digits.proofs.Puts.{puts_then, put_end}
use Rattle.places.specs.declared.Ask.TheVariants.{Write}
use Rattle.places.specs.Machine.{moved_to}
use Rattle.places.proofs.Steps.{put_at_lem}
use Rattle.places.proofs.Place.close.Goals as goal

pub returns : goal.returns
returns c =
    let p = (puts_then c.put_total.ensures.put c.put_end.ensures.put).put in
    λ buf. record { answer = ap (Write (moved_to c.args.self c.args.phase c.args.self.from c.args.self.to 0 c.args.self.count)) p.next; buffer = refl; text = put_at_lem (put_end (search rules) p) }
