-- The theorem, of what the call gave.
use Rattle.letters.specs.Letters.{GivenAll}
use Rattle.letters.proofs.Fetched.{tell_all}
use Rattle.letters.proofs.texts_told.Goals as goal

pub returns : goal.returns
returns c =
    let g : GivenAll c.args.kind c.args.s.now c.fetch_texts.result _ = record { fetches = c.fetch_texts.ensures.texts; counts = c.fetch_texts.ensures.replaced } in
    record { given = g; tells = tell_all c.args.kind c.args.s.now c.fetch_texts.result _ g }
