-- The theorem, of what the call gave.
use native.Mathlib.Omega.{arith}
use Rattle.common.proofs.Sizes.{are_bytes}
use Rattle.letters.specs.Letters.{Given}
use Rattle.letters.proofs.Fetched.{tells}
use Rattle.letters.proofs.fetch_told.Goals as goal

pub returns : goal.returns
returns c =
    let g : Given c.args.kind c.args.number c.args.s.now c.fetch_text.result c.args.out.now _ = record { fetches = c.fetch_text.ensures.text; count = c.fetch_text.ensures.replaced } in
    record { given = g; tells = tells c.args.kind c.args.number c.args.s.now c.fetch_text.result c.args.out.now _ g (are_bytes c.args.s.now λ i. omega (arith, c.shared_slice_known-1.given i)) }
