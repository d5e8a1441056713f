-- The upper eight digits, then the lower.
use Rattle.std.proofs.Common.{ap₂, ◌∙◌, ◌+◌, ◌*◌}
use Rattle.std.specs.Int.{to_le_bytes, w128}
use Rattle.digits.proofs.Puts.{puts_as}
use Rattle.digits.proofs.Words.{sixteen}
use Rattle.digits.proofs.Pen.put_bits.Goals as goal

pub returns : goal.returns
returns c =
    let both = ap₂ (λ a b. to_le_bytes w128 (a * 18446744073709551616 + b)) (c.from.ensures ∙ c.hex_word-lower.ensures) (c.from-2.ensures ∙ c.hex_word-upper.ensures) in
    puts_as (c.to_le_bytes.ensures ∙ both ∙ sixteen c.args.n) c.put_text.ensures
