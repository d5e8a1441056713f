-- The two byte orders, beside one another.
use Rattle.std.specs.Prelude.{◌≡◌, List, reverse, ℕ, ◌*◌}
use Rattle.std.proofs.Common.{ap, sym}
use Rattle.std.proofs.lemmas.List.{length-reverse}
use Rattle.common.specs.Bytes.{be, le, signed, twos}

-- a number below 0, too: its bytes are as many
pub signed_mirrored : (bs : List ℕ) → signed be bs ≡ signed le (reverse bs)
signed_mirrored bs = ap (λ n. twos (8 * n) (be bs)) (sym (length-reverse bs))
