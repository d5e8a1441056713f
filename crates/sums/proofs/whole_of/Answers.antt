-- The two bounds are -2^53 and 2^53 by their bit patterns, and the tests are those that `counts` comes to.
use Rattle.std.proofs.Common.{◌∙◌, w64}
use lib.Ieee.{of_bits, neg}
use mir.ValLaws.{to_z-of_z}
use Rattle.sums.proofs.Values.{tests, in_range}
use Rattle.sums.proofs.whole_of.Goals as goal
use Rattle.sums.proofs.whole_of.Goals.{else-v-via-then-v+else-v-2, else-v-via-else-v}

pub truncating_f64_to_i64-n-requires : goal.truncating_f64_to_i64-n-requires
unfolding of_bits neg
truncating_f64_to_i64-n-requires c = let r = in_range c.args.v c.if-v.true c.if-v-2.true in record { lower_bound = r.0; upper_bound = r.1 }

pub returns-then-nearest_i64_to_f64-v : goal.returns-then-nearest_i64_to_f64-v
unfolding of_bits neg
returns-then-nearest_i64_to_f64-v c =
    let n = to_z-of_z w64 c.truncating_f64_to_i64-n.result (record { sfits = c.truncating_f64_to_i64-n.type_inv }) ∙ c.truncating_f64_to_i64-n.ensures in
    let back = rw (c.nearest_i64_to_f64.ensures, n) at c.if-nearest_i64_to_f64-v.true in
    simp (n, tests c.args.v, c.if-v.true, c.if-v-2.true, back)

pub returns-else-nearest_i64_to_f64-v : goal.returns-else-nearest_i64_to_f64-v
unfolding of_bits neg
returns-else-nearest_i64_to_f64-v c =
    let n = to_z-of_z w64 c.truncating_f64_to_i64-n.result (record { sfits = c.truncating_f64_to_i64-n.type_inv }) ∙ c.truncating_f64_to_i64-n.ensures in
    let back = rw (c.nearest_i64_to_f64.ensures, n) at c.if-nearest_i64_to_f64-v.false in
    simp (tests c.args.v, c.if-v.true, c.if-v-2.true, back)

pub returns-else-v : goal.returns-else-v
unfolding of_bits neg
returns-else-v c = elim c.else-v.branch [
  | else-v-via-then-v+else-v-2 w ↦ simp (tests c.args.v, w.if-v.true, w.if-v-2.false)
  | else-v-via-else-v w ↦ simp (tests c.args.v, w.if-v.false)
]
