-- The theorem, from the lemmas of proofs/Folds and proofs/Values.
use Rattle.sums.proofs.Folds.{amount_sum, sum_amount, refused_out, out_refused, either_sum, in_parts}
use Rattle.sums.proofs.Values.{counted as value_counted, wholes as values_whole, large as values_large, minus_zero as of_minus_zero}
use Rattle.sums.proofs.totals_are_sums.Goals as goal

pub returns : goal.returns
returns c = record {
  amounts = amount_sum;
  sums = sum_amount;
  refused = refused_out;
  out = out_refused;
  either = either_sum;
  parts = in_parts;
  counted = value_counted;
  wholes = values_whole;
  large = values_large;
  minus_zero = of_minus_zero;
}
