-- The days of the months before, one after the other.
use Rattle.std.proofs.Common.{◌^◌, rules, arith, ◌∙◌}
use Rattle.std.proofs.lemmas.Iterator.{YieldsList-from_range, YieldsList-from_map}
use Rattle.std.proofs.lemmas.Iterator.Adapters.{fits_from_length, at_most_from_yields_List}
use Rattle.std.proofs.lemmas.Iterator.Consumers.{sum_from_yields_List}
use Rattle.std.proofs.lemmas.List.FromFn.{length-range_with_len}
use Rattle.calendar.specs.Calendar.{days_in}
use Rattle.calendar.proofs.Days.{months_sum}
use Rattle.calendar.proofs.before_month.Goals as goal

pub sum-requires-clause-fits : goal.sum-requires-clause-fits
sum-requires-clause-fits c = fits_from_length _ _ 255 (2 ^ 16) (at_most_from_yields_List (YieldsList-from_range 0 c.args.month c.args.month c.map.ensures.source (omega arith)) (omega (arith, length-range_with_len 0 c.args.month))) c.map.ensures.closure (omega arith) (λ x r q k. search rules)

pub returns : goal.returns
returns c = sum_from_yields_List c.map.result _ c.sum.ensures.ran (YieldsList-from_map _ (days_in c.args.year) (YieldsList-from_range 0 c.args.month c.args.month c.map.ensures.source (omega arith)) c.map.ensures.closure (λ x r q k. search rules)) ∙ months_sum c.args.year c.args.month
