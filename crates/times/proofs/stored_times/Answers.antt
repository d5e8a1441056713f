-- The laws, cited.
use mathlib.Core.Path.{refl}
use Rattle.times.proofs.Readings.{stamped, keeps, begun, reads, calls, zeros}
use Rattle.times.proofs.Widths.{equal, unequal, unwritten, exact, rows, shown}
use Rattle.times.proofs.stored_times.Goals as goal

pub returns : goal.returns
returns c = record {
  next = stamped;
  opens = begun;
  keeps = keeps;
  fills = λ st s last r c f. (f.count, (f.state, f.columns));
  calls = calls;
  reads = λ mode kind x last n s. (reads last n _ s (begun mode kind x).1).timed;
  exact = exact;
  columns = λ rs old. (refl, refl);
  rows = rows;
  zeros = zeros;
  equal = equal;
  unequal = unequal;
  unwritten = unwritten;
  shown = shown;
}
