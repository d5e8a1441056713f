-- The theorem, cited.
use Rattle.demand3.proofs.Demand3.{demand3}
use Rattle.demand3.proofs.demand_three.Goals as goal

pub returns : goal.returns
returns c = demand3
