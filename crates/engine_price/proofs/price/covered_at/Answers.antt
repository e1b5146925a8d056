-- The supply looked up against Dem(p).
use Rattle.engine_price.proofs.price.Halving.{supply_looked_up, covered_is}
use Rattle.engine_price.proofs.price.covered_at.Goals as goal

pub returns : goal.returns
returns c = covered_is _ _ _ _ _ c.demand_at-demand.ensures.0 (supply_looked_up _ _ _ _ _ _ c.supplied_at.ensures)
