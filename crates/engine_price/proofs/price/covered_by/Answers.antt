-- The supply of the highs at p against Dem(p).
use Rattle.engine_price.proofs.price.Halving.{supply_walked, covered_is}
use Rattle.engine_price.proofs.price.covered_by.Goals as goal

pub returns : goal.returns
returns c =
    covered_is _ _ _ _ _ c.demand_at-demand.ensures.0 (supply_walked _ _ _ _ _ _ _ _ c.above.ensures c.lows_at-highs.ensures
    c.supply.ensures.0)
