-- What the parts ensure, handed on to the law `clears`.
use Rattle.engine_price.proofs.clearing.Clearing.{clears}
use Rattle.engine_price.proofs.clearing.clear.Goals as goal

-- P is read off the curve, whose first supply is that of the highest levels; the remainder is that at P
pub returns : goal.returns
returns c =
    clears _ _ _ _
    c.highest_levels-highest.ensures c.supply-first.ensures.0 c.closing_price-p.ensures
    c.lows_at-lows.ensures c.above.ensures c.lows_at-highs.ensures
    c.second_price-second.ensures c.demand_at.ensures.0 c.remainder_at.ensures
