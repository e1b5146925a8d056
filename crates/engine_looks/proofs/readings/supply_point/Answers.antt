-- A point of the curve, from the supply of the highest levels on.
use Rattle.engine_looks.proofs.readings.ReadingCurve.{reads_curve}
use Rattle.engine_looks.proofs.readings.supply_point.Goals as goal

pub returns : goal.returns
returns c =
    reads_curve _ _ _ _ _ c.highest_levels-highest.ensures c.supply-first.ensures.0 c.point-point.ensures
