-- The low of each developer, place by place.
use mathlib.Core.Path.{refl}
use Rattle.std.proofs.Common.{arith}
use Rattle.engine_curve.proofs.highs_and_lows.Reading.{low_first, low_next, low_all}
use Rattle.engine_curve.proofs.highs_and_lows.lows_at.Goals as goal

pub loop-i-init : goal.loop-i-init
loop-i-init c = low_first _ _ _ _ refl

pub loop-i-preserved : goal.loop-i-preserved
loop-i-preserved c = low_next _ _ _ _ _ _ _ c.loop-i.invariant (omega arith) c.level_at.ensures

pub returns : goal.returns
returns c = low_all _ _ _ _ _ c.loop-i.invariant (omega arith)
