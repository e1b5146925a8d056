-- The project of each developer, place by place.
use Rattle.std.proofs.Common.{arith}
use Rattle.engine_price.proofs.second_price.Taking.{remain_first, remain_next, remain_all}
use Rattle.engine_price.proofs.second_price.remaining_projects.Goals as goal

pub loop-i-init : goal.loop-i-init
loop-i-init c = remain_first _ _ _

pub loop-i-preserved : goal.loop-i-preserved
loop-i-preserved c = remain_next _ _ _ _ _ _ _ c.loop-i.invariant (omega arith) c.left_of.ensures

pub returns : goal.returns
returns c = remain_all _ _ _ _ _ c.loop-i.invariant (omega arith)
