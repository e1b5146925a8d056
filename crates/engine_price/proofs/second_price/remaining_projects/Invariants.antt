-- The project of each developer, place by place.
use Prim.Native.Nat.{◌-◌}
use Rattle.engine_price.proofs.second_price.Taking.{RemainTurn}
use Rattle.engine_price.proofs.second_price.remaining_projects.Given as goal

abbrev pub invariant-loop-i : goal.invariant-loop-i
invariant-loop-i l = RemainTurn l.auction.projects l.auction.kinds l.auction.histories l.out l.i

abbrev pub decreases-loop-i : goal.decreases-loop-i
decreases-loop-i l = 32 - l.i
