-- `lowers` is the test `lowering`: the loop keeps that what is left lowers the level before exactly if all lower the quantity.
use Rattle.rules_auction.specs.Refusals.{lowering}
use Rattle.engine_held.specs.levels.Held.{levels_in}
use Rattle.engine_held.proofs.levels.Reading.{Read}
use Rattle.engine_held.proofs.levels.Levels.lowers.Given as goal

abbrev pub invariant-loop-level : goal.invariant-loop-level
invariant-loop-level l = Read (lowering (levels_in l.self)) l.quantity l.levels l.last l.level-index
