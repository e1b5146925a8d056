-- `levels_ok` is the test `levels_ok`: the loop keeps that what is left rises from the level before exactly if all rise from 0.
use Rattle.rules_auction.specs.Refusals.{rising}
use Rattle.engine_held.proofs.levels.Reading.{Read}
use Rattle.engine_held.proofs.levels.levels_ok.Given as goal

abbrev pub invariant-loop-level : goal.invariant-loop-level
invariant-loop-level l = Read rising 0 l.levels l.last l.level-index
