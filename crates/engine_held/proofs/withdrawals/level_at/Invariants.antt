-- `level_at` goes through the withdrawals: the quantity read so far and those left give the level.
use Rattle.std.proofs.Common.{length}
use Rattle.engine_held.proofs.withdrawals.Reading.{LevelSoFar}
use Rattle.engine_held.proofs.withdrawals.level_at.Given as goal

abbrev pub invariant-loop-price : goal.invariant-loop-price
invariant-loop-price l = LevelSoFar l.fn.history l.first l.p l.quantity (length l.yielded)
