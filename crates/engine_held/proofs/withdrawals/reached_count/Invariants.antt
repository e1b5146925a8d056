-- `reached_count` goes through the lodged steps: the first whose price is below c ends those that are reached.
use Rattle.engine_held.proofs.withdrawals.Reaching.{ReachedSoFar}
use Rattle.engine_held.proofs.withdrawals.reached_count.Given as goal

abbrev pub invariant-loop-i : goal.invariant-loop-i
invariant-loop-i l = ReachedSoFar l.fn.history l.c l.i
