-- Step by step; the loop keeps `Stepping`.
use Rattle.frame_writing.proofs.each_call.Gathering.{Stepping}
use Rattle.frame_writing.proofs.each_call.steps_of.Given as goal

abbrev pub invariant-loop-i : goal.invariant-loop-i
invariant-loop-i l = Stepping l.prices l.levels l.steps l.i
