-- `may_join` is the test `joins`: the loop keeps that what is left says what all say.
use Rattle.std.proofs.Common.{length}
use Rattle.engine_held.proofs.supply.Joining.{Joining}
use Rattle.engine_held.proofs.supply.may_join.Given as goal

abbrev pub invariant-loop-other : goal.invariant-loop-other
invariant-loop-other l = Joining l.fn.projects l.fn.kinds l.project l.kind (length l.yielded)
