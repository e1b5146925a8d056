-- `greatest_by_project` is `greatest_by_project`: the loop keeps that of the first developers.
use Rattle.std.proofs.Common.{length}
use Rattle.engine_held.proofs.supply.Greatest.{Raising}
use Rattle.engine_held.proofs.supply.greatest_by_project.Given as goal

abbrev pub invariant-loop-k : goal.invariant-loop-k
invariant-loop-k l = Raising l.fn.projects l.fn.quantities l.best (length l.yielded)
