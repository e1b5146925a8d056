-- From the last listed price up; what is found is the lowest covered one of those passed.
use Rattle.engine_looks.proofs.rivals.Outcomes.{Passed}
use Rattle.engine_looks.proofs.rivals.outcome.Given as goal

abbrev pub invariant-loop-i : goal.invariant-loop-i
invariant-loop-i l = Passed l.game l.first l.second l.low l.i

abbrev pub decreases-loop-i : goal.decreases-loop-i
decreases-loop-i l = l.i
