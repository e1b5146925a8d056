-- From the first word on while its price is above p.
use Rattle.engine_curve.proofs.kept_curve.Keeping.{Looking}
use Rattle.engine_curve.proofs.kept_curve.supplied_at.Given as goal

abbrev pub invariant-loop-word : goal.invariant-loop-word
invariant-loop-word l = Looking l.words l.count l.first l.p l.left l.word-index
