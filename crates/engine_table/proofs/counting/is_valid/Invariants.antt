-- `is_valid` tells whether all rows are valid: from row i on they are exactly if all are.
use Rattle.engine_table.proofs.counting.Checking.{Checking}
use Rattle.engine_table.proofs.counting.is_valid.Given as goal

abbrev pub invariant-loop-end : goal.invariant-loop-end
invariant-loop-end l = Checking l.levels l.ends l.at l.end-index
