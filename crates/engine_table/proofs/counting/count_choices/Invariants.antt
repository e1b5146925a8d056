-- `count_choices` multiplies the rows' lengths: no row is empty, so the product is never above the number of choices.
use Rattle.engine_table.proofs.counting.Tallying.{Tally}
use Rattle.engine_table.proofs.counting.count_choices.Given as goal

abbrev pub invariant-loop-end : goal.invariant-loop-end
invariant-loop-end l = Tally l.ends l.n l.at l.end-index
