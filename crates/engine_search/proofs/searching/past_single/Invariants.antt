-- `past_single` passes a row with one level in each turn, and adds its level.
use Rattle.engine_search.specs.searching.Going.{Passed}
use Rattle.engine_search.proofs.searching.past_single.Given as goal

abbrev pub invariant-loop-place : goal.invariant-loop-place
invariant-loop-place l = Passed l.levels l.ends l.order l.place l.base
