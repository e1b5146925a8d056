-- `look_behind` stores the row of the search at each place, from the last place up: each row adds its length, its first and its last level.
use Rattle.engine_search.proofs.rows_behind.Looking.{Looking}
use Rattle.engine_search.proofs.rows_behind.look_behind.Given as goal

abbrev pub invariant-loop-i : goal.invariant-loop-i
invariant-loop-i l = Looking l.levels l.ends l.order l.strides l.rows l.ways l.lows l.highs l.i
