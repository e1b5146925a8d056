-- `strides_of` stores the number of choices of the rows behind each row, from the last row up.
use Rattle.engine_search.proofs.rows_behind.Numbering.{Numbering}
use Rattle.engine_search.proofs.rows_behind.strides_of.Given as goal

abbrev pub invariant-loop-i : goal.invariant-loop-i
invariant-loop-i l = Numbering l.ends l.strides l.n l.i
