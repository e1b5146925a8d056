-- `choice_at` parts the place row by row: the quotient by the number of choices behind is the level, the remainder the place behind. Below that
-- number the quotient is 0 and the place is its own remainder.
use mathlib.Core.List.{[]}
use lib.ListN.{get_or}
use Rattle.rules_choices.specs.Choices.{choices}
use Rattle.engine_table.specs.table.Rows.{rows_in}
use Rattle.engine_search.proofs.selection.Choosing.{Choosing}
use Rattle.engine_search.proofs.selection.choice_at.Given as goal

abbrev pub invariant-loop-i : goal.invariant-loop-i
invariant-loop-i l = Choosing l.levels l.ends (get_or (choices (rows_in l.levels 0 l.ends)) l.index []) l.award l.rank l.i
