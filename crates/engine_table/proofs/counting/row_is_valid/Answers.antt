-- `row_is_valid`: neighbours tell whether the row rises, and where it does, its last level is the largest.
use Rattle.std.proofs.Common.{rules}
use Rattle.std.proofs.lemmas.List.Sorted.{answers_always}
use lib.Dec.{ltb}
use Rattle.engine_table.proofs.counting.Checking.{row_rising, row_falling}
use Rattle.engine_table.proofs.counting.row_is_valid.Goals as goal

pub returns-then-is_sorted_by : goal.returns-then-is_sorted_by
returns-then-is_sorted_by c =
    row_rising _ _ _ c.requires.0 c.requires.1 c.requires.2 _ (c.is_sorted_by.ensures.cases ltb (answers_always _ _ _ (λ f a r g h. search rules))) c.if-is_sorted_by.true

pub returns-else-is_sorted_by : goal.returns-else-is_sorted_by
returns-else-is_sorted_by c =
    row_falling _ _ _ c.requires.0 c.requires.1 c.requires.2 _ (c.is_sorted_by.ensures.cases ltb (answers_always _ _ _ (λ f a r g h. search rules))) c.if-is_sorted_by.false
