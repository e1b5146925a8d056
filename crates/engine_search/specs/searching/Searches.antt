-- What `find` asks and promises.
use Rattle.std.specs.Prelude.{ℕ, ◌≤◌, ◌<◌, ◌≡◌, List, [], length, get_or}
use Rattle.rules_numbers.specs.Lists.{total}
use Rattle.rules_choices.specs.Choices.{choices, covering, best_of}
use Rattle.rules_choices.specs.Search.{kept}
use Rattle.rules_choices.specs.Numbered.{count}
use Rattle.rules_choices.specs.insertion.Numbers.{numbers_from}
use Rattle.engine_table.specs.table.Rows.{rows_in}
use Rattle.engine_table.specs.table.Places.{ValidTable}
use Rattle.engine_search.specs.rows_behind.Behind.{EachBehind}
use Rattle.engine_search.specs.declared.tally.Tally.{Tally}

-- a table with few enough choices, and strides that number them as they are listed
pub record Searchable (levels ends strides : List ℕ) : Type 0 where
  pub table : ValidTable levels ends
  pub within_limit : count (rows_in levels 0 ends) ≤ 65536
  pub numbers : EachBehind count levels ends (numbers_from 0 32) strides 0

-- the covering choices and the kept ones are counted; where some choice covers, the best one is found by its total and its place
pub record Searches (d : ℕ) (rows : List (List ℕ)) (f : Tally) : Type 0 where
  pub covers : f.covering ≡ length (covering d (choices rows))
  pub keeps : f.kept ≡ kept d rows
  pub placed : f.index < count rows
  pub best : (covering d (choices rows) ≡ [] → ⊥) → get_or (choices rows) f.index [] ≡ best_of (covering d (choices rows))
  pub least : (covering d (choices rows) ≡ [] → ⊥) → f.total ≡ total (best_of (covering d (choices rows)))
