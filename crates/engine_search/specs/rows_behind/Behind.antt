-- The rows of a table in some order of their numbers, and what stands behind each.
use Rattle.std.specs.Prelude.{ℕ, ◌+◌, ◌≤◌, ◌<◌, ◌≡◌, List, map, length, drop, get_or}
use Rattle.rules_numbers.specs.ListLaws.{Each}
use Rattle.rules_choices.specs.Search.{lowest_total, highest_total}
use Rattle.rules_choices.specs.Numbered.{count}
use Rattle.engine_table.specs.table.Places.{start_of, row_in}
use Rattle.engine_search.specs.declared.rows_behind.Row.{Row}

-- 32 numbers of rows, of which few enough choices can be made
pub record Orders (levels ends order : List ℕ) : Type 0 where
  pub long : length order ≡ 32
  pub numbers : Each (λ k. k < 32) order
  pub within_limit : count (map (row_in levels ends) order) ≤ 65536

-- the rows behind place i
abbrev pub rows_behind : List ℕ → List ℕ → List ℕ → ℕ → List (List ℕ)
rows_behind levels ends order i = map (row_in levels ends) (drop (i + 1) order)

-- out has, from place i on, what f says of the rows behind
abbrev pub EachBehind : (List (List ℕ) → ℕ) → List ℕ → List ℕ → List ℕ → List ℕ → ℕ → Type 0
EachBehind f levels ends order out i = (k : ℕ) → i ≤ k → k < 32 → get_or out k 0 ≡ f (rows_behind levels ends order k)

-- the row of the search at place k: where the row of that number starts and ends, its stride, and of the rows behind the number of choices and the
-- sums of their lows and of their highs
abbrev pub row_at : List ℕ → List ℕ → List ℕ → List ℕ → ℕ → Row
row_at levels ends order strides k = record {
  start = start_of ends (get_or order k 0);
  end = get_or ends (get_or order k 0) 0;
  stride = get_or strides (get_or order k 0) 0;
  ways = count (rows_behind levels ends order k);
  lows = lowest_total (rows_behind levels ends order k);
  highs = highest_total (rows_behind levels ends order k);
}

-- what an array of rows has behind its end
abbrev pub no_row : Row
no_row = record { start = 0; end = 0; stride = 0; ways = 0; lows = 0; highs = 0 }

-- the row of the search at place i
abbrev pub search_row : List Row → ℕ → Row
search_row rows i = get_or rows i no_row

-- rows has them from place i on
abbrev pub RowsFrom : List ℕ → List ℕ → List ℕ → List ℕ → List Row → ℕ → Type 0
RowsFrom levels ends order strides rows i = (k : ℕ) → i ≤ k → k < 32 → search_row rows k ≡ row_at levels ends order strides k

-- the rows of the search
pub record Looks (levels ends order strides : List ℕ) (rows : List Row) : Type 0 where
  pub long : length rows ≡ 32
  pub rows_are : RowsFrom levels ends order strides rows 0
