-- Going through choices with a tally: how many cover, how many of these are kept, and the best of them, by its total and its place.
use Rattle.std.specs.Prelude.{ℕ, ◌+◌, ◌*◌, ◌≤◌, ◌<◌, ◌≡◌, cond, List, ◌∷◌, map, leb, length, take, drop, get_or}
use Rattle.rules_numbers.specs.Lists.{part}
use Rattle.rules_numbers.specs.ListLaws.{Each}
use Rattle.rules_choices.specs.Search.{lowest_total}
use Rattle.rules_choices.specs.Numbered.{count}
use Rattle.rules_choices.specs.EachChoice.{Strided}
use Rattle.engine_table.specs.table.Places.{ValidRow, ValidTable, row_in}
use Rattle.engine_search.specs.rows_behind.Behind.{Orders, rows_behind, Looks, search_row}
use Rattle.engine_search.specs.tally.Tally.{more}
use Rattle.engine_search.specs.declared.tally.Tally.{Tally}
use Rattle.engine_search.specs.declared.rows_behind.Row.{Row}
use Rattle.engine_search.specs.declared.searching.Place.{Place}

-- one choice of total t, at the place i
abbrev pub offered : ℕ → ℕ → ℕ → Tally → Tally
offered d t i f = cond (leb d t) (more 1 t i f) f

-- a row of the search: its stride, and its levels
abbrev pub strided : List ℕ → Row → Strided
strided levels row = (row.stride, part levels row.start row.end)

-- what is left at place i, from the level at `at` on
abbrev pub left : List ℕ → List Row → ℕ → ℕ → List Strided
left levels rows i at = ((search_row rows i).stride, part levels at ((search_row rows i).end)) ∷ map (strided levels) (drop (i + 1) rows)

-- the rows before place i of the order have one level each, of the total base
pub record Passed (levels ends order : List ℕ) (i base : ℕ) : Type 0 where
  pub place : i < 32
  pub single : Each (λ k. length (row_in levels ends k) ≡ 1) (take i order)
  pub sum : base ≡ lowest_total (map (row_in levels ends) (take i order))
  pub base_fits : base ≤ i * 1000000000

-- where going through what is left may begin, with the total base of the rows before and the place index: over the table and the order of its rows
pub record Goes (levels ends order strides : List ℕ) (rows : List Row) (i at base index : ℕ) (found : Tally) : Type 0 where
  pub table : ValidTable levels ends
  pub orders : Orders levels ends order
  pub looks : Looks levels ends order strides rows
  pub small : (k : ℕ) → k < 32 → get_or strides k 0 ≤ 65536
  pub place : i < 32
  pub inside : at < get_or ends (get_or order i 0) 0
  pub row : ValidRow (part levels at (get_or ends (get_or order i 0) 0))
  pub base_fits : base ≤ i * 1000000000
  pub index_fits : index ≤ (i * 288 + at) * 65536
  pub room : found.covering + count (part levels at (get_or ends (get_or order i 0) 0) ∷ rows_behind levels ends order i) ≤ 65536
  pub fewer : found.kept ≤ found.covering

-- the same of the rows of the search alone, which are those of some table in some order
pub record Ready (levels : List ℕ) (rows : List Row) (place : Place) (found : Tally) : Type 0 where
  pub ends : List ℕ
  pub order : List ℕ
  pub strides : List ℕ
  pub goes : Goes levels ends order strides rows place.row place.at place.base place.index found
