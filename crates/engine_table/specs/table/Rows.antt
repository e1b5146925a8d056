-- The rows that a table holds.
use Rattle.std.specs.Prelude.{ℕ, ◌-◌, ◌≤◌, ◌<◌, ◌≡◌, length, take, drop}
use mathlib.Core.List.{List, [], ◌∷◌, Memᴰ}
use Rattle.rules_choices.specs.Pairwise.{StrictlyRising}
use Rattle.engine_table.specs.declared.table.Table.{Table}

-- the rows of a flat list: the first starts at `at`, each ends where the next one starts
unfoldable pub rows_in : List ℕ → ℕ → List ℕ → List (List ℕ)
rows_in flat at [] = []
rows_in flat at (e ∷ es) = take (e - at) (drop at flat) ∷ rows_in flat e es

-- the ends rise strictly from `at` on, so that no row is empty, up to n at most
unfoldable pub EndsRise : ℕ → List ℕ → ℕ → Type 0
EndsRise at [] n = at ≤ n
EndsRise at (e ∷ es) n = (at < e) × EndsRise e es n

-- the table holds these rows: 32 of them, none empty, each strictly rising, no level above 10^9
pub record HoldsRows (t : Table) (rows : List (List ℕ)) : Type 0 where
  pub rows_are : rows_in t.levels 0 t.ends ≡ rows
  pub levels_long : length t.levels ≡ 288
  pub ends_long : length t.ends ≡ 32
  pub ends_rise : EndsRise 0 t.ends 288
  pub rising : (row : List ℕ) → Memᴰ row rows → StrictlyRising row
  pub small : (row : List ℕ) (v : ℕ) → Memᴰ row rows → Memᴰ v row → v ≤ 1000000000
