-- Tables that are valid, and their rows by number.
use Rattle.std.specs.Prelude.{ℕ, ◌≤◌, ◌≡◌, List, ◌∷◌, length, get_or}
use Rattle.rules_numbers.specs.Lists.{part}
use Rattle.rules_numbers.specs.ListLaws.{Each}
use Rattle.rules_choices.specs.Pairwise.{StrictlyRising}
use Rattle.engine_table.specs.table.Rows.{rows_in, EndsRise}

abbrev pub ValidRow : List ℕ → Type 0
ValidRow row = StrictlyRising row × Each (λ v. v ≤ 1000000000) row

-- the rows from `at` on are valid as `Lays` says
abbrev pub ValidFrom : List ℕ → ℕ → List ℕ → Type 0
ValidFrom levels at ends = EndsRise at ends 288 × Each ValidRow (rows_in levels at ends)

abbrev pub Long : List ℕ → List ℕ → Type 0
Long levels ends = (length levels ≡ 288) × (length ends ≡ 32)

-- levels and ends of a table that is valid
pub record ValidTable (levels ends : List ℕ) : Type 0 where
  pub long : Long levels ends
  pub valid : ValidFrom levels 0 ends

-- ---- by number, from 0 on

-- where row k starts, and row k
abbrev pub start_of : List ℕ → ℕ → ℕ
start_of ends k = get_or (0 ∷ ends) k 0

abbrev pub row_in : List ℕ → List ℕ → ℕ → List ℕ
row_in levels ends k = part levels (start_of ends k) (get_or ends k 0)
