-- The rows of a table by number are one order of them.
use Rattle.std.specs.Prelude.{ℕ, zero, suc, ◌+◌, ◌≤◌, ◌<◌, ◌≡◌, refl, List, get_or}
use Rattle.std.proofs.Common.{sym, arith, add-zero}
use Rattle.rules_choices.specs.Numbered.{count}
use Rattle.rules_choices.specs.insertion.Numbers.{numbers_from, in_numbers}
use Rattle.engine_table.specs.table.Rows.{rows_in}
use Rattle.engine_table.specs.table.Places.{ValidTable}
use Rattle.engine_table.specs.table.PlaceLaws.{rows_numbered}
use Rattle.engine_search.specs.rows_behind.Behind.{Orders, EachBehind}

-- a table that is valid and has few enough choices
abbrev pub FewChoices : List ℕ → List ℕ → Type 0
FewChoices levels ends = ValidTable levels ends × (count (rows_in levels 0 ends) ≤ 65536)

-- strides that number the choices of every such table with these ends as they are listed
abbrev pub Numbers : List ℕ → List ℕ → Type 0
Numbers ends strides = (levels : List ℕ) → FewChoices levels ends → EachBehind count levels ends (numbers_from 0 32) strides 0

pub number_is : (k n i : ℕ) → i < n → get_or (numbers_from k n) i 0 ≡ k + i
unfolding numbers_from
number_is k zero i h = absurd (omega arith)
number_is k (suc n) zero h = sym (add-zero k)
number_is k (suc n) (suc i) h = rw (number_is (suc k) n i (omega arith)) (omega arith)

pub by_number : {levels ends : List ℕ} → ValidTable levels ends → count (rows_in levels 0 ends) ≤ 65536 → Orders levels ends (numbers_from 0 32)
unfolding numbers_from
by_number t few = record { long = refl; numbers = λ k m. in_numbers k 0 32 m; within_limit = rw (← rows_numbered t) few }
