-- What telling whether a table is valid, and counting its choices against a limit, come to.
use Rattle.std.specs.Prelude.{ℕ, ◌≤◌, ◌<◌, ◌≡◌, Bool, true, ◌↔◌, List, length}
use Rattle.rules_choices.specs.Numbered.{count}
use Rattle.engine_table.specs.table.Rows.{rows_in}

-- a test that is true exactly where P holds
abbrev pub Tells : Bool → Type 0 → Type 0
Tells b P = (b ≡ true) ↔ P

-- n is the number of choices that tables with these ends have, or above the limit if that is
pub record CountedTo (limit : ℕ) (ends : List ℕ) (n : ℕ) : Type 0 where
  pub within : (levels : List ℕ) → length levels ≡ 288 → count (rows_in levels 0 ends) ≤ limit → n ≡ count (rows_in levels 0 ends)
  pub over : (levels : List ℕ) → length levels ≡ 288 → limit < count (rows_in levels 0 ends) → limit < n
