-- What `select` promises.
use Rattle.std.specs.Prelude.{ℕ, ◌≡◌, cond, List, [], leb, length, replicate, Result, Ok, Err}
use Rattle.rules_numbers.specs.Lists.{total}
use Rattle.rules_choices.specs.Choices.{choices, covering, best_of}
use Rattle.rules_choices.specs.Search.{kept}
use Rattle.engine_table.specs.table.Rows.{HoldsRows}
use Rattle.engine_table.specs.declared.table.Table.{Table}
use Rattle.engine_refusals.specs.Numbers.{number_of}
use Rattle.engine_refusals.specs.declared.Refusal.{Refusal}
use Rattle.engine_search.specs.declared.selection.Selected.{Selected}

-- an answer in numbers: 0 with the counts and the award, or a refusal's number
pub record Selection : Type 0 where
  pub number : ℕ
  pub choices : ℕ
  pub covering : ℕ
  pub kept : ℕ
  pub total : ℕ
  pub award : List ℕ

-- the best of the covering choices, with the counts
abbrev pub chosen_from : ℕ → List (List ℕ) → Selection
chosen_from d rows = record {
  number = 0;
  choices = length (choices rows);
  covering = length (covering d (choices rows));
  kept = kept d rows;
  total = total (best_of (covering d (choices rows)));
  award = best_of (covering d (choices rows));
}

-- a refusal: every other number is 0
abbrev pub refused_selection : ℕ → Selection
refused_selection n = record { number = n; choices = 0; covering = 0; kept = 0; total = 0; award = replicate 32 0 }

-- the numbers of an answer
abbrev pub selection_in : Result Selected Refusal → Selection
selection_in (Ok s) = record { number = 0; choices = s.choices; covering = s.covering; kept = s.kept; total = s.total; award = s.award }
selection_in (Err e) = refused_selection (number_of e)

-- what settling a book of rows comes to: refusal 10 where there are more choices than the limit
unfoldable pub selected_as : ℕ → ℕ → List (List ℕ) → Selection
selected_as limit d rows = cond (leb (length (choices rows)) limit) (chosen_from d rows) (refused_selection 10)

-- on a table that holds rows of which some choice covers
pub record Selects (t : Table) (d limit : ℕ) (r : Selection) : Type 0 where
  pub selection_is : (rows : List (List ℕ)) → HoldsRows t rows → (covering d (choices rows) ≡ [] → ⊥) → r ≡ selected_as limit d rows
