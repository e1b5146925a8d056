-- From the parts to the whole: what `select` answers is what settling the table's rows comes to.
use Prim.Native.Nat.{ℕ, ◌≤◌, ◌<◌}
use mathlib.Core.Path.{◌≡◌, sym, subst, ◌∙◌}
use mathlib.Core.Bool.{Bool, false}
use mathlib.Core.Logic.{⊎_elim}
use mathlib.Core.List.{List, []}
use native.Mathlib.Omega.{arith}
use lib.ListN.{get_or}
use borrow.Author.Tests.{le-leb, lt-leb}
use Rattle.rules_numbers.specs.Cases.{le_or_lt, clash}
use Rattle.rules_choices.specs.Choices.{choices, covering}
use Rattle.rules_choices.specs.Numbered.{count}
use Rattle.engine_table.specs.table.Rows.{rows_in, HoldsRows}
use Rattle.engine_table.specs.table.Places.{ValidFrom, ValidTable}
use Rattle.engine_table.specs.declared.table.Table.{Table}
use Rattle.engine_table.specs.counting.Counted.{Tells, CountedTo}
use Rattle.engine_search.specs.rows_behind.ByNumber.{FewChoices, Numbers}
use Rattle.engine_search.specs.searching.Searches.{Searchable, Searches}
use Rattle.engine_search.specs.declared.tally.Tally.{Tally}
use Rattle.engine_search.specs.selection.Selection.{Selection, selected_as, refused_selection, Selects}

valid_of : {t : Table} {rows : List (List ℕ)} → HoldsRows t rows → ValidFrom t.levels 0 t.ends
valid_of l = (l.ends_rise, rw l.rows_are (λ row m. (l.rising row m, (λ v k. l.small row v m k))))

-- a table that is not valid holds no rows
pub not_valid : {t : Table} {d limit : ℕ} (b : Bool) → Tells b (ValidFrom t.levels 0 t.ends) → b ≡ false → Selects t d limit (refused_selection 2)
not_valid b tells e = record { selection_is = λ rows l some. absurd (clash (tells.1 (valid_of l)) e) }

-- what holds of the rows that a table has holds of the rows that it holds
selects : {t : Table} {d limit : ℕ} {r : Selection} →
    ((covering d (choices (rows_in t.levels 0 t.ends)) ≡ [] → ⊥) → r ≡ selected_as limit d (rows_in t.levels 0 t.ends)) → Selects t d limit r
selects {t} {d} {limit} {r} h = record {
  selection_is = λ rows l some.
      let there = subst (λ (rs : List (List ℕ)). covering d (choices rs) ≡ [] → ⊥) (sym l.rows_are) some in
      subst (λ (rs : List (List ℕ)). r ≡ selected_as limit d rs) l.rows_are (h there);
}

-- what is known once the choices are counted
pub record Counted (t : Table) (limit n : ℕ) : Type 0 where
  pub table : ValidTable t.levels t.ends
  pub capped : limit ≤ 65536
  pub counts : CountedTo limit t.ends n

module _ {t : Table} {limit n : ℕ} (k : Counted t limit n) where
  abbrev rows : List (List ℕ)
  rows = rows_in t.levels 0 t.ends

  pub too_many : {d : ℕ} → limit < n → Selects t d limit (refused_selection 10)
  unfolding selected_as
  too_many h = selects λ some.
      let over : limit < count rows =
      ⊎_elim (λ j. absurd (omega (arith, k.counts.within t.levels k.table.long.0 j))) (λ j. j) (le_or_lt (count rows) limit) in
      rw (lt-leb (count rows) limit over)

  module _ (h : n ≤ limit) where
    within : count rows ≤ limit
    within = ⊎_elim (λ j. j) (λ j. absurd (omega (arith, k.counts.over t.levels k.table.long.0 j))) (le_or_lt (count rows) limit)

    pub few_choices : FewChoices t.levels t.ends
    few_choices = (k.table, omega (arith, within, k.capped))

    pub searchable : (strides : List ℕ) → Numbers t.ends strides → Searchable t.levels t.ends strides
    searchable strides s = record { table = k.table; within_limit = few_choices.1; numbers = s t.levels few_choices }

    pub chosen : (d : ℕ) {f : Tally} {award : List ℕ} → Searches d rows f → award ≡ get_or (choices rows) f.index [] →
        Selects t d limit (record { number = 0; choices = n; covering = f.covering; kept = f.kept; total = f.total; award = award })
    unfolding selected_as
    chosen d {f} {award} s a = selects λ some.
        let number_of : n ≡ count rows = k.counts.within t.levels k.table.long.0 within in
        let awarded = a ∙ s.best some in
        rw (le-leb (count rows) limit within)
        (λ j. record { number = 0; choices = number_of j; covering = s.covers j; kept = s.keeps j; total = s.least some j; award = awarded j })
