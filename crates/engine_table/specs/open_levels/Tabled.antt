-- What `table_of` ensures.
use Rattle.std.specs.Prelude.{ℕ, ◌≡◌, List}
use Rattle.rules_auction.specs.Ledger.{Ledger}
use Rattle.rules_auction.specs.Clearing.{of_each, low, high}
use Rattle.rules_auction.specs.Award.{rows}
use Rattle.laws_ledger.specs.Sound.{Sound}
use Rattle.engine_held.specs.declared.levels.Levels.{Levels}
use Rattle.engine_held.specs.levels.Held.{held_levels}
use Rattle.engine_table.specs.declared.table.Table.{Table}
use Rattle.engine_table.specs.table.Rows.{HoldsRows}

-- of the projects, levels, lows and highs of a sound ledger's developers at price p, the table holds the ledger's rows
pub record Tabled (projects : List ℕ) (declared : List Levels) (lows highs : List ℕ) (r : Table) : Type 0 where
  pub holds_rows :
      (l : Ledger) (p : ℕ) →
      Sound l →
      projects ≡ of_each (λ x. x.declared.project) l →
      declared ≡ of_each (λ x. held_levels x.declared.levels) l →
      lows ≡ of_each (low p) l →
      highs ≡ of_each (high p) l →
      HoldsRows r (rows l p)
