-- What the first lines of a record leave.
use Rattle.std.specs.Prelude.{ℕ, false, List, []}
use Rattle.rules_auction.specs.Ledger.{start}
use Rattle.engine_auction.specs.Holds.{held_auction}
use Rattle.engine_auction.specs.Parts.{with_clock}
use Rattle.record_lines.specs.record_start.Progress.{Progress}
use Rattle.record_lines.specs.declared.record_start.Begun.{Begun}

-- the lines before r's place are answered from the fresh auction on, and the auction behind them differs from it by its clock alone
abbrev pub Begins : List ℕ → ℕ → List ℕ → List ℕ → Begun → Type 0
Begins s limit o out r =
    Progress false [] s 0 limit 0 o out (with_clock (held_auction start) r.clock) r.read r.written
