-- The ledger of which the question who can force the price is asked (`rules_forcing`, Forcing), as far as an auction's numbers and arrays hold it.
use Rattle.rules_auction.specs.Ledger.{Ledger}
use Rattle.engine_held.specs.supply.Reading.{with_projects, with_kinds}
use Rattle.engine_checks.specs.clock.Reading.{clock_in}
use Rattle.engine_auction.specs.declared.Auction.{Auction}

-- the clock, and the developers' projects and kinds
abbrev pub asked_in : Auction → Ledger
asked_in a = with_kinds (with_projects (clock_in a.clock) a.projects) a.kinds
