-- What `clear` ensures, for an auction that holds a sound ledger.
use Rattle.std.specs.Prelude.{ℕ, ◌≡◌, true}
use Rattle.rules_auction.specs.Ledger.{Ledger}
use Rattle.rules_auction.specs.Clearing.{highest, high, low, demand_at, remainder_at, closing_price, of_each}
use Rattle.rules_auction.specs.Refusals.{is_closed}
use Rattle.rules_auction.specs.Second.{short, second_price}
use Rattle.engine_auction.specs.Holds.{Holding}
use Rattle.engine_auction.specs.declared.Auction.{Auction}
use Rattle.engine_price.specs.declared.clearing.Cleared.{Cleared}

-- the ledger's figures, with p for its closing price
abbrev pub cleared_at : Ledger → ℕ → Cleared
cleared_at l p = record {
  highest = of_each highest l;
  price = p;
  demand = demand_at l p;
  remainder = remainder_at l p;
  lows = of_each (low p) l;
  highs = of_each (high p) l;
  second = second_price l;
  short = short l;
}

-- of every closed ledger that the auction holds, the figures at its closing price
pub record Clears (a : Auction) (r : Cleared) : Type 0 where
  pub figures_are : Holding a (λ l. is_closed l.phase ≡ true → r ≡ cleared_at l (closing_price l))
