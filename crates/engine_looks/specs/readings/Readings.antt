-- What the readings of an auction ensure. `a` is the auction, `r` what the answer says.
use Rattle.std.specs.Prelude.{ℕ, ◌≡◌, List, length, get_or, Result, Ok, Err}
use Rattle.rules_auction.specs.Ledger.{Call}
use Rattle.rules_auction.specs.Rounds.{ledger}
use Rattle.rules_auction.specs.Preview.{Previewed, preview, bare_preview}
use Rattle.rules_supply_curve.specs.Curve.{Point, supply_curve, no_point}
use Rattle.engine_refusals.specs.Numbers.{number_of}
use Rattle.engine_refusals.specs.declared.Refusal.{Refusal}
use Rattle.engine_auction.specs.declared.Auction.{Auction}
use Rattle.engine_auction.specs.Holds.{held_auction}
use Rattle.engine_looks.specs.declared.readings.Preview.{Preview}
use Rattle.engine_looks.specs.declared.readings.SupplyPoint.{SupplyPoint}

-- the numbers and values of a preview; of a refusal its number, 0 in every other place, and not closed
abbrev pub preview_in : Result Preview Refusal → Previewed
preview_in (Ok x) = record { answered = record { number = 0; excess = x.excess; remainder = x.remainder }; closed = x.closed }
preview_in (Err e) = bare_preview (number_of e)

-- a preview of closing. Refused, on every value of the struct: every other place is 0, and not closed. And for every list of calls whose
-- ledger the auction holds it is the ledger's, which is by the definitions of closing
pub record Previews (a : Auction) (r : Previewed) : Type 0 where
  pub zero : (r.answered.number ≡ 0 → ⊥) → r ≡ bare_preview r.answered.number
  pub preview_is : (cs : List Call) → a ≡ held_auction (ledger cs) → r ≡ preview (ledger cs)

-- the point that a reading says
abbrev pub supply_point_in : SupplyPoint → Point
supply_point_in r = record { price = r.price; before = r.before; after = r.after }

-- a reading of the supply curve (document 02, 9). For every list of calls whose ledger the auction holds: the number of points of the ledger's
-- curve, which is by the definitions of supply, and its point at this place, zero past the end
pub record ReadsCurve (a : Auction) (place : ℕ) (r : SupplyPoint) : Type 0 where
  pub entries : (cs : List Call) → a ≡ held_auction (ledger cs) → r.entries ≡ length (supply_curve (ledger cs))
  pub point : (cs : List Call) → a ≡ held_auction (ledger cs) → supply_point_in r ≡ get_or (supply_curve (ledger cs)) place no_point
