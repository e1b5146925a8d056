-- What a seat reads, as the engine shows it (document 02, 14).
use Rattle.std.specs.Prelude.{◌+◌, ◌≤◌, ◌≡◌, List, ℤ, Option, Some, None, length}
use Rattle.rules_numbers.specs.Lists.{padded}
use Rattle.rules_auction.specs.Ledger.{Step, Standing, none, made, Call, Ledger}
use Rattle.rules_auction.specs.Rounds.{ledger}
use Rattle.laws_ledger.specs.Sound.{prices_of, levels_of}
use Rattle.rules_seats.specs.Seats as seats
use Rattle.rules_seats.specs.Seats.{Seat, HallLedger, reading}
use Rattle.engine_held.specs.levels.Held.{held_levels}
use Rattle.engine_held.specs.declared.levels.Levels.{Levels}
use Rattle.engine_held.specs.history.Held.{pending, held_history}
use Rattle.engine_held.specs.declared.history.History.{History}
use Rattle.engine_auction.specs.Holds.{held_phase, held_auction}
use Rattle.engine_auction.specs.declared.Auction.{Auction}
use Rattle.hall.specs.declared.seat_readings.StandingOffer.{StandingOffer}
use Rattle.hall.specs.declared.seat_readings.Reading.{Reading}

-- a missing offer is distinct from one of no steps
abbrev pub shown_offer : Standing → Option StandingOffer
shown_offer none = None
shown_offer (made ss) = Some (record { count = length ss; prices = padded 8 (prices_of ss); levels = padded 8 (levels_of ss) })

-- the offer that stands in a history
pub record StandsIn (h : History) (r : Option StandingOffer) : Type 0 where
  pub offer_is : (ws : List Step) (o : Standing) (ls : List Step) → h ≡ held_history ws o ls → length ws + length (pending o) ≤ 8 → r ≡ shown_offer o

abbrev pub shown_reading : seats.Reading → Reading
shown_reading x = record {
  opening = x.values.opening;
  closing = x.values.closing;
  excess = x.values.excess;
  phase = held_phase x.values.phase;
  levels = held_levels x.levels;
  offer = shown_offer x.offer;
}

-- the published values of any struct's value, with these levels and this offer
abbrev pub reading_with : Auction → ℤ → Levels → Option StandingOffer → Reading
reading_with a e ls o = record { opening = a.clock.opening; closing = a.clock.closing; excess = e; phase = a.clock.phase; levels = ls; offer = o }

abbrev pub hall_with : Ledger → ℤ → HallLedger
hall_with l e = record { ledger = l; excess = e }

-- For every list of calls whose ledger the auction holds: what the seat reads of it, and of the excess e
pub record ReadsFrom (a : Auction) (e : ℤ) (s : Seat) (r : Reading) : Type 0 where
  pub reading_is : (cs : List Call) → a ≡ held_auction (ledger cs) → r ≡ shown_reading (reading (hall_with (ledger cs) e) s)
