-- What the calls ensure. `a` is the auction, `e` the excess of the latest accepted closing, `old` and `new` what was lent before and after. On every value
-- of the struct a refusal leaves all that was lent; and for every list of calls whose ledger the auction holds, the number and every lent number are
-- those of its figures.
use Rattle.std.specs.Prelude.{ℕ, ◌≡◌, List, ℤ, length}
use Rattle.rules_auction.specs.Ledger.{Call}
use Rattle.rules_auction.specs.Rounds.{ledger}
use Rattle.rules_auction.specs.Settling.{settlement}
use Rattle.rules_supply_curve.specs.Curve.{supply_curve}
use Rattle.rules_seats.specs.Seats.{Seat, HallLedger, reading}
use Rattle.rules_seats.specs.figures.Figures.{lent_after, state_figures, curve_figures, settlement_figures, award_bytes}
use Rattle.rules_seats.specs.figures.Figures.{settlement_refusal, reading_figures}
use Rattle.engine_auction.specs.Holds.{held_auction}
use Rattle.engine_auction.specs.declared.Auction.{Auction}
use Rattle.figure_writing.specs.lent_numbers.Lent.{Counted, GivesFigures, Counts}

-- the state of every hall's ledger that is held
pub record WritesState (a : Auction) (e : ℤ) (closings : ℕ) (old new : List ℕ) (n : ℕ) : Type 0 where
  pub same : (n ≡ 0 → ⊥) → new ≡ old
  pub state_is : (h : HallLedger) → a ≡ held_auction h.ledger → e ≡ h.excess → GivesFigures 0 (state_figures h closings) old new n

-- it counts the points
pub record WritesCurve (a : Auction) (old new : List ℕ) (r : Counted) : Type 0 where
  pub same : (r.number ≡ 0 → ⊥) → new ≡ old
  pub curve_is : (cs : List Call) → a ≡ held_auction (ledger cs) → Counts (length (supply_curve (ledger cs))) (curve_figures (supply_curve (ledger cs))) old new r

-- two buffers: `old_bytes` and `new_bytes` are those of the award records
pub record WritesSettlement (a : Auction) (limit : ℕ) (old new old_bytes new_bytes : List ℕ) (n : ℕ) : Type 0 where
  pub same : (n ≡ 0 → ⊥) → (new ≡ old) × (new_bytes ≡ old_bytes)
  pub number : (cs : List Call) → a ≡ held_auction (ledger cs) → n ≡ settlement_refusal (ledger cs) limit (length old) (length old_bytes)
  pub lent : (cs : List Call) → a ≡ held_auction (ledger cs) → new ≡ lent_after n (settlement_figures (settlement (ledger cs))) old
  pub awards : (cs : List Call) → a ≡ held_auction (ledger cs) → new_bytes ≡ lent_after n (award_bytes (settlement (ledger cs))) old_bytes

-- it counts the numbers
pub record WritesReading (a : Auction) (e : ℤ) (s : Seat) (old new : List ℕ) (r : Counted) : Type 0 where
  pub same : (r.number ≡ 0 → ⊥) → new ≡ old
  pub reading_is : (cs : List Call) (h : HallLedger) → h.ledger ≡ ledger cs → a ≡ held_auction h.ledger → e ≡ h.excess →
      Counts (length (reading_figures s (reading h s))) (reading_figures s (reading h s)) old new r
