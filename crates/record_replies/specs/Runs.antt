-- What a run over the lines of a record, or of a session where `seated` says so, ensures.
use Rattle.std.specs.Prelude.{ℕ, ◌≡◌, Bool, List, Some, ◌++◌, ℤ, pos, length, drop}
use Rattle.rules_format.specs.Lines.{lines}
use Rattle.rules_auction.specs.Ledger.{Call, Ledger}
use Rattle.rules_auction.specs.Rounds.{ledger}
use Rattle.rules_replies.specs.Replies.{award_room}
use Rattle.rules_seats.specs.Seats.{HallLedger}
use Rattle.rules_seats.specs.figures.Figures.{hall_after, closings_from}
use Rattle.rules_seats.specs.sessions.LinesRead.{replies_as, calls_as}
use Rattle.engine_auction.specs.Holds.{held_auction}
use Rattle.engine_auction.specs.declared.Auction.{Auction}
use Rattle.engine_settling.specs.Kept.{Kept}
use Rattle.engine_settling.specs.Settles.{accepted_in}
use Rattle.engine_settling.specs.declared.Settlement.{Settlement}
use Rattle.reply_writing.specs.Placed.{Puts}
use Rattle.record_replies.specs.declared.Ran.{Ran}

-- a ledger, with the excess of the latest closing so far
abbrev pub with_excess : Ledger → ℤ → HallLedger
with_excess l e = record { ledger = l; excess = e }

-- for every list of calls whose ledger the auction holds: the replies to the lines behind `from`, put at `before` of the buffer, the auction behind them,
-- the excess of the latest closing that they make, how many closings they make, and what is kept of a settling
pub record Runs (a : Auction) (s : List ℕ) (seated : Bool) (from limit before : ℕ) (o out : List ℕ) (r : Ran) : Type 0 where
  pub same : length out ≡ length o
  pub replied : (cs : List Call) → a ≡ held_auction (ledger cs) → Puts (replies_as seated (ledger cs) (lines (drop from s))) limit before o out r.written
  pub next : (cs : List Call) → a ≡ held_auction (ledger cs) → r.auction ≡ held_auction (ledger (cs ++ calls_as seated (lines (drop from s))))
  pub excess : (cs : List Call) → a ≡ held_auction (ledger cs) →
      r.excess ≡ (hall_after (with_excess (ledger cs) (pos 0)) (calls_as seated (lines (drop from s)))).excess
  pub closings : (cs : List Call) → a ≡ held_auction (ledger cs) → r.closings ≡ closings_from (ledger cs) (calls_as seated (lines (drop from s)))
  pub kept : (cs : List Call) → a ≡ held_auction (ledger cs) → (x : Settlement) → r.settled ≡ Some x →
      Kept (ledger (cs ++ calls_as seated (lines (drop from s)))) award_room (accepted_in x) r.awards
