-- What the calls of a record, or of a session where `seated` says so, leave behind.
use Rattle.std.specs.Prelude.{ℕ, ◌≡◌, Bool, true, false, List}
use Rattle.std.proofs.Common.{sym, ap, ◌∙◌}
use Rattle.rules_format.specs.Lines.{lines}
use Rattle.rules_auction.specs.Ledger.{Ledger, start}
use Rattle.rules_auction.specs.Rounds.{ledger}
use Rattle.rules_replies.specs.record_calls.Calls.{calls_in}
use Rattle.rules_seats.specs.Seats.{HallLedger, fresh_hall}
use Rattle.rules_seats.specs.figures.Figures.{closings_from}
use Rattle.rules_seats.specs.figures.FigureLaws.{hall_after_ledger}
use Rattle.rules_seats.specs.sessions.LinesRead.{calls_as, hall_of}
use Rattle.rules_seats.specs.sessions.LinesReadLaws.{record_calls_read, session_hall_read}
use Rattle.rules_seats.specs.sessions.SessionFigures.{session_ledger}
use Rattle.engine_auction.specs.Holds.{held_auction}
use Rattle.record_replay.specs.declared.record_auction.Left.{Left}

pub record Leaves (seated : Bool) (bytes : List ℕ) (r : Left) : Type 0 where
  pub auction : r.auction ≡ held_auction (hall_of seated bytes).ledger
  pub excess : r.excess ≡ (hall_of seated bytes).excess
  pub closings : r.closings ≡ closings_from start (calls_as seated (lines bytes))

-- ---- the ledger of the calls

abbrev pub ledger_of : Bool → List ℕ → Ledger
ledger_of seated bytes = ledger (calls_as seated (lines bytes))

pub hall_ledger_lem : (seated : Bool) (bytes : List ℕ) → (hall_of seated bytes).ledger ≡ ledger_of seated bytes
unfolding hall_of ledger
hall_ledger_lem seated bytes = hall_after_ledger fresh_hall (calls_as seated (lines bytes))

pub left_ledger : (seated : Bool) (bytes : List ℕ) (r : Left) → Leaves seated bytes r → r.auction ≡ held_auction (ledger_of seated bytes)
left_ledger seated bytes r w = w.auction ∙ ap held_auction (hall_ledger_lem seated bytes)

-- that of a record is the ledger of the calls that it asks, that of a session stands in the hall behind it
pub record_ledger_of : (bytes : List ℕ) → ledger_of false bytes ≡ ledger (calls_in bytes)
record_ledger_of bytes = ap ledger (record_calls_read bytes)

pub session_ledger_of : (session : List ℕ) → ledger_of true session ≡ session_ledger session
session_ledger_of session = sym (hall_ledger_lem true session) ∙ ap (λ (h : HallLedger). h.ledger) (session_hall_read session)
