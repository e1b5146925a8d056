-- What a seat reads and looks at behind a session (docs/FORMAT.md, sessions; include/reference_engine.h): by the kind of seat and the number that a host
-- passes. A seat without the right, and what names no seat, is refused by 20 before every other check.
use Rattle.std.specs.Prelude.{ℕ, Bool, ◌&&◌, List}
use Rattle.rules_format.specs.SessionLines.{is_seat}
use Rattle.rules_auction.specs.Ledger.{Ledger}
use Rattle.rules_auction.specs.Refusals.{check}
use Rattle.rules_auction.specs.Preview.{preview}
use Rattle.rules_auction.specs.Settling.{settlement}
use Rattle.rules_supply_curve.specs.Curve.{supply_curve}
use Rattle.rules_seats.specs.Seats.{Seat, may_conduct, may_settle, reading}
use Rattle.rules_seats.specs.figures.Figures.{preview_refusal, preview_figures, curve_figures, settlement_figures, settlement_refusal, reading_figures}
use Rattle.rules_seats.specs.sessions.Sessions.{seat_by, session_hall}

-- the kind and the number name a seat, and it has this right
unfoldable pub seat_may : (Seat → Bool) → ℕ → ℕ → Bool
seat_may right kind number = is_seat kind number && right (seat_by kind number)

-- the auction in the hall behind the session
abbrev pub session_ledger : List ℕ → Ledger
session_ledger session = (session_hall session).ledger

-- ---- reading: every seat may

unfoldable pub session_reading_refusal : ℕ → ℕ → ℕ
session_reading_refusal kind number = check (is_seat kind number) 20 0

unfoldable pub session_reading : List ℕ → ℕ → ℕ → List ℕ
session_reading session kind number = reading_figures (seat_by kind number) (reading (session_hall session) (seat_by kind number))

-- ---- looking: the auctioneer's right

unfoldable pub session_preview_refusal : List ℕ → ℕ → ℕ → ℕ
session_preview_refusal session kind number = check (seat_may may_conduct kind number) 20 (preview_refusal (session_ledger session))

unfoldable pub session_preview : List ℕ → List ℕ
session_preview session = preview_figures (preview (session_ledger session))

unfoldable pub session_curve_refusal : ℕ → ℕ → ℕ
session_curve_refusal kind number = check (seat_may may_conduct kind number) 20 0

unfoldable pub session_curve : List ℕ → List ℕ
session_curve session = curve_figures (supply_curve (session_ledger session))

-- ---- settling: the auctioneer's right and the auditor's

unfoldable pub session_settlement_refusal : List ℕ → ℕ → ℕ → ℕ → ℕ → ℕ → ℕ
session_settlement_refusal session kind number limit room awards =
    check (seat_may may_settle kind number) 20 (settlement_refusal (session_ledger session) limit room awards)

unfoldable pub session_settlement : List ℕ → List ℕ
session_settlement session = settlement_figures (settlement (session_ledger session))
