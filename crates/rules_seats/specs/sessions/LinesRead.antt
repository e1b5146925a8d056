-- The lines of a record or, where `seated` says so, of a session, as one loop reads them: what a line's frame asks, whether its seat has no right to that, the
-- reply, and the calls that are made.
use Rattle.std.specs.Prelude.{ℕ, Bool, true, false, cond, ◌&&◌, List, [], ◌∷◌, ◌++◌}
use Rattle.rules_format.specs.Lines.{lines}
use Rattle.rules_auction.specs.Ledger.{Call, Ledger}
use Rattle.rules_auction.specs.Rounds.{step_all}
use Rattle.rules_replies.specs.Orders.{Order, order_in}
use Rattle.rules_replies.specs.Replies.{reply_to}
use Rattle.rules_replies.specs.record_calls.Calls.{asked_calls}
use Rattle.rules_seats.specs.Seats.{HallLedger, fresh_hall}
use Rattle.rules_seats.specs.figures.Figures.{hall_after}
use Rattle.rules_seats.specs.sessions.Sessions.{barred_line}
use Rattle.rules_seats.specs.sessions.SeatedLines.{order_kind, order_behind, line_barred}

-- ---- a line

unfoldable pub order_as : Bool → List ℕ → Order
order_as seated line = cond seated (order_behind line) (order_in line)

-- refused by 20
unfoldable pub barred_as : Bool → List ℕ → Bool
barred_as seated line = seated && line_barred line

unfoldable pub reply_as : Bool → Ledger → List ℕ → List ℕ
reply_as seated l line = cond (barred_as seated line) (barred_line (order_kind (order_as seated line))) (reply_to l (order_as seated line))

-- what is barred asks nothing of the auction
unfoldable pub asked_as : Bool → List ℕ → List Call
asked_as seated line = cond (barred_as seated line) [] (asked_calls (order_as seated line))

-- ---- lines

unfoldable pub replies_as : Bool → Ledger → List (List ℕ) → List ℕ
replies_as seated l [] = []
replies_as seated l (line ∷ rest) = reply_as seated l line ++ replies_as seated (step_all l (asked_as seated line)) rest

unfoldable pub calls_as : Bool → List (List ℕ) → List Call
calls_as seated [] = []
calls_as seated (line ∷ rest) = asked_as seated line ++ calls_as seated rest

-- the auction behind all of them, with the excess of the latest closing that was accepted
unfoldable pub hall_of : Bool → List ℕ → HallLedger
hall_of seated bytes = hall_after fresh_hall (calls_as seated (lines bytes))
