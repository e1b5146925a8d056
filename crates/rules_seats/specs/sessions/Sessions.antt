-- Sessions (docs/FORMAT.md, sessions): records whose lines name the seat through which each frame is asked. What a line asks, the reply to it, the hall
-- behind a session, and the plain record of all that its seats had the right to ask.
use Rattle.std.specs.Prelude.{ℕ, Bool, false, cond, eqb}
use mathlib.Core.List.{List, [], ◌∷◌, ◌++◌, map, flatten}
use Rattle.std.proofs.Math.Option.{Option, none, some}
use Rattle.rules_numbers.specs.Lists.{keep}
use Rattle.rules_format.specs.Lines.{lines}
use Rattle.rules_format.specs.SessionLines.{frame_in, RawSeated, read_seated}
use Rattle.rules_auction.specs.Ledger.{Call, Ledger}
use Rattle.rules_replies.specs.Orders.{Order, Malformed, Asks, Settle, order_of}
use Rattle.rules_replies.specs.Replies.{call_kind, answer_line, reply_to}
use Rattle.rules_seats.specs.Seats.{Seat, Auctioneer, Auditor, At, may_make, may_settle, HallLedger, fresh_hall, Seated, hall_from, hall_ledger, Entry}
use Rattle.rules_seats.specs.Seats.{through_seats}

-- ---- what a line asks

-- the seat that a kind and a number name, in a line or in the arguments of a call: 0 the auctioneer, 1 the auditor, 2 the developer of this number. Which
-- of them name one is `is_seat`
abbrev pub seat_by : ℕ → ℕ → Seat
seat_by kind number = cond (eqb kind 0) Auctioneer (cond (eqb kind 1) Auditor (At number))

-- nothing that can be read; a call through a seat; a settling through a seat
pub data SeatedOrder : Type 0 where
  Unread : SeatedOrder
  Makes : Seat → Call → SeatedOrder
  Settles : Seat → ℕ → SeatedOrder

-- what a frame asks, asked through a seat
abbrev pub asked_through : Seat → Order → SeatedOrder
asked_through s Malformed = Unread
asked_through s (Asks c) = Makes s c
asked_through s (Settle limit) = Settles s limit

abbrev pub seated_ordered : Option RawSeated → SeatedOrder
seated_ordered none = Unread
seated_ordered (some x) = asked_through (seat_by x.kind x.number) (order_of x.call)

unfoldable pub seated_order_in : List ℕ → SeatedOrder
seated_order_in line = seated_ordered (read_seated line)

unfoldable pub session_orders : List ℕ → List SeatedOrder
session_orders session = map seated_order_in (lines session)

-- ---- the hall behind a session

-- the calls through seats that an order asks: settlings and what cannot be read ask none
abbrev pub calls_through : SeatedOrder → List Seated
calls_through Unread = []
calls_through (Makes s c) = record { seat = s; call = c } ∷ []
calls_through (Settles s limit) = []

unfoldable pub calls_through_all : List SeatedOrder → List Seated
calls_through_all [] = []
calls_through_all (o ∷ os) = calls_through o ++ calls_through_all os

-- the run of calls through seats that a session asks
unfoldable pub session_calls : List ℕ → List Seated
session_calls session = calls_through_all (session_orders session)

-- the same as entries, of which `permitted` are those that 20 does not refuse
unfoldable pub session_entries : List ℕ → List Entry
session_entries session = through_seats (session_calls session)

unfoldable pub session_hall : List ℕ → HallLedger
session_hall session = hall_ledger (session_calls session)

-- ---- the replies

-- the seat has the right: what 20 does not refuse. A line that cannot be read asks nothing
unfoldable pub is_permitted : SeatedOrder → Bool
is_permitted Unread = false
is_permitted (Makes s c) = may_make s c
is_permitted (Settles s limit) = may_settle s

-- refused by 20: the frame's kind, and 14 as its two digits
abbrev pub barred_line : ℕ → List ℕ
barred_line kind = answer_line kind 20 []

-- without the right refused by 20, before every other check; with it as the frame is replied to in a record; FF0C where nothing can be read
unfoldable pub seated_reply : Ledger → SeatedOrder → List ℕ
seated_reply l Unread = reply_to l Malformed
seated_reply l (Makes s c) = cond (may_make s c) (reply_to l (Asks c)) (barred_line (call_kind c))
seated_reply l (Settles s limit) = cond (may_settle s) (reply_to l (Settle limit)) (barred_line 6)

unfoldable pub seated_replies : HallLedger → List SeatedOrder → List (List ℕ)
seated_replies h [] = []
seated_replies h (o ∷ os) = seated_reply h.ledger o ∷ seated_replies (hall_from h (calls_through o)) os

-- a reply for each line, from a fresh hall
unfoldable pub session_reply_lines : List ℕ → List (List ℕ)
session_reply_lines session = seated_replies fresh_hall (session_orders session)

unfoldable pub session_replies : List ℕ → List ℕ
session_replies session = flatten (session_reply_lines session)

-- of the replies to orders, those to the orders that pass a test
unfoldable pub replies_to_those : (SeatedOrder → Bool) → List SeatedOrder → List (List ℕ) → List (List ℕ)
replies_to_those t [] rs = []
replies_to_those t (o ∷ os) [] = []
replies_to_those t (o ∷ os) (r ∷ rs) = cond (t o) (r ∷ replies_to_those t os rs) (replies_to_those t os rs)

-- ---- the plain record

-- the lines that 20 does not refuse, settlings among them, malformed ones left out
unfoldable pub permitted_lines : List ℕ → List (List ℕ)
permitted_lines session = keep (λ line. is_permitted (seated_order_in line)) (lines session)

-- their frames without the seats, each with its 0A
unfoldable pub session_record : List ℕ → List ℕ
session_record session = flatten (map (λ line. frame_in line ++ (10 ∷ [])) (permitted_lines session))
