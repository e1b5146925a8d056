-- Laws of what is read and looked at behind a session: it is what the session's plain record says; who is barred; and how many numbers and bytes
-- a host has to lend.
use Rattle.std.specs.Prelude.{ℕ, ◌≤◌, ◌≡◌, refl, Bool, true, false, length, get_or}
use Rattle.std.proofs.Common.{sym, ap, ap₂, ◌∙◌, arith, length-append}
use mathlib.Core.List.{List, [], ◌∷◌, map, flatten}
use Rattle.rules_numbers.specs.Lists.{total}
use Rattle.rules_format.specs.Hex.{value_of, digits}
use Rattle.rules_format.specs.Lines.{lines}
use Rattle.rules_format.specs.SessionLines.{is_seat, frame_in}
use Rattle.rules_auction.specs.Ledger.{Call, Ledger, start}
use Rattle.rules_auction.specs.Preview.{preview}
use Rattle.rules_auction.specs.Settling.{settlement}
use Rattle.rules_supply_curve.specs.Curve.{supply_curve}
use Rattle.rules_replies.specs.Replies.{reply_to, answer_line}
use Rattle.rules_replies.specs.Lengths.{most_to, least_most, reply_bound}
use Rattle.rules_seats.specs.Seats.{Seat, may_conduct, may_settle, HallLedger, fresh_hall, hall_from, permitted}
use Rattle.rules_seats.specs.figures.Figures.{hall_after, closings_from, state_figures, record_hall, record_state, preview_figures, record_preview}
use Rattle.rules_seats.specs.figures.Figures.{curve_figures, record_curve, settlement_figures, record_settlement}
use Rattle.rules_seats.specs.figures.FigureLaws.{hall_permitted, reading_few}
use Rattle.rules_seats.specs.sessions.Sessions.{seat_by, SeatedOrder, Unread, Makes, Settles, seated_order_in, session_orders, calls_through, session_calls}
use Rattle.rules_seats.specs.sessions.Sessions.{session_entries, session_hall, is_permitted, seated_reply, seated_replies, session_reply_lines, session_replies}
use Rattle.rules_seats.specs.sessions.Sessions.{session_record}
use Rattle.rules_seats.specs.sessions.SessionFigures.{seat_may, session_reading, session_preview_refusal, session_preview, session_curve_refusal, session_curve}
use Rattle.rules_seats.specs.sessions.SessionFigures.{session_settlement_refusal, session_settlement}
use Rattle.rules_seats.specs.sessions.SessionLaws.{plain_frame, record_permitted, session_ledger_lem}
use Rattle.rules_seats.specs.sessions.SessionReplyLaws.{permitted_reply}

-- ---- as the plain record says

-- the hall, with the excess of the latest accepted closing
pub session_hall_lem : (session : List ℕ) → session_hall session ≡ record_hall (session_record session)
unfolding session_hall record_hall session_entries
session_hall_lem session = hall_permitted (session_calls session) ∙ ap (hall_after fresh_hall) (sym (record_permitted session))

pub session_state : (session : List ℕ) → record_state (session_record session)
    ≡ state_figures (session_hall session) (closings_from start (permitted (session_entries session)))
unfolding record_state
session_state session =
    ap₂ (λ (h : HallLedger) (cs : List Call). state_figures h (closings_from start cs)) (sym (session_hall_lem session)) (record_permitted session)

pub session_preview_lem : (session : List ℕ) → session_preview session ≡ record_preview (session_record session)
unfolding session_preview record_preview
session_preview_lem session = ap (λ (l : Ledger). preview_figures (preview l)) (session_ledger_lem session)

pub session_curve_lem : (session : List ℕ) → session_curve session ≡ record_curve (session_record session)
unfolding session_curve record_curve
session_curve_lem session = ap (λ (l : Ledger). curve_figures (supply_curve l)) (session_ledger_lem session)

pub session_settlement_lem : (session : List ℕ) → session_settlement session ≡ record_settlement (session_record session)
unfolding session_settlement record_settlement
session_settlement_lem session = ap (λ (l : Ledger). settlement_figures (settlement l)) (session_ledger_lem session)

-- ---- who is barred

-- what names no seat has no right
pub unseated_barred : (right : Seat → Bool) (kind number : ℕ) → is_seat kind number ≡ false → seat_may right kind number ≡ false
unfolding seat_may
unseated_barred right kind number e = rw e

-- a developer, whatever its number, looks at nothing and settles nothing: what it is sent is all that it gets; the auditor settles
pub developers_barred : (n : ℕ) → (seat_may may_conduct 2 n ≡ false) × (seat_may may_settle 2 n ≡ false)
unfolding seat_may is_seat
developers_barred n = (refl, refl)

pub auditors_right : (seat_may may_conduct 1 0 ≡ false) × (seat_may may_settle 1 0 ≡ true)
unfolding seat_may is_seat
auditors_right = (refl, refl)

module _ (session : List ℕ) (kind number : ℕ) where
  pub looks_barred : seat_may may_conduct kind number ≡ false → (session_preview_refusal session kind number ≡ 20) × (session_curve_refusal kind number ≡ 20)
  unfolding session_preview_refusal session_curve_refusal
  looks_barred e = (rw e, rw e)

  pub settlement_barred : (limit room awards : ℕ) → seat_may may_settle kind number ≡ false → session_settlement_refusal session kind number limit room awards ≡ 20
  unfolding session_settlement_refusal
  settlement_barred limit room awards e = rw e

-- ---- bounds

pub session_reading_few : (session : List ℕ) (kind number : ℕ) → length (session_reading session kind number) ≤ 31
unfolding session_reading session_hall
session_reading_few session kind number = reading_few (session_calls session) (seat_by kind number)

-- kind, number and 0A
barred_length : (l : Ledger) (o : SeatedOrder) → is_permitted o ≡ false → length (seated_reply l o) ≡ 5
unfolding is_permitted seated_reply reply_to answer_line digits
barred_length l Unread e = refl
barred_length l (Makes s c) e = rw e
barred_length l (Settles s limit) e = rw e

-- the reply to a line is no longer than that to its frame can be
reply_few : (h : HallLedger) (line : List ℕ) → length (seated_reply h.ledger (seated_order_in line)) ≤ most_to (frame_in line)
unfolding most_to
reply_few h line = go (is_permitted (seated_order_in line)) refl
  where
    go : (b : Bool) → is_permitted (seated_order_in line) ≡ b → length (seated_reply h.ledger (seated_order_in line)) ≤ most_to (frame_in line)
    go true e = rw (permitted_reply h (seated_order_in line) e ∙ ap (reply_to h.ledger) (sym (plain_frame line e))) (reply_bound h.ledger (frame_in line))
    go false e = omega (arith, barred_length h.ledger (seated_order_in line) e, least_most (value_of (get_or (frame_in line) 1 0)))

replies_few : (h : HallLedger) (ls : List (List ℕ)) → length (flatten (seated_replies h (map seated_order_in ls))) ≤ total (map (λ line. most_to (frame_in line)) ls)
unfolding flatten seated_replies total
replies_few h [] = omega arith
replies_few h (line ∷ ls) =
    let o : SeatedOrder = seated_order_in line in
    let next : HallLedger = hall_from h (calls_through o) in
    omega (arith, length-append (seated_reply h.ledger o) (flatten (seated_replies next (map seated_order_in ls))), reply_few h line, replies_few next ls)

-- so a buffer of this size always fits: for each line 5 bytes, 24 more if its sixth character is 5, 458 more if it is 6
pub session_replies_few : (session : List ℕ) → length (session_replies session) ≤ total (map (λ line. most_to (frame_in line)) (lines session))
unfolding session_replies session_reply_lines session_orders
session_replies_few session = replies_few fresh_hall (lines session)
