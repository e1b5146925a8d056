-- Laws of a session's replies: an order with the right is replied to as in a record, one without by 20; and the replies to the lines that 20 does not
-- refuse are the plain record's, line by line.
use Rattle.std.specs.Prelude.{ℕ, ◌≡◌, Bool, true, false, cond}
use Rattle.std.proofs.Math.Path.{refl}
use Rattle.std.proofs.Common.{sym, ap, ap₂, ◌∙◌}
use mathlib.Core.List.{List, [], ◌∷◌, ◌++◌, map, flatten}
use Rattle.rules_numbers.specs.Lists.{keep}
use Rattle.rules_format.specs.Lines.{lines}
use Rattle.rules_format.specs.SessionLines.{frame_in}
use Rattle.rules_auction.specs.Ledger.{Call, Ledger, start}
use Rattle.rules_replies.specs.Orders.{order_in}
use Rattle.rules_replies.specs.Replies.{call_kind, reply_to, ledger_after, replies_from, replies}
use Rattle.rules_seats.specs.Seats.{Seat, may_make, may_settle, HallLedger, fresh_hall, hall_step, hall_from}
use Rattle.rules_seats.specs.sessions.Sessions.{SeatedOrder, Unread, Makes, Settles, seated_order_in, session_orders, calls_through, is_permitted, barred_line}
use Rattle.rules_seats.specs.sessions.Sessions.{seated_reply, seated_replies, session_reply_lines, replies_to_those, permitted_lines, session_record}
use Rattle.rules_seats.specs.sessions.SessionLaws.{plain_order, plain_frame, allowed, record_lines_are}

-- ---- line by line

-- a reply for each line of a record, of which the record's replies are made up
unfoldable pub reply_lines_from : Ledger → List (List ℕ) → List (List ℕ)
reply_lines_from l [] = []
reply_lines_from l (line ∷ rest) = reply_to l (order_in line) ∷ reply_lines_from (ledger_after l (order_in line)) rest

unfoldable pub reply_lines : List ℕ → List (List ℕ)
reply_lines bytes = reply_lines_from start (lines bytes)

flat_reply_lines : (l : Ledger) (ls : List (List ℕ)) → flatten (reply_lines_from l ls) ≡ replies_from l ls
unfolding flatten reply_lines_from replies_from
flat_reply_lines l [] = refl
flat_reply_lines l (line ∷ rest) = ap (λ (r : List ℕ). reply_to l (order_in line) ++ r) (flat_reply_lines (ledger_after l (order_in line)) rest)

pub replies_of_lines : (bytes : List ℕ) → flatten (reply_lines bytes) ≡ replies bytes
unfolding reply_lines replies
replies_of_lines bytes = flat_reply_lines start (lines bytes)

-- an order with the right is replied to as in a record, and leaves the auction that it leaves there; one without leaves the hall
module _ (h : HallLedger) where
  pub permitted_reply : (o : SeatedOrder) → is_permitted o ≡ true → seated_reply h.ledger o ≡ reply_to h.ledger (plain_order o)
  unfolding is_permitted seated_reply
  permitted_reply Unread e = refl
  permitted_reply (Makes s c) e = rw e
  permitted_reply (Settles s limit) e = rw e

  pub permitted_ledger : (o : SeatedOrder) → is_permitted o ≡ true → (hall_from h (calls_through o)).ledger ≡ ledger_after h.ledger (plain_order o)
  unfolding is_permitted hall_from hall_step ledger_after
  permitted_ledger Unread e = refl
  permitted_ledger (Makes s c) e = rw e
  permitted_ledger (Settles s limit) e = refl

  pub barred_hall : (o : SeatedOrder) → is_permitted o ≡ false → hall_from h (calls_through o) ≡ h
  unfolding is_permitted hall_from hall_step
  barred_hall Unread e = refl
  barred_hall (Makes s c) e = rw e
  barred_hall (Settles s limit) e = refl

  -- refused by 20 before every other check, whatever the hall
  pub barred_reply : (s : Seat) (c : Call) → may_make s c ≡ false → seated_reply h.ledger (Makes s c) ≡ barred_line (call_kind c)
  unfolding seated_reply
  barred_reply s c e = rw e

  pub barred_settling : (s : Seat) (limit : ℕ) → may_settle s ≡ false → seated_reply h.ledger (Settles s limit) ≡ barred_line 6
  unfolding seated_reply
  barred_settling s limit e = rw e

kept_replies :
    (h : HallLedger) (ls : List (List ℕ)) →
    replies_to_those is_permitted (map seated_order_in ls) (seated_replies h (map seated_order_in ls)) ≡ reply_lines_from h.ledger (map frame_in (keep allowed ls))
unfolding keep seated_replies replies_to_those reply_lines_from
kept_replies h [] = refl
kept_replies h (l ∷ ls) = go (allowed l) refl (kept_replies (hall_from h (calls_through o)) ls)
  where
    o : SeatedOrder
    o = seated_order_in l

    next : HallLedger
    next = hall_from h (calls_through o)

    more : List (List ℕ)
    more = keep allowed ls

    those : HallLedger → List (List ℕ)
    those k = replies_to_those is_permitted (map seated_order_in ls) (seated_replies k (map seated_order_in ls))

    go :
        (b : Bool) → allowed l ≡ b → those next ≡ reply_lines_from next.ledger (map frame_in more) →
        cond b (seated_reply h.ledger o ∷ those next) (those next) ≡ reply_lines_from h.ledger (map frame_in (cond b (l ∷ more) more))
    go false e g = g ∙ ap (λ (k : HallLedger). reply_lines_from k.ledger (map frame_in more)) (barred_hall h o e)
    go true e g =
        let f : plain_order o ≡ order_in (frame_in l) = sym (plain_frame l e) in
        ap₂ (λ (r : List ℕ) (rs : List (List ℕ)). r ∷ rs)
        (permitted_reply h o e ∙ ap (reply_to h.ledger) f)
        (g ∙ ap (λ (k : Ledger). reply_lines_from k (map frame_in more)) (permitted_ledger h o e ∙ ap (ledger_after h.ledger) f))

-- THE REPLIES to the lines that 20 does not refuse, malformed ones apart, are those to the plain record, line by line
pub session_replies_permitted : (session : List ℕ) →
    replies_to_those is_permitted (session_orders session) (session_reply_lines session) ≡ reply_lines (session_record session)
unfolding session_orders session_reply_lines reply_lines permitted_lines
session_replies_permitted session =
    kept_replies fresh_hall (lines session) ∙ ap (reply_lines_from start) (sym (record_lines_are session))
