-- Laws of sessions: what a line asks; the plain record of a session asks the calls that 20 does not refuse, in their order; and the hall's auction is the
-- one that the plain record leaves behind.
use Rattle.std.specs.Prelude.{ℕ, ◌≡◌, refl, Bool, true, false, cond}
use Rattle.std.proofs.Common.{sym, ap, ap₂, ◌∙◌, arith}
use Rattle.std.proofs.lemmas.Bool.{false≢true}
use mathlib.Core.List.{List, [], ◌∷◌, ◌++◌, map, flatten, append_assoc}
use Rattle.std.proofs.Math.Option.{Option, none, some}
use Rattle.rules_numbers.specs.Lists.{keep}
use Rattle.rules_format.specs.Hex.{all_hex}
use Rattle.rules_format.specs.Lines.{lines}
use Rattle.rules_format.specs.Fields.{RawCall, read}
use Rattle.rules_format.specs.FieldLaws.{was_read}
use Rattle.rules_format.specs.WrittenLaws.{hex_first}
use Rattle.rules_format.specs.SessionLines.{seat_kind, seat_number, frame_in, names_seat, with_seat, read_seated}
use Rattle.rules_auction.specs.Ledger.{Call}
use Rattle.rules_auction.specs.Rounds.{ledger}
use Rattle.rules_replies.specs.Orders.{Order, Malformed, Asks, Settle, ordered, order_in}
use Rattle.rules_replies.specs.record_calls.Calls.{asked_calls, calls_of, calls_in}
use Rattle.rules_seats.specs.Seats.{Seat, may_settle, permitted, through_seats}
use Rattle.rules_seats.specs.SeatLaws.{hall_is}
use Rattle.rules_seats.specs.sessions.Sessions.{seat_by, SeatedOrder, Unread, Makes, Settles, asked_through, seated_ordered, seated_order_in, session_orders}
use Rattle.rules_seats.specs.sessions.Sessions.{calls_through_all, session_calls, session_entries, session_hall, is_permitted, permitted_lines, session_record}

-- ---- what a line asks

-- what its frame asks, through the seat that it names
pub seated_order_is : (l : List ℕ) → seated_order_in l ≡ cond (names_seat l) (asked_through (seat_by (seat_kind l) (seat_number l)) (order_in (frame_in l))) Unread
unfolding seated_order_in read_seated order_in ordered
seated_order_is l = go (names_seat l) (read (frame_in l))
  where
    go :
        (b : Bool) (r : Option RawCall) →
        seated_ordered (cond b (with_seat (seat_kind l) (seat_number l) r) none)
        ≡ cond b (asked_through (seat_by (seat_kind l) (seat_number l)) (ordered r)) Unread
    go false r = refl
    go true none = refl
    go true (some c) = refl

-- the order without its seat
abbrev pub plain_order : SeatedOrder → Order
plain_order Unread = Malformed
plain_order (Makes s c) = Asks c
plain_order (Settles s limit) = Settle limit

plain_asked : (s : Seat) (o : Order) → plain_order (asked_through s o) ≡ o
plain_asked s Malformed = refl
plain_asked s (Asks c) = refl
plain_asked s (Settle limit) = refl

-- the frame of a permitted line asks the same in a record
pub plain_frame : (l : List ℕ) → is_permitted (seated_order_in l) ≡ true → order_in (frame_in l) ≡ plain_order (seated_order_in l)
unfolding is_permitted
plain_frame l e = go (names_seat l) (seated_order_is l)
  where
    go :
        (b : Bool) → seated_order_in l ≡ cond b (asked_through (seat_by (seat_kind l) (seat_number l)) (order_in (frame_in l))) Unread →
        order_in (frame_in l) ≡ plain_order (seated_order_in l)
    go true h = sym (ap plain_order h ∙ plain_asked _ (order_in (frame_in l)))
    go false h = absurd (false≢true (sym (ap is_permitted h) ∙ e))

asks_something : (o : SeatedOrder) → is_permitted o ≡ true → plain_order o ≡ Malformed → ⊥
unfolding is_permitted
asks_something Unread t e = false≢true t
asks_something (Makes s c) t e = let z : ◌≡◌ {A = ℕ} 0 1 = cc in omega arith
asks_something (Settles s limit) t e = let z : ◌≡◌ {A = ℕ} 0 1 = cc in omega arith

-- and has nothing but digits
frame_hex : (l : List ℕ) → is_permitted (seated_order_in l) ≡ true → all_hex (frame_in l) ≡ true
unfolding order_in ordered
frame_hex l e = go (read (frame_in l)) refl
  where
    go : (r : Option RawCall) → read (frame_in l) ≡ r → all_hex (frame_in l) ≡ true
    go (some c) h = (was_read (frame_in l) c h).0.hex
    go none h = absurd (asks_something (seated_order_in l) e (sym (plain_frame l e) ∙ ap ordered h))

-- ---- the plain record

abbrev pub allowed : List ℕ → Bool
allowed line = is_permitted (seated_order_in line)

abbrev frame_line : List ℕ → List ℕ
frame_line line = frame_in line ++ (10 ∷ [])

kept_lines : (ls : List (List ℕ)) → lines (flatten (map frame_line (keep allowed ls))) ≡ map frame_in (keep allowed ls)
unfolding keep flatten lines
kept_lines [] = refl
kept_lines (l ∷ ls) = go (allowed l) refl (kept_lines ls)
  where
    more : List (List ℕ)
    more = keep allowed ls

    go :
        (b : Bool) → allowed l ≡ b → lines (flatten (map frame_line more)) ≡ map frame_in more →
        lines (flatten (map frame_line (cond b (l ∷ more) more))) ≡ map frame_in (cond b (l ∷ more) more)
    go false e h = h
    go true e h =
        ap lines (append_assoc (frame_in l) (10 ∷ []) (flatten (map frame_line more)))
        ∙ hex_first (frame_in l) (flatten (map frame_line more)) (frame_hex l e)
        ∙ ap (λ (xs : List (List ℕ)). frame_in l ∷ xs) h

-- its lines are the frames of the permitted lines
pub record_lines_are : (session : List ℕ) → lines (session_record session) ≡ map frame_in (permitted_lines session)
unfolding session_record permitted_lines
record_lines_are session = kept_lines (lines session)

-- ---- the calls that it asks

-- what the order adds to the permitted calls
permitted_order : (o : SeatedOrder) (os : List SeatedOrder) →
    permitted (through_seats (calls_through_all (o ∷ os)))
    ≡ cond (is_permitted o) (asked_calls (plain_order o) ++ permitted (through_seats (calls_through_all os))) (permitted (through_seats (calls_through_all os)))
unfolding calls_through_all through_seats permitted is_permitted
permitted_order Unread os = refl
permitted_order (Makes s c) os = refl
permitted_order (Settles s limit) os = go (may_settle s)
  where
    cs : List Call
    cs = permitted (through_seats (calls_through_all os))

    go : (b : Bool) → cs ≡ cond b cs cs
    go true = refl
    go false = refl

kept_calls : (ls : List (List ℕ)) → calls_of (map frame_in (keep allowed ls)) ≡ permitted (through_seats (calls_through_all (map seated_order_in ls)))
unfolding keep calls_of calls_through_all through_seats permitted
kept_calls [] = refl
kept_calls (l ∷ ls) = go (allowed l) refl (kept_calls ls) ∙ sym (permitted_order (seated_order_in l) (map seated_order_in ls))
  where
    more : List (List ℕ)
    more = keep allowed ls

    rest : List Call
    rest = permitted (through_seats (calls_through_all (map seated_order_in ls)))

    go :
        (b : Bool) → allowed l ≡ b → calls_of (map frame_in more) ≡ rest →
        calls_of (map frame_in (cond b (l ∷ more) more)) ≡ cond b (asked_calls (plain_order (seated_order_in l)) ++ rest) rest
    go false e h = h
    go true e h = ap₂ (λ (o : Order) (cs : List Call). asked_calls o ++ cs) (plain_frame l e) h

-- THE PLAIN RECORD asks the calls of the session that 20 does not refuse
pub record_permitted : (session : List ℕ) → calls_in (session_record session) ≡ permitted (session_entries session)
unfolding calls_in session_entries session_calls session_orders permitted_lines
record_permitted session = ap calls_of (record_lines_are session) ∙ kept_calls (lines session)

-- so the hall's auction is the one that it leaves behind
pub session_ledger_lem : (session : List ℕ) → (session_hall session).ledger ≡ ledger (calls_in (session_record session))
unfolding session_hall session_entries
session_ledger_lem session = hall_is (session_calls session) ∙ ap ledger (sym (record_permitted session))
