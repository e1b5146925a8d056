-- A record that asks no offers and no cancellations, as a session of the auctioneer alone: the replies are the record's.
use Rattle.std.specs.Prelude.{ℕ, ◌≡◌, Bool, true, cond}
use Rattle.std.proofs.Math.Path.{refl}
use Rattle.std.proofs.Common.{ap, ap₂, ◌∙◌}
use Rattle.std.proofs.lemmas.Bool.{false≢true}
use mathlib.Core.List.{List, [], ◌∷◌, ◌++◌, map, flatten, append_assoc}
use Rattle.rules_numbers.specs.Cases.{and_true}
use Rattle.rules_numbers.specs.Lists.{any, all}
use Rattle.rules_format.specs.Lines.{lines}
use Rattle.rules_format.specs.LineLaws.{unended, lines_unended, unended_first}
use Rattle.rules_format.specs.Hex.{value_of, char_of, digits, number_from}
use Rattle.rules_format.specs.Fields.{known, kind_of}
use Rattle.rules_format.specs.FieldLaws.{reads_none}
use Rattle.rules_format.specs.SessionLines.{is_seat, seat_text, writable_seat, seat_kind, seat_number, frame_in}
use Rattle.rules_format.specs.SessionLineLaws.{behind_seat, seat_kind_lem, seat_number_lem, names_seat_lem}
use Rattle.rules_auction.specs.Ledger.{Ledger}
use Rattle.rules_replies.specs.Orders.{Order, Malformed, Asks, Settle, ordered, order_in}
use Rattle.rules_replies.specs.Replies.{reply_to, ledger_after, replies}
use Rattle.rules_seats.specs.Seats.{Auctioneer, may_make, HallLedger, fresh_hall, hall_step, hall_from}
use Rattle.rules_seats.specs.sessions.Sessions.{seat_by, SeatedOrder, Unread, asked_through, seated_order_in, session_orders, calls_through, seated_reply}
use Rattle.rules_seats.specs.sessions.Sessions.{seated_replies, session_reply_lines, session_replies}
use Rattle.rules_seats.specs.sessions.SessionLaws.{seated_order_is}
use Rattle.rules_seats.specs.sessions.SessionReplyLaws.{reply_lines_from, reply_lines, replies_of_lines}

-- the auctioneer's seat before each line
unfoldable pub auctioneers_line : List ℕ → List ℕ
auctioneers_line line = seat_text 0 0 ++ line

unfoldable pub auctioneers_session : List ℕ → List ℕ
auctioneers_session bytes = flatten (map (λ line. auctioneers_line line ++ (10 ∷ [])) (lines bytes))

-- an order that the auctioneer may ask: all but offers and cancellations
unfoldable pub is_conducted : Order → Bool
is_conducted Malformed = true
is_conducted (Asks c) = may_make Auctioneer c
is_conducted (Settle limit) = true

-- ---- its lines

unended_line : (l : List ℕ) → unended l ≡ true → unended (auctioneers_line l) ≡ true
unfolding unended all auctioneers_line seat_text char_of digits
unended_line l e = e

session_lines_from : (ls : List (List ℕ)) → all unended ls ≡ true →
    lines (flatten (map (λ line. auctioneers_line line ++ (10 ∷ [])) ls)) ≡ map auctioneers_line ls
unfolding all flatten lines
session_lines_from [] e = refl
session_lines_from (l ∷ ls) e =
    let t = and_true (unended l) (all unended ls) e in
    let rest = flatten (map (λ line. auctioneers_line line ++ (10 ∷ [])) ls) in
    ap lines (append_assoc (auctioneers_line l) (10 ∷ []) rest)
    ∙ unended_first (auctioneers_line l) rest (unended_line l t.0)
    ∙ ap (λ (xs : List (List ℕ)). auctioneers_line l ∷ xs) (session_lines_from ls t.1)

auctioneers_lines : (bytes : List ℕ) → lines (auctioneers_session bytes) ≡ map auctioneers_line (lines bytes)
unfolding auctioneers_session
auctioneers_lines bytes = session_lines_from (lines bytes) (lines_unended bytes)

-- in a record such a line is malformed: no frame has kind 00. A line of another seat may read as a frame there, so a session is no record
pub auctioneers_line_malformed : (l : List ℕ) → order_in (auctioneers_line l) ≡ Malformed
unfolding auctioneers_line seat_text char_of value_of digits number_from known any kind_of order_in ordered
auctioneers_line_malformed l = ap ordered (reads_none (seat_text 0 0 ++ l) (λ w. false≢true w.kind_known))

-- ---- what they ask, and the replies

line_asks : (l : List ℕ) → seated_order_in (auctioneers_line l) ≡ asked_through Auctioneer (order_in l)
unfolding auctioneers_line writable_seat is_seat
line_asks l =
    let seat : List ℕ = seat_text 0 0 ++ l in
    seated_order_is seat
    ∙ ap (λ (b : Bool). cond b (asked_through (seat_by (seat_kind seat) (seat_number seat)) (order_in (frame_in seat))) Unread) (names_seat_lem 0 0 l refl)
    ∙ ap₂ (λ (k n : ℕ). asked_through (seat_by k n) (order_in (frame_in seat))) (seat_kind_lem 0 0 l refl) (seat_number_lem 0 0 l refl)
    ∙ ap (λ (f : List ℕ). asked_through Auctioneer (order_in f)) (behind_seat 0 0 l)

module _ (h : HallLedger) where
  conducted_reply : (o : Order) → is_conducted o ≡ true → seated_reply h.ledger (asked_through Auctioneer o) ≡ reply_to h.ledger o
  unfolding is_conducted seated_reply
  conducted_reply Malformed e = refl
  conducted_reply (Asks c) e = rw e
  conducted_reply (Settle limit) e = refl

  conducted_ledger : (o : Order) → is_conducted o ≡ true → (hall_from h (calls_through (asked_through Auctioneer o))).ledger ≡ ledger_after h.ledger o
  unfolding is_conducted hall_from hall_step ledger_after
  conducted_ledger Malformed e = refl
  conducted_ledger (Asks c) e = rw e
  conducted_ledger (Settle limit) e = refl

replies_conducted :
    (h : HallLedger) (ls : List (List ℕ)) → all (λ line. is_conducted (order_in line)) ls ≡ true →
    seated_replies h (map seated_order_in (map auctioneers_line ls)) ≡ reply_lines_from h.ledger ls
unfolding all seated_replies reply_lines_from
replies_conducted h [] e = refl
replies_conducted h (l ∷ ls) e =
    let o : Order = order_in l in
    let t = and_true (is_conducted o) (all (λ line. is_conducted (order_in line)) ls) e in
    let next : HallLedger = hall_from h (calls_through (asked_through Auctioneer o)) in
    ap (λ (q : SeatedOrder). seated_reply h.ledger q ∷ seated_replies (hall_from h (calls_through q)) (map seated_order_in (map auctioneers_line ls))) (line_asks l)
    ∙ ap₂ (λ (r : List ℕ) (rs : List (List ℕ)). r ∷ rs) (conducted_reply h o t.0)
    (replies_conducted next ls t.1 ∙ ap (λ (k : Ledger). reply_lines_from k ls) (conducted_ledger h o t.0))

pub auctioneer_alone :
    (bytes : List ℕ) → all (λ line. is_conducted (order_in line)) (lines bytes) ≡ true → session_replies (auctioneers_session bytes) ≡ replies bytes
unfolding session_replies session_reply_lines session_orders reply_lines
auctioneer_alone bytes e =
    ap (λ (ls : List (List ℕ)). flatten (seated_replies fresh_hall (map seated_order_in ls))) (auctioneers_lines bytes)
    ∙ ap flatten (replies_conducted fresh_hall (lines bytes) e)
    ∙ replies_of_lines bytes
