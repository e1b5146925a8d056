-- A line of a session as a loop over it reads it: four digits that name a seat, then a frame. What the frame asks is barred, by its kind and the
-- developer that it names alone, whatever the hall; or it is replied to as in a record, and leaves the hall that it leaves there.
use Rattle.std.specs.Prelude.{ℕ, ◌≡◌, Bool, not, ◌&&◌, ◌||◌, List, eqb, get_or}
use Rattle.std.proofs.Math.Path.{refl, ap}
use Rattle.std.proofs.Common.{sym, subst, ◌∙◌, eqb-true, ne_eqb}
use Rattle.std.proofs.Math.Bool.{true, false, cond}
use Rattle.std.proofs.lemmas.Bool.{eqb-false}
use Rattle.rules_numbers.specs.Lists.{any}
use Rattle.rules_format.specs.Fields.{known, raw_call}
use Rattle.rules_format.specs.SessionLines.{seat_kind, seat_number, frame_in, names_seat}
use Rattle.rules_replies.specs.Orders.{Order, Malformed, Asks, Settle, order_of, order_in}
use Rattle.rules_replies.specs.Replies.{call_kind, reply_to}
use Rattle.rules_replies.specs.record_calls.Calls.{asked_calls}
use Rattle.rules_seats.specs.Seats.{Seat, may_conduct, may_offer_for, may_make, may_settle, HallLedger, hall_step, hall_from}
use Rattle.rules_seats.specs.figures.Figures.{hall_after}
use Rattle.rules_seats.specs.sessions.Sessions.{seat_by, SeatedOrder, Unread, asked_through, seated_order_in, calls_through, barred_line, seated_reply}
use Rattle.rules_seats.specs.sessions.SessionLaws.{seated_order_is}

-- the kind in the reply to a frame
abbrev pub order_kind : Order → ℕ
order_kind Malformed = 255
order_kind (Asks c) = call_kind c
order_kind (Settle limit) = 6

-- the seat has no right to what a frame asks
unfoldable pub is_barred : Seat → Order → Bool
is_barred s Malformed = false
is_barred s (Asks c) = not (may_make s c)
is_barred s (Settle limit) = not (may_settle s)

-- ---- an order through a seat

turned : {A : Type 0} (b : Bool) (x y : A) → cond b x y ≡ cond (not b) y x
turned true x y = refl
turned false x y = refl

module _ (h : HallLedger) (s : Seat) where
  reply_through : (o : Order) → seated_reply h.ledger (asked_through s o) ≡ cond (is_barred s o) (barred_line (order_kind o)) (reply_to h.ledger o)
  unfolding seated_reply is_barred
  reply_through Malformed = refl
  reply_through (Asks c) = turned (may_make s c) _ _
  reply_through (Settle limit) = turned (may_settle s) _ _

  hall_through : (o : Order) → hall_from h (calls_through (asked_through s o)) ≡ cond (is_barred s o) h (hall_after h (asked_calls o))
  unfolding hall_from hall_step hall_after is_barred
  hall_through Malformed = refl
  hall_through (Asks c) = turned (may_make s c) _ _
  hall_through (Settle limit) = go (may_settle s)
    where
      go : (b : Bool) → h ≡ cond (not b) h h
      go true = refl
      go false = refl

-- ---- a line

-- what its frame asks, nothing that can be read where it names no seat
unfoldable pub order_behind : List ℕ → Order
order_behind line = cond (names_seat line) (order_in (frame_in line)) Malformed

unfoldable pub line_barred : List ℕ → Bool
line_barred line = names_seat line && is_barred (seat_by (seat_kind line) (seat_number line)) (order_in (frame_in line))

module _ (h : HallLedger) (line : List ℕ) where
  abbrev s : Seat
  s = seat_by (seat_kind line) (seat_number line)

  abbrev o : Order
  o = order_in (frame_in line)

  pub line_reply : seated_reply h.ledger (seated_order_in line)
      ≡ cond (line_barred line) (barred_line (order_kind (order_behind line))) (reply_to h.ledger (order_behind line))
  unfolding line_barred order_behind seated_reply
  line_reply = ap (seated_reply h.ledger) (seated_order_is line) ∙ go (names_seat line)
    where
      go :
          (b : Bool) →
          seated_reply h.ledger (cond b (asked_through s o) Unread)
          ≡ cond (b && is_barred s o) (barred_line (order_kind (cond b o Malformed))) (reply_to h.ledger (cond b o Malformed))
      go true = reply_through h s o
      go false = refl

  pub line_hall : hall_from h (calls_through (seated_order_in line)) ≡ cond (line_barred line) h (hall_after h (asked_calls (order_behind line)))
  unfolding line_barred order_behind hall_from hall_after
  line_hall = ap (λ (q : SeatedOrder). hall_from h (calls_through q)) (seated_order_is line) ∙ go (names_seat line)
    where
      go :
          (b : Bool) →
          hall_from h (calls_through (cond b (asked_through s o) Unread)) ≡ cond (b && is_barred s o) h (hall_after h (asked_calls (cond b o Malformed)))
      go true = hall_through h s o
      go false = refl

-- ---- by the frame's kind and its first field: offers and cancellations by who offers for the developer, settlings, all else by who conducts

unfoldable pub barred_by_kind : Seat → ℕ → List ℕ → Bool
barred_by_kind s k ns = cond (eqb k 4 || eqb k 9) (not (may_offer_for s (get_or ns 0 0))) (cond (eqb k 6) (not (may_settle s)) (known k && not (may_conduct s)))

module _ (s : Seat) (k : ℕ) (ns : List ℕ) where
  abbrev Claim : ℕ → Type 0
  Claim j = is_barred s (order_of (raw_call j ns)) ≡ barred_by_kind s j ns

  here : (j : ℕ) → Claim j → (eqb k j ≡ false → Claim k) → Claim k
  here j e other = go (eqb k j) refl
    where
      go : (b : Bool) → eqb k j ≡ b → Claim k
      go true t = subst Claim (sym (eqb-true k j t)) e
      go false t = other t

  turn : (j : ℕ) → eqb k j ≡ false → eqb j k ≡ false
  turn j e = ne_eqb j k (λ z. eqb-false k j e (sym z))

  pub barred_by_kind_lem : is_barred s (order_of (raw_call k ns)) ≡ barred_by_kind s k ns
  unfolding is_barred barred_by_kind order_of may_make known any
  barred_by_kind_lem =
      here 1 refl (λ e1. here 2 refl (λ e2. here 3 refl (λ e3. here 4 refl (λ e4. here 5 refl (λ e5.
      here 6 refl (λ e6. here 7 refl (λ e7. here 8 refl (λ e8. here 9 refl (λ e9.
      rw (e1, e2, e3, e4, e5, e6, e7, e8, e9, turn 1 e1, turn 2 e2, turn 3 e3, turn 4 e4, turn 5 e5, turn 6 e6, turn 7 e7, turn 8 e8, turn 9 e9))))))))))
