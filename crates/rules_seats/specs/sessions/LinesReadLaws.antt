-- The lines that one loop reads: those of a record are replied to as `replies` says and ask what `calls_in` says, those of a session are replied to as
-- `session_replies` says and ask the calls that 20 does not refuse.
use Rattle.std.specs.Prelude.{ℕ, ◌≡◌, refl, Bool, true, false, cond, not, ◌&&◌, eqb}
use Rattle.std.proofs.Common.{sym, ap, ap₂, subst, ◌∙◌, eqb-true}
use Rattle.std.proofs.lemmas.Bool.{false≢true}
use mathlib.Core.List.{List, [], ◌∷◌, ◌++◌, map, flatten}
use Rattle.rules_numbers.specs.Cases.{and_true}
use Rattle.rules_format.specs.Fields.{raw_call}
use Rattle.rules_format.specs.Lines.{lines}
use Rattle.rules_format.specs.SessionLines.{seat_kind, seat_number, frame_in, names_seat}
use Rattle.rules_auction.specs.Ledger.{Call, Ledger, start}
use Rattle.rules_auction.specs.Rounds.{step_all}
use Rattle.rules_replies.specs.Orders.{Order, Malformed, Asks, Settle, order_of, order_in}
use Rattle.rules_replies.specs.Replies.{reply_to, ledger_after, replies_from, replies}
use Rattle.rules_replies.specs.record_calls.Calls.{asked_calls, calls_of, calls_in}
use Rattle.rules_replies.specs.record_calls.CallLaws.{step_asked}
use Rattle.rules_seats.specs.Seats.{Seat, Seated, may_make, may_settle, HallLedger, fresh_hall, hall_from, permitted, through_seats}
use Rattle.rules_seats.specs.figures.Figures.{hall_after, record_hall}
use Rattle.rules_seats.specs.figures.FigureLaws.{hall_permitted, hall_after_ledger}
use Rattle.rules_seats.specs.sessions.Sessions.{seat_by, SeatedOrder, Unread, asked_through, seated_order_in, session_orders, calls_through, calls_through_all, barred_line}
use Rattle.rules_seats.specs.sessions.Sessions.{session_calls, session_entries, session_hall, seated_reply, seated_replies, session_reply_lines, session_replies}
use Rattle.rules_seats.specs.sessions.SessionLaws.{seated_order_is}
use Rattle.rules_seats.specs.sessions.SeatedLines.{order_kind, is_barred, order_behind, line_barred, line_reply, line_hall}
use Rattle.rules_seats.specs.sessions.LinesRead.{order_as, barred_as, reply_as, asked_as, replies_as, calls_as, hall_of}

-- ---- barred or not

module _ (seated : Bool) (line : List ℕ) where
  pub reply_free : (l : Ledger) → barred_as seated line ≡ false → reply_as seated l line ≡ reply_to l (order_as seated line)
  unfolding reply_as
  reply_free l e = rw e

  pub asked_free : barred_as seated line ≡ false → asked_as seated line ≡ asked_calls (order_as seated line)
  unfolding asked_as
  asked_free e = rw e

  pub reply_barred : (l : Ledger) → barred_as seated line ≡ true → reply_as seated l line ≡ barred_line (order_kind (order_as seated line))
  unfolding reply_as
  reply_barred l e = rw e

  pub asked_barred : barred_as seated line ≡ true → asked_as seated line ≡ []
  unfolding asked_as
  asked_barred e = rw e

-- no line of a record is barred
pub plain_free : (line : List ℕ) → barred_as false line ≡ false
unfolding barred_as
plain_free line = refl

-- a session's line is barred by what its frame asks
pub barred_frame : (line : List ℕ) → line_barred line ≡ true → is_barred (seat_by (seat_kind line) (seat_number line)) (order_behind line) ≡ true
unfolding line_barred order_behind
barred_frame line e = let t = and_true (names_seat line) _ e in rw t.0 t.1

-- and then replied to by the frame's own kind
module _ (s : Seat) (k : ℕ) (ns : List ℕ) where
  abbrev Claim : ℕ → Type 0
  Claim j = is_barred s (order_of (raw_call j ns)) ≡ true → order_kind (order_of (raw_call j ns)) ≡ j

  here : (j : ℕ) → Claim j → (eqb k j ≡ false → Claim k) → Claim k
  here j e other = go (eqb k j) refl
    where
      go : (b : Bool) → eqb k j ≡ b → Claim k
      go true t = subst Claim (sym (eqb-true k j t)) e
      go false t = other t

  pub kind_barred : is_barred s (order_of (raw_call k ns)) ≡ true → order_kind (order_of (raw_call k ns)) ≡ k
  unfolding is_barred order_of
  kind_barred =
      here 1 (λ t. refl) (λ e1. here 2 (λ t. refl) (λ e2. here 3 (λ t. refl) (λ e3. here 4 (λ t. refl) (λ e4. here 5 (λ t. refl) (λ e5.
      here 6 (λ t. refl) (λ e6. here 7 (λ t. refl) (λ e7. here 8 (λ t. refl) (λ e8. here 9 (λ t. refl) (λ e9.
      rw (e1, e2, e3, e4, e5, e6, e7, e8, e9) (λ t. absurd (false≢true t)))))))))))

-- ---- a record's

pub reply_plain : (l : Ledger) (line : List ℕ) → reply_as false l line ≡ reply_to l (order_in line)
unfolding reply_as barred_as order_as
reply_plain l line = refl

pub asked_plain : (line : List ℕ) → asked_as false line ≡ asked_calls (order_in line)
unfolding asked_as barred_as order_as
asked_plain line = refl

pub replies_plain : (l : Ledger) (ls : List (List ℕ)) → replies_as false l ls ≡ replies_from l ls
unfolding replies_as replies_from
replies_plain l [] = refl
replies_plain l (line ∷ ls) =
    let e : step_all l (asked_as false line) ≡ ledger_after l (order_in line) = ap (step_all l) (asked_plain line) ∙ step_asked l (order_in line) in
    ap₂ (λ (r rs : List ℕ). r ++ rs) (reply_plain l line) (replies_plain (step_all l (asked_as false line)) ls ∙ ap (λ (k : Ledger). replies_from k ls) e)

pub calls_plain : (ls : List (List ℕ)) → calls_as false ls ≡ calls_of ls
unfolding calls_as calls_of
calls_plain [] = refl
calls_plain (line ∷ ls) = ap₂ (λ (cs ds : List Call). cs ++ ds) (asked_plain line) (calls_plain ls)

pub record_replies_read : (bytes : List ℕ) → replies_as false start (lines bytes) ≡ replies bytes
unfolding replies
record_replies_read bytes = replies_plain start (lines bytes)

pub record_calls_read : (bytes : List ℕ) → calls_as false (lines bytes) ≡ calls_in bytes
unfolding calls_in
record_calls_read bytes = calls_plain (lines bytes)

pub record_hall_read : (bytes : List ℕ) → hall_of false bytes ≡ record_hall bytes
unfolding hall_of record_hall
record_hall_read bytes = ap (hall_after fresh_hall) (record_calls_read bytes)

-- ---- a session's

pub reply_seated : (h : HallLedger) (line : List ℕ) → seated_reply h.ledger (seated_order_in line) ≡ reply_as true h.ledger line
unfolding reply_as barred_as order_as
reply_seated h line = line_reply h line

hall_seated : (h : HallLedger) (line : List ℕ) → hall_from h (calls_through (seated_order_in line)) ≡ hall_after h (asked_as true line)
unfolding asked_as barred_as order_as hall_after
hall_seated h line = line_hall h line ∙ go (line_barred line)
  where
    go : (b : Bool) → cond b h (hall_after h (asked_calls (order_behind line))) ≡ hall_after h (cond b [] (asked_calls (order_behind line)))
    go true = refl
    go false = refl

pub replies_seated : (h : HallLedger) (ls : List (List ℕ)) → flatten (seated_replies h (map seated_order_in ls)) ≡ replies_as true h.ledger ls
unfolding flatten seated_replies replies_as
replies_seated h [] = refl
replies_seated h (line ∷ ls) =
    let next : HallLedger = hall_from h (calls_through (seated_order_in line)) in
    let e : next.ledger ≡ step_all h.ledger (asked_as true line) =
    ap (λ (k : HallLedger). k.ledger) (hall_seated h line) ∙ hall_after_ledger h (asked_as true line) in
    ap₂ (λ (r rs : List ℕ). r ++ rs) (reply_seated h line) (replies_seated next ls ∙ ap (λ (k : Ledger). replies_as true k ls) e)

-- what an order through a seat adds to the permitted calls
asked_through_lem : (s : Seat) (o : Order) (ms : List Seated) →
    permitted (through_seats (calls_through (asked_through s o) ++ ms)) ≡ cond (is_barred s o) [] (asked_calls o) ++ permitted (through_seats ms)
unfolding permitted through_seats is_barred
asked_through_lem s Malformed ms = refl
asked_through_lem s (Asks c) ms = go (may_make s c)
  where
    go : (b : Bool) → cond b (c ∷ permitted (through_seats ms)) (permitted (through_seats ms)) ≡ cond (not b) [] (c ∷ []) ++ permitted (through_seats ms)
    go true = refl
    go false = refl
asked_through_lem s (Settle limit) ms = go (may_settle s)
  where
    go : (b : Bool) → permitted (through_seats ms) ≡ cond {A = List Call} (not b) [] [] ++ permitted (through_seats ms)
    go true = refl
    go false = refl

asked_seated : (line : List ℕ) (ms : List Seated) →
    permitted (through_seats (calls_through (seated_order_in line) ++ ms)) ≡ asked_as true line ++ permitted (through_seats ms)
unfolding asked_as barred_as order_as line_barred order_behind
asked_seated line ms = ap (λ (q : SeatedOrder). permitted (through_seats (calls_through q ++ ms))) (seated_order_is line) ∙ go (names_seat line)
  where
    s : Seat
    s = seat_by (seat_kind line) (seat_number line)

    o : Order
    o = order_in (frame_in line)

    go :
        (b : Bool) →
        permitted (through_seats (calls_through (cond b (asked_through s o) Unread) ++ ms))
        ≡ cond (b && is_barred s o) [] (asked_calls (cond b o Malformed)) ++ permitted (through_seats ms)
    go true = asked_through_lem s o ms
    go false = refl

pub calls_seated : (ls : List (List ℕ)) → permitted (through_seats (calls_through_all (map seated_order_in ls))) ≡ calls_as true ls
unfolding calls_through_all calls_as permitted through_seats
calls_seated [] = refl
calls_seated (line ∷ ls) =
    asked_seated line (calls_through_all (map seated_order_in ls)) ∙ ap (λ (cs : List Call). asked_as true line ++ cs) (calls_seated ls)

pub session_replies_read : (session : List ℕ) → replies_as true start (lines session) ≡ session_replies session
unfolding session_replies session_reply_lines session_orders
session_replies_read session = sym (replies_seated fresh_hall (lines session))

pub session_calls_read : (session : List ℕ) → calls_as true (lines session) ≡ permitted (session_entries session)
unfolding session_entries session_calls session_orders
session_calls_read session = sym (calls_seated (lines session))

pub session_hall_read : (session : List ℕ) → hall_of true session ≡ session_hall session
unfolding session_hall hall_of session_entries
session_hall_read session = ap (hall_after fresh_hall) (session_calls_read session) ∙ sym (hall_permitted (session_calls session))
