-- The lines of a session for C (docs/FORMAT.md, sessions): the four digits of a seat written, and the plain record of a session. For all numbers and lent
-- bytes, a seat is refused by 14 where it is not writable, then by 13 where fewer than four bytes were lent; written, whatever frame stands behind it is
-- asked through that seat. The plain record asks the calls that 20 did not refuse, and the replies to them are its own.
use Rattle.std.specs.Prelude.{ℕ, ◌-◌, ◌^◌, ◌≤◌, ◌<◌, ◌≡◌, refl, Bool, true, false, cond, length}
use Rattle.std.proofs.Common.{ap, ap₂, ◌∙◌, ⊎_elim, arith}
use mathlib.Core.List.{List, ◌++◌, map, flatten}
use borrow.Author.Tests.{le-leb, lt-leb, eq-eqb}
use Rattle.rules_numbers.specs.Cases.{le_or_lt}
use Rattle.rules_numbers.specs.Tails.{laid}
use Rattle.rules_format.specs.Lines.{lines}
use Rattle.rules_format.specs.Written.{writing_refusal, written, lent_frame}
use Rattle.rules_format.specs.SessionLines.{seat_text, writable_seat, seat_kind, seat_number, frame_in, names_seat}
use Rattle.rules_format.specs.SessionLineLaws.{length_seat, behind_seat, seat_kind_lem, seat_number_lem, names_seat_lem, seat_writable, seat_written}
use Rattle.rules_replies.specs.Orders.{order_in}
use Rattle.rules_replies.specs.Replies.{replies}
use Rattle.rules_seats.specs.Seats.{permitted}
use Rattle.rules_seats.specs.figures.Figures.{lent_after}
use Rattle.rules_seats.specs.sessions.Sessions.{seat_by, Unread, asked_through, seated_order_in, session_orders, session_entries, is_permitted, session_reply_lines}
use Rattle.rules_seats.specs.sessions.Sessions.{replies_to_those, permitted_lines, session_record}
use Rattle.rules_seats.specs.sessions.SessionLaws.{seated_order_is, record_lines_are, record_permitted}
use Rattle.rules_seats.specs.sessions.SessionReplyLaws.{reply_lines, replies_of_lines, session_replies_permitted}
use Rattle.record_replay.specs.host_numbers.HostNumbers.{value_answer, host_number}
use Rattle.record_replay.specs.Replayed.{hosted, over}
use Rattle.statement.specs.calls_of_c.HostValues.{Lent, refused_by, value_given, text_lent, alike, lent_only}
use Rattle.statement.specs.calls_of_c.SeatedFigures.{plain_calls}

-- ---- what is stated; `old` and `new` are the lent bytes before and after, r is what C gets

pub record SeatReturned (kind number : ℕ) (old new : List ℕ) (r : ℕ) : Type 0 where
  pub unwritable : writable_seat kind number ≡ false → (r ≡ 2 ^ 64 - 14) × (new ≡ old)
  pub too_short : writable_seat kind number ≡ true → length old < 4 → (r ≡ 2 ^ 64 - 13) × (new ≡ old)
  pub accepted : writable_seat kind number ≡ true → 4 ≤ length old → (r ≡ 4) × (new ≡ laid (seat_text kind number) old)
  -- a line of these digits and a frame asks through this seat what the frame asks in a record
  pub asks_through :
      writable_seat kind number ≡ true → (frame : List ℕ) → seated_order_in (seat_text kind number ++ frame) ≡ asked_through (seat_by kind number) (order_in frame)

-- and every line that names a seat is made so
abbrev pub SeatsWritten : Type 0
SeatsWritten =
    (line : List ℕ) → names_seat line ≡ true →
    (writable_seat (seat_kind line) (seat_number line) ≡ true) × (seat_text (seat_kind line) (seat_number line) ++ frame_in line ≡ line)

pub record SessionRecorded (session old new : List ℕ) (r : ℕ) : Type 0 where
  pub bytes : Lent (length (session_record session)) (session_record session) old new r
  -- its lines are the frames of the lines that 20 does not refuse, malformed ones left out; it asks the calls of the session that 20 does not refuse
  pub frames : lines (session_record session) ≡ map frame_in (permitted_lines session)
  pub calls : plain_calls session ≡ permitted (session_entries session)
  -- the replies to those lines are its own, line by line; one behind the other they are what `replay` gives of it
  pub replied : replies_to_those is_permitted (session_orders session) (session_reply_lines session) ≡ reply_lines (session_record session)
  pub text : flatten (reply_lines (session_record session)) ≡ replies (session_record session)

-- ---- by the definitions

module _ (kind number : ℕ) (old new : List ℕ) (r : ℕ) where
  abbrev seat : List ℕ
  seat = seat_text kind number

  abbrev n : ℕ
  n = writing_refusal (writable_seat kind number) seat (length old)

  abbrev v : ℕ
  v = written (writable_seat kind number) seat (length old)

  not_writable : writable_seat kind number ≡ false → n ≡ 14
  unfolding writing_refusal
  not_writable e = rw e

  no_room : writable_seat kind number ≡ true → length old < 4 → n ≡ 13
  unfolding writing_refusal
  no_room e h = rw (e, lt-leb (length seat) (length old) (omega (arith, length_seat kind number)))

  room : writable_seat kind number ≡ true → 4 ≤ length old → n ≡ 0
  unfolding writing_refusal
  room e h = rw (e, le-leb (length seat) (length old) (omega (arith, length_seat kind number)))

  four : n ≡ 0 → v ≡ 4
  unfolding written
  four z = rw (eq-eqb n 0 z) (length_seat kind number)

  asked_so : writable_seat kind number ≡ true → (frame : List ℕ) → seated_order_in (seat ++ frame) ≡ asked_through (seat_by kind number) (order_in frame)
  asked_so e frame =
      let line : List ℕ = seat ++ frame in
      seated_order_is line
      ∙ ap (λ (b : Bool). cond b (asked_through (seat_by (seat_kind line) (seat_number line)) (order_in (frame_in line))) Unread) (names_seat_lem kind number frame e)
      ∙ ap₂ (λ (k m : ℕ). asked_through (seat_by k m) (order_in (frame_in line))) (seat_kind_lem kind number frame e) (seat_number_lem kind number frame e)
      ∙ ap (λ (f : List ℕ). asked_through (seat_by kind number) (order_in f)) (behind_seat kind number frame)

  pub seat_returned : r ≡ host_number (value_answer n v) → new ≡ lent_frame (writable_seat kind number) seat old → SeatReturned kind number old new r
  unfolding lent_frame lent_after
  seat_returned e f = record {
    unwritable = λ b. refused_by n v seat old new r e f 14 (not_writable b) (λ z. omega arith);
    too_short = λ b h. refused_by n v seat old new r e f 13 (no_room b h) (λ z. omega arith);
    accepted = λ b h. let w = value_given n v seat old new r e f (room b h) in (w.0 ∙ four (room b h), w.1);
    asks_through = asked_so;
  }

pub seats_written : SeatsWritten
seats_written line e = (seat_writable line e, seat_written line e)

pub session_recorded :
    (session old new : List ℕ) (r : ℕ) → r ≡ hosted (session_record session) old → new ≡ over (session_record session) old →
    SessionRecorded session old new r
session_recorded session old new r e f = record {
  bytes = text_lent (session_record session) old new r e f;
  frames = record_lines_are session;
  calls = record_permitted session;
  replied = session_replies_permitted session;
  text = replies_of_lines (session_record session);
}

-- ---- and nothing else is

pub seat_determined :
    (kind number : ℕ) (old new new' : List ℕ) (r r' : ℕ) → SeatReturned kind number old new r → SeatReturned kind number old new' r' →
    (r ≡ r') × (new ≡ new')
seat_determined kind number old new new' r r' x y = go (writable_seat kind number) refl
  where
    go : (b : Bool) → writable_seat kind number ≡ b → (r ≡ r') × (new ≡ new')
    go true e = ⊎_elim
        (λ h. alike (x.accepted e h) (y.accepted e h)) (λ h. alike (x.too_short e h) (y.too_short e h)) (le_or_lt 4 (length old))
    go false e = alike (x.unwritable e) (y.unwritable e)

pub recorded_determined :
    (session old new new' : List ℕ) (r r' : ℕ) → SessionRecorded session old new r → SessionRecorded session old new' r' → (r ≡ r') × (new ≡ new')
recorded_determined session old new new' r r' x y = lent_only _ _ old new new' r r' x.bytes y.bytes
