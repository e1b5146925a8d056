-- What a developer gets of a session (docs/FORMAT.md, sessions): its view of it, and what a server sends it at each line that shows it something: the
-- reply, if the line is its own, and the numbers that it then reads. THE PROMISE TO DEVELOPERS stands at the end; it is shown in SessionViewLaws.
use Rattle.std.specs.Prelude.{ℕ, ◌≡◌, Bool, true, false, cond, List, [], ◌∷◌, ◌++◌, map}
use Rattle.rules_seats.specs.Seats.{At, HallLedger, fresh_hall, hall_from, reading}
use Rattle.rules_seats.specs.Views.{Event, Asked, ForIt, Changed, own_seat, shown}
use Rattle.rules_seats.specs.figures.Figures.{reading_figures}
use Rattle.rules_seats.specs.sessions.Sessions.{SeatedOrder, Unread, Makes, Settles, calls_through, session_orders, seated_reply, session_reply_lines}
use Rattle.rules_seats.specs.sessions.Sessions.{replies_to_those}
use Rattle.rules_seats.specs.sessions.SessionFigures.{session_reading}

-- ---- the view of developer n

-- what a call through a seat shows it (document 02, 14): a call of its own, an accepted one made for it, a change of published values; and here also a
-- settling that it asks through its own seat, which is refused
pub data SessionEvent : Type 0 where
  Sees : Event → SessionEvent
  AsksSettling : ℕ → SessionEvent

-- what a line shows it: one that cannot be read shows nothing, nor does a settling through another seat
unfoldable pub seen_of : ℕ → HallLedger → SeatedOrder → List SessionEvent
seen_of n h Unread = []
seen_of n h (Makes s c) = map Sees (shown n h (record { seat = s; call = c }))
seen_of n h (Settles s limit) = cond (own_seat n s) (AsksSettling limit ∷ []) []

unfoldable pub seen_from : ℕ → HallLedger → List SeatedOrder → List SessionEvent
seen_from n h [] = []
seen_from n h (o ∷ os) = seen_of n h o ++ seen_from n (hall_from h (calls_through o)) os

-- the view that a session gives it, in the order of the lines
unfoldable pub session_view : ℕ → List ℕ → List SessionEvent
session_view n session = seen_from n fresh_hall (session_orders session)

-- ---- what it is sent

-- a line through its own seat
unfoldable pub is_own : ℕ → SeatedOrder → Bool
is_own n Unread = false
is_own n (Makes s c) = own_seat n s
is_own n (Settles s limit) = own_seat n s

-- the replies to its own lines, in their order
unfoldable pub own_replies : ℕ → List ℕ → List (List ℕ)
own_replies n session = replies_to_those (is_own n) (session_orders session) (session_reply_lines session)

-- at a line that shows it something: what that is, the reply if the line is its own, and what `session_reading` gives it of the session so far
pub record Sent : Type 0 where
  pub event : SessionEvent
  pub replies : List (List ℕ)
  pub figures : List ℕ

unfoldable pub own_event : SessionEvent → Bool
own_event (Sees (Asked c)) = true
own_event (Sees (ForIt c)) = false
own_event (Sees (Changed p)) = false
own_event (AsksSettling limit) = true

abbrev pub sent_as : List ℕ → List ℕ → SessionEvent → Sent
sent_as reply figures e = record { event = e; replies = cond (own_event e) (reply ∷ []) []; figures = figures }

unfoldable pub sent_at : ℕ → HallLedger → SeatedOrder → List Sent
sent_at n h o = map (sent_as (seated_reply h.ledger o) (reading_figures (At n) (reading (hall_from h (calls_through o)) (At n)))) (seen_of n h o)

unfoldable pub sent_from : ℕ → HallLedger → List SeatedOrder → List Sent
sent_from n h [] = []
sent_from n h (o ∷ os) = sent_at n h o ++ sent_from n (hall_from h (calls_through o)) os

unfoldable pub sent_to : ℕ → List ℕ → List Sent
sent_to n session = sent_from n fresh_hall (session_orders session)

-- ---- THE PROMISE TO DEVELOPERS

-- developer n gets the same of two sessions: at every line that shows it something, among the replies to its own lines, and from `session_reading`
-- (kind of seat 2, number n) behind them
pub record GetsTheSame (n : ℕ) (s s' : List ℕ) : Type 0 where
  pub at_every_line : sent_to n s ≡ sent_to n s'
  pub replies : own_replies n s ≡ own_replies n s'
  pub reading : session_reading s 2 n ≡ session_reading s' 2 n

-- whatever bytes the two sessions are, and whatever the lines of others hold in them: where they give it equal views, it gets the same. The first lines
-- of a session are a session too, so this holds at every line
abbrev pub PromiseToDevelopers : Type 0
PromiseToDevelopers = (n : ℕ) (s s' : List ℕ) → session_view n s ≡ session_view n s' → GetsTheSame n s s'

-- a line that shows it nothing leaves what it reads, so nothing need be sent to it
abbrev pub NothingToSend : Type 0
NothingToSend =
    (n : ℕ) (h : HallLedger) (o : SeatedOrder) → seen_of n h o ≡ [] →
    reading (hall_from h (calls_through o)) (At n) ≡ reading h (At n)
