-- The promise to developers, for sessions: the view alone says what developer n is sent (SentLaws) and what it reads (ViewLaws).
use Rattle.std.specs.Prelude.{ℕ, ◌≡◌, refl, Bool, true, false, cond}
use Rattle.std.proofs.Common.{sym, ap, ◌∙◌}
use mathlib.Core.List.{List, [], ◌∷◌, ◌++◌, map, nil≢cons}
use Rattle.rules_auction.specs.Ledger.{Call}
use Rattle.rules_seats.specs.Seats.{Seat, At, HallLedger, fresh_hall, Seated, hall_step, hall_from, reading}
use Rattle.rules_seats.specs.Views.{Event, own_seat, is_for, shown, view_from, view, moves_clock}
use Rattle.rules_seats.specs.Sights.{sight, reading_seen, reads_sight, sight_behind}
use Rattle.rules_seats.specs.ViewLaws.{others_unseen, followed, by_view_alone}
use Rattle.rules_seats.specs.figures.Figures.{reading_figures}
use Rattle.rules_seats.specs.sessions.Sessions.{SeatedOrder, Unread, Makes, Settles, calls_through_all, session_orders, session_calls, session_hall}
use Rattle.rules_seats.specs.sessions.SessionFigures.{session_reading}
use Rattle.rules_seats.specs.sessions.SessionViews.{SessionEvent, Sees, AsksSettling, seen_of, seen_from, session_view, sent_to, PromiseToDevelopers}
use Rattle.rules_seats.specs.sessions.SessionViews.{NothingToSend}
use Rattle.rules_seats.specs.sessions.SentLaws.{sent_seen, sent_by_view, replies_in, replies_sent}

-- ---- the view of its calls

-- what the hall shows, of what the session does
unfoldable pub hall_events : List SessionEvent → List Event
hall_events [] = []
hall_events (Sees e ∷ es) = e ∷ hall_events es
hall_events (AsksSettling limit ∷ es) = hall_events es

hall_events_append : (es : List Event) (fs : List SessionEvent) → hall_events (map Sees es ++ fs) ≡ es ++ hall_events fs
unfolding hall_events
hall_events_append [] fs = refl
hall_events_append (e ∷ es) fs = ap (λ (xs : List Event). e ∷ xs) (hall_events_append es fs)

hall_view_from : (n : ℕ) (h : HallLedger) (os : List SeatedOrder) → hall_events (seen_from n h os) ≡ view_from n h (calls_through_all os)
unfolding hall_events seen_from seen_of view_from calls_through_all hall_from
hall_view_from n h [] = refl
hall_view_from n h (Unread ∷ os) = hall_view_from n h os
hall_view_from n h (Makes s c ∷ os) =
    let m : Seated = record { seat = s; call = c } in
    hall_events_append (shown n h m) (seen_from n (hall_step h m) os) ∙ ap (λ (es : List Event). shown n h m ++ es) (hall_view_from n (hall_step h m) os)
hall_view_from n h (Settles s limit ∷ os) = go (own_seat n s) ∙ hall_view_from n h os
  where
    go : (b : Bool) → hall_events (cond b (AsksSettling limit ∷ []) [] ++ seen_from n h os) ≡ hall_events (seen_from n h os)
    go true = refl
    go false = refl

-- a session's view without settlings of its own is the view of the run of calls through seats that the session asks (document 02, 14)
pub hall_view : (n : ℕ) (session : List ℕ) → hall_events (session_view n session) ≡ view n (session_calls session)
unfolding session_view view session_calls
hall_view n session = hall_view_from n fresh_hall (session_orders session)

-- ---- THE PROMISE TO DEVELOPERS

pub promise_to_developers : PromiseToDevelopers
unfolding session_reading session_hall session_view sent_to
promise_to_developers n s s' e =
    let sent : sent_to n s ≡ sent_to n s' =
    sent_by_view n fresh_hall (session_orders s) ∙ ap (sent_seen n (sight n fresh_hall)) e ∙ sym (sent_by_view n fresh_hall (session_orders s')) in
    let seen : view n (session_calls s) ≡ view n (session_calls s') = sym (hall_view n s) ∙ ap hall_events e ∙ hall_view n s' in
    record {
      at_every_line = sent;
      replies = replies_sent n s ∙ ap replies_in sent ∙ sym (replies_sent n s');
      reading = ap (reading_figures (At n)) (by_view_alone n (session_calls s) (session_calls s') seen).behind;
    }

pub nothing_to_send : NothingToSend
unfolding seen_of hall_from sight_behind
nothing_to_send n h Unread e = refl
nothing_to_send n h (Makes s c) e =
    let m : Seated = record { seat = s; call = c } in
    reads_sight n (hall_step h m)
    ∙ ap reading_seen ((followed n h m).behind ∙ ap (sight_behind n (sight n h)) (none_seen (shown n h m) e))
    ∙ sym (reads_sight n h)
  where
    none_seen : (es : List Event) → map Sees es ≡ [] → es ≡ []
    none_seen [] g = refl
    none_seen (x ∷ es) g = absurd (nil≢cons (sym g))
nothing_to_send n h (Settles s limit) e = refl

-- ---- lines of others that show it nothing

-- through others' seats, and not for it, whatever their lists hold; openings and closings apart
pub others_lines_unseen :
    (n : ℕ) (h : HallLedger) (s : Seat) (c : Call) → own_seat n s ≡ false → is_for n c ≡ false → moves_clock c ≡ false → seen_of n h (Makes s c) ≡ []
unfolding seen_of
others_lines_unseen n h s c o f k = ap (map Sees) (others_unseen n h (record { seat = s; call = c }) o f k)

pub others_settlings_unseen : (n : ℕ) (h : HallLedger) (s : Seat) (limit : ℕ) → own_seat n s ≡ false → seen_of n h (Settles s limit) ≡ []
unfolding seen_of
others_settlings_unseen n h s limit o = rw o
