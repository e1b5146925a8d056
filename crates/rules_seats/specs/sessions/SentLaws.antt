-- What developer n is sent at each line of a session, from its sight of the hall alone: the reply to a call through a seat is the text of the hall's
-- answer to it, and what the call shows is told as in the hall (ViewLaws). The replies to its own lines are those that it is sent.
use Rattle.std.specs.Prelude.{ℕ, ◌≡◌, refl, Bool, true, false, cond, ◌&&◌, eqb}
use Rattle.std.proofs.Common.{sym, ap, ap₂, ◌∙◌}
use Rattle.std.proofs.lemmas.Bool.{false≢true}
use mathlib.Core.List.{List, [], ◌∷◌, ◌++◌, map, flatten, append_assoc}
use Rattle.rules_auction.specs.Ledger.{Call}
use Rattle.rules_auction.specs.Rounds.{Answered, answer, bare_answer}
use Rattle.rules_replies.specs.Orders.{Asks}
use Rattle.rules_replies.specs.Replies.{call_kind, closing_text, answer_line, reply_to}
use Rattle.rules_seats.specs.Seats.{Seat, Auctioneer, Auditor, At, may_make, may_settle, HallLedger, fresh_hall, Seated, hall_answer, hall_step, hall_from}
use Rattle.rules_seats.specs.Seats.{published, Reading, reading}
use Rattle.rules_seats.specs.Views.{Event, Asked, ForIt, Changed, same_values, own_seat, is_for, asked_by, made_for, changes, shown, Moment, answers_at}
use Rattle.rules_seats.specs.Views.{moment_of, moments}
use Rattle.rules_seats.specs.Sights.{Sight, sight, reading_seen, reads_sight, sight_after, sight_behind, moment_seen, moments_seen}
use Rattle.rules_seats.specs.ViewLaws.{followed}
use Rattle.rules_seats.specs.figures.Figures.{reading_figures}
use Rattle.rules_seats.specs.sessions.Sessions.{SeatedOrder, Unread, Makes, Settles, calls_through, session_orders, barred_line, seated_reply, seated_replies}
use Rattle.rules_seats.specs.sessions.Sessions.{session_reply_lines, replies_to_those}
use Rattle.rules_seats.specs.sessions.SessionReplyLaws.{barred_settling}
use Rattle.rules_seats.specs.sessions.SessionViews.{SessionEvent, Sees, AsksSettling, seen_of, seen_from, is_own, own_replies, Sent, own_event, sent_as}
use Rattle.rules_seats.specs.sessions.SessionViews.{sent_at, sent_from, sent_to}

-- ---- the reply to a call is the text of its answer

abbrev answered_line : Call → Answered → List ℕ
answered_line c r = answer_line (call_kind c) r.number (cond (eqb (call_kind c) 5) (closing_text r) [])

pub reply_of_answer : (h : HallLedger) (s : Seat) (c : Call) →
    seated_reply h.ledger (Makes s c) ≡ answered_line c (hall_answer h (record { seat = s; call = c }))
unfolding seated_reply hall_answer reply_to answer_line
reply_of_answer h s c = go (may_make s c)
  where
    go : (b : Bool) → cond b (reply_to h.ledger (Asks c)) (barred_line (call_kind c)) ≡ answered_line c (cond b (answer h.ledger c) (bare_answer 20))
    go true = refl
    go false = refl

-- a developer's settling is refused by 20
own_settling : (n : ℕ) (s : Seat) → own_seat n s ≡ true → may_settle s ≡ false
unfolding own_seat
own_settling n Auctioneer e = absurd (false≢true e)
own_settling n Auditor e = absurd (false≢true e)
own_settling n (At k) e = refl

-- ---- what is sent, from its sight

abbrev replies_at : Event → List Answered → List (List ℕ)
replies_at (Asked c) rs = map (answered_line c) rs
replies_at (ForIt c) rs = []
replies_at (Changed p) rs = []

abbrev sent_of : ℕ → Moment → Sent
sent_of n p = record { event = Sees p.event; replies = replies_at p.event p.answers; figures = reading_figures (At n) p.reads }

unfoldable pub sent_seen : ℕ → Sight → List SessionEvent → List Sent
sent_seen n s [] = []
sent_seen n s (Sees e ∷ es) = sent_of n (moment_seen n s e) ∷ sent_seen n (sight_after n s e) es
sent_seen n s (AsksSettling limit ∷ es) = sent_as (barred_line 6) (reading_figures (At n) (reading_seen s)) (AsksSettling limit) ∷ sent_seen n s es

sent_seen_append :
    (n : ℕ) (s : Sight) (es : List Event) (fs : List SessionEvent) →
    sent_seen n s (map Sees es ++ fs) ≡ map (sent_of n) (moments_seen n s es) ++ sent_seen n (sight_behind n s es) fs
unfolding sent_seen moments_seen sight_behind
sent_seen_append n s [] fs = refl
sent_seen_append n s (e ∷ es) fs = ap (λ (xs : List Sent). sent_of n (moment_seen n s e) ∷ xs) (sent_seen_append n (sight_after n s e) es fs)

-- what a call's line sends are its moments
sent_moments :
    (n : ℕ) (h : HallLedger) (s : Seat) (c : Call) → sent_at n h (Makes s c) ≡ map (sent_of n) (moments n h (record { seat = s; call = c }))
unfolding sent_at seen_of moments shown asked_by made_for changes answers_at hall_from own_event
sent_moments n h s c =
    ap (λ (r : List ℕ). map (sent_as r (reading_figures (At n) reads)) (seen_of n h (Makes s c))) (reply_of_answer h s c)
    ∙ go (own_seat n s) (is_for n c && eqb (hall_answer h m).number 0) (same_values (published h) (published (hall_step h m)))
  where
    m : Seated
    m = record { seat = s; call = c }

    reads : Reading
    reads = reading (hall_step h m) (At n)

    events : Bool → Bool → Bool → List Event
    events a b d = cond a (Asked c ∷ []) [] ++ (cond b (ForIt c ∷ []) [] ++ cond d [] (Changed (published (hall_step h m)) ∷ []))

    go :
        (a b d : Bool) →
        map (sent_as (answered_line c (hall_answer h m)) (reading_figures (At n) reads)) (map Sees (events a b d))
        ≡ map (sent_of n) (map (moment_of (hall_answer h m) reads) (events a b d))
    go true true true = refl
    go true true false = refl
    go true false true = refl
    go true false false = refl
    go false true true = refl
    go false true false = refl
    go false false true = refl
    go false false false = refl

pub sent_by_view : (n : ℕ) (h : HallLedger) (os : List SeatedOrder) → sent_from n h os ≡ sent_seen n (sight n h) (seen_from n h os)
unfolding sent_from seen_from sent_seen sent_at seen_of hall_from own_event
sent_by_view n h [] = refl
sent_by_view n h (Unread ∷ os) = sent_by_view n h os
sent_by_view n h (Makes s c ∷ os) =
    let m : Seated = record { seat = s; call = c } in
    let f = followed n h m in
    let rest = seen_from n (hall_step h m) os in
    ap₂ (λ (xs ys : List Sent). xs ++ ys) (sent_moments n h s c ∙ ap (map (sent_of n)) f.told)
    (sent_by_view n (hall_step h m) os ∙ ap (λ (x : Sight). sent_seen n x rest) f.behind)
    ∙ sym (sent_seen_append n (sight n h) (shown n h m) rest)
sent_by_view n h (Settles s limit ∷ os) = go (own_seat n s) refl (sent_by_view n h os)
  where
    figures : List ℕ
    figures = reading_figures (At n) (reading h (At n))

    reply : List ℕ
    reply = seated_reply h.ledger (Settles s limit)

    more : List SessionEvent
    more = seen_from n h os

    go :
        (b : Bool) → own_seat n s ≡ b → sent_from n h os ≡ sent_seen n (sight n h) more →
        map (sent_as reply figures) (cond b (AsksSettling limit ∷ []) [])
        ++ sent_from n h os ≡ sent_seen n (sight n h) (cond b (AsksSettling limit ∷ []) [] ++ more)
    go false o e = e
    go true o e =
        ap₂ (λ (r fs : List ℕ). sent_as r fs (AsksSettling limit) ∷ sent_from n h os)
        (barred_settling h s limit (own_settling n s o)) (ap (reading_figures (At n)) (reads_sight n h))
        ∙ ap (λ (xs : List Sent). sent_as (barred_line 6) (reading_figures (At n) (reading_seen (sight n h))) (AsksSettling limit) ∷ xs) e

-- ---- the replies to its own lines are those that it is sent

abbrev pub replies_in : List Sent → List (List ℕ)
replies_in xs = flatten (map (λ x. x.replies) xs)

replies_in_append : (xs ys : List Sent) → replies_in (xs ++ ys) ≡ replies_in xs ++ replies_in ys
unfolding flatten
replies_in_append [] ys = refl
replies_in_append (x ∷ xs) ys =
    ap (λ (rs : List (List ℕ)). x.replies ++ rs) (replies_in_append xs ys) ∙ sym (append_assoc x.replies (replies_in xs) (replies_in ys))

own_sent : (n : ℕ) (h : HallLedger) (o : SeatedOrder) → replies_in (sent_at n h o) ≡ cond (is_own n o) (seated_reply h.ledger o ∷ []) []
unfolding sent_at seen_of is_own own_event shown asked_by made_for changes flatten
own_sent n h Unread = refl
own_sent n h (Makes s c) =
    go (own_seat n s) (is_for n c && eqb (hall_answer h m).number 0) (same_values (published h) (published (hall_step h m)))
  where
    m : Seated
    m = record { seat = s; call = c }

    reply : List ℕ
    reply = seated_reply h.ledger (Makes s c)

    figures : List ℕ
    figures = reading_figures (At n) (reading (hall_from h (m ∷ [])) (At n))

    go :
        (a b d : Bool) →
        replies_in (map (sent_as reply figures)
        (map Sees (cond a (Asked c ∷ []) [] ++ (cond b (ForIt c ∷ []) [] ++ cond d [] (Changed (published (hall_step h m)) ∷ [])))))
        ≡ cond a (reply ∷ []) []
    go true true true = refl
    go true true false = refl
    go true false true = refl
    go true false false = refl
    go false true true = refl
    go false true false = refl
    go false false true = refl
    go false false false = refl
own_sent n h (Settles s limit) = go (own_seat n s)
  where
    reply : List ℕ
    reply = seated_reply h.ledger (Settles s limit)

    figures : List ℕ
    figures = reading_figures (At n) (reading (hall_from h []) (At n))

    go : (a : Bool) → replies_in (map (sent_as reply figures) (cond a (AsksSettling limit ∷ []) [])) ≡ cond a (reply ∷ []) []
    go true = refl
    go false = refl

own_replies_sent : (n : ℕ) (h : HallLedger) (os : List SeatedOrder) → replies_to_those (is_own n) os (seated_replies h os) ≡ replies_in (sent_from n h os)
unfolding replies_to_those seated_replies sent_from flatten
own_replies_sent n h [] = refl
own_replies_sent n h (o ∷ os) =
    go (is_own n o) (own_replies_sent n next os)
    ∙ ap (λ (rs : List (List ℕ)). rs ++ replies_in (sent_from n next os)) (sym (own_sent n h o))
    ∙ sym (replies_in_append (sent_at n h o) (sent_from n next os))
  where
    next : HallLedger
    next = hall_from h (calls_through o)

    reply : List ℕ
    reply = seated_reply h.ledger o

    go : (b : Bool) {xs ys : List (List ℕ)} → xs ≡ ys → cond b (reply ∷ xs) xs ≡ cond b (reply ∷ []) [] ++ ys
    go true e = ap (λ (rs : List (List ℕ)). reply ∷ rs) e
    go false e = e

pub replies_sent : (n : ℕ) (session : List ℕ) → own_replies n session ≡ replies_in (sent_to n session)
unfolding own_replies session_reply_lines sent_to
replies_sent n session = own_replies_sent n fresh_hall (session_orders session)
