-- THE PROMISE TO DEVELOPERS, for the bytes that a server sends (document 02, 14; docs/FORMAT.md, sessions). A server keeps the session, appends each line
-- that a seat hands in and asks; developer n has the seat of kind 2 and number n. At a line that shows n something it is sent the reply, if the line is
-- its own, and the numbers that `session_reading` then gives it. Two sessions that give n equal views, whatever bytes they are and whatever the lines of
-- others hold, send it the same; and a line that shows it nothing leaves what it reads.
use Rattle.std.specs.Prelude.{ℕ, ◌≡◌, refl, false, length}
use Rattle.std.proofs.Common.{sym, ◌∙◌, subst}
use Rattle.std.proofs.Math.Path.{ap}
use mathlib.Core.List.{List, [], ◌∷◌, ◌++◌, map, flatten, append_assoc, append-nil}
use Rattle.rules_format.specs.Lines.{lines}
use Rattle.rules_format.specs.LineLaws.{lines_behind}
use Rattle.rules_auction.specs.Ledger.{Call}
use Rattle.rules_seats.specs.Seats.{Seat, At, HallLedger, fresh_hall, hall_from, hall_ledger, reading}
use Rattle.rules_seats.specs.SeatLaws.{hall_from_append}
use Rattle.rules_seats.specs.Views.{own_seat, is_for, moves_clock}
use Rattle.rules_seats.specs.figures.Figures.{reading_figures}
use Rattle.rules_seats.specs.sessions.Sessions.{SeatedOrder, Makes, Settles, seated_order_in, session_orders, calls_through, calls_through_all, session_calls}
use Rattle.rules_seats.specs.sessions.Sessions.{session_hall, seated_reply, session_reply_lines, session_replies}
use Rattle.rules_seats.specs.sessions.SessionFigures.{session_reading}
use Rattle.rules_seats.specs.sessions.SessionViews.{SessionEvent, seen_of, seen_from, session_view, own_replies, sent_as, sent_at, sent_to}
use Rattle.rules_seats.specs.sessions.SessionViewLaws.{promise_to_developers, nothing_to_send, others_lines_unseen, others_settlings_unseen}
use Rattle.rules_seats.specs.sessions.SessionLaws.{session_ledger_lem}
use Rattle.rules_seats.specs.sessions.AddedLines.{hall_added, line_replied, line_sent}
use Rattle.statement.specs.calls_of_c.HostValues.{Lent, lent_only}
use Rattle.statement.specs.calls_of_c.SeatedReplies.{SeatedLineReplied, seated_line}
use Rattle.statement.specs.calls_of_c.SeatedFigures.{plain_calls}
use Rattle.statement.specs.calls_of_c.ReadingReturned.{ReadingReturned, own_read}

-- ---- what is stated

-- a session whose lines have all ended, and a line appended to it
abbrev pub ended : List ℕ → List ℕ
ended session = session ++ (10 ∷ [])

abbrev pub added : List ℕ → List ℕ → List ℕ
added session line = session ++ (10 ∷ line)

-- what the line shows developer n
abbrev pub shows_at : ℕ → List ℕ → List ℕ → List SessionEvent
shows_at n session line = seen_of n (session_hall (ended session)) (seated_order_in line)

-- of a line that is appended: the bytes that `session_replay` gives are those that it gave before, and the reply behind them; the view of n grows by what
-- the line shows it; what it is sent, and the numbers that `session_reading` gives it
pub record LineAdded (n : ℕ) (session line : List ℕ) : Type 0 where
  pub reply : List ℕ
  pub as_stated : SeatedLineReplied (plain_calls (ended session)) (seated_order_in line) reply
  pub replied : session_replies (added session line) ≡ session_replies (ended session) ++ reply
  pub viewed : session_view n (added session line) ≡ session_view n (ended session) ++ shows_at n session line
  pub sent : sent_to n (added session line) ≡ sent_to n (ended session) ++ map (sent_as reply (session_reading (added session line) 2 n)) (shows_at n session line)
  pub nothing_shown : shows_at n session line ≡ [] → session_reading (added session line) 2 n ≡ session_reading (ended session) 2 n

pub record DevelopersPromised : Type 0 where
  -- two sessions with equal views: `session_reading` gives n equal numbers and, into lent numbers that are equal, writes equal ones
  pub reads_the_same :
      (n : ℕ) (session session' old new new' : List ℕ) (r r' : ℕ) → session_view n session ≡ session_view n session' →
      ReadingReturned session 2 n old new r → ReadingReturned session' 2 n old new' r' → (r ≡ r') × (new ≡ new')
  -- n is sent the same at every line that shows it something, so the replies to its own lines are the same
  pub sent_the_same : (n : ℕ) (session session' : List ℕ) → session_view n session ≡ session_view n session' → sent_to n session ≡ sent_to n session'
  pub replied_the_same : (n : ℕ) (session session' : List ℕ) → session_view n session ≡ session_view n session' → own_replies n session ≡ own_replies n session'
  pub line_added : (n : ℕ) (session line : List ℕ) → lines line ≡ line ∷ [] → LineAdded n session line
  -- lines of others that show n nothing, whatever they hold and whatever the hall: calls that are not for it and do not move the clock, and settlings
  pub others_calls :
      (n : ℕ) (h : HallLedger) (s : Seat) (c : Call) → own_seat n s ≡ false → is_for n c ≡ false → moves_clock c ≡ false → seen_of n h (Makes s c) ≡ []
  pub others_settlings : (n : ℕ) (h : HallLedger) (s : Seat) (limit : ℕ) → own_seat n s ≡ false → seen_of n h (Settles s limit) ≡ []

-- ---- by the definitions

flat_snoc : (rs : List (List ℕ)) (t : List ℕ) → flatten (rs ++ (t ∷ [])) ≡ flatten rs ++ t
unfolding flatten
flat_snoc [] t = append-nil t
flat_snoc (r ∷ rs) t = ap (λ (x : List ℕ). r ++ x) (flat_snoc rs t) ∙ sym (append_assoc r (flatten rs) t)

map_append : (ls ks : List (List ℕ)) → map seated_order_in (ls ++ ks) ≡ map seated_order_in ls ++ map seated_order_in ks
map_append [] ks = refl
map_append (l ∷ ls) ks = ap (λ (os : List SeatedOrder). seated_order_in l ∷ os) (map_append ls ks)

seen_append :
    (n : ℕ) (h : HallLedger) (os ps : List SeatedOrder) → seen_from n h (os ++ ps) ≡ seen_from n h os ++ seen_from n (hall_from h (calls_through_all os)) ps
unfolding seen_from calls_through_all hall_from
seen_append n h [] ps = refl
seen_append n h (o ∷ os) ps =
    let next : HallLedger = hall_from h (calls_through o) in
    ap (λ (xs : List SessionEvent). seen_of n h o ++ xs)
    (seen_append n next os ps
    ∙ ap (λ (k : HallLedger). seen_from n next os ++ seen_from n k ps) (sym (hall_from_append h (calls_through o) (calls_through_all os))))
    ∙ sym (append_assoc (seen_of n h o) (seen_from n next os) (seen_from n (hall_from h (calls_through_all (o ∷ os))) ps))

module _ (n : ℕ) (session line : List ℕ) (one : lines line ≡ line ∷ []) where
  abbrev before : HallLedger
  before = session_hall (ended session)

  abbrev o : SeatedOrder
  o = seated_order_in line

  -- the reply to it
  abbrev t : List ℕ
  t = seated_reply before.ledger o

  hall_behind : session_hall (added session line) ≡ hall_from before (calls_through o)
  unfolding session_orders calls_through_all
  hall_behind =
      hall_added session line
      ∙ ap (λ (ls : List (List ℕ)). hall_from before (calls_through_all (map seated_order_in ls))) one
      ∙ ap (hall_from before) (append-nil (calls_through o))

  reads_behind : session_reading (added session line) 2 n ≡ reading_figures (At n) (reading (hall_from before (calls_through o)) (At n))
  unfolding session_reading
  reads_behind = ap (λ (h : HallLedger). reading_figures (At n) (reading h (At n))) hall_behind

  reply_stated : SeatedLineReplied (plain_calls (ended session)) o t
  reply_stated = rw (session_ledger_lem (ended session)) (seated_line (plain_calls (ended session)) o)

  reply_behind : session_replies (added session line) ≡ session_replies (ended session) ++ t
  unfolding session_replies
  reply_behind = ap flatten (line_replied session line one) ∙ flat_snoc (session_reply_lines (ended session)) t

  view_behind : session_view n (added session line) ≡ session_view n (ended session) ++ shows_at n session line
  unfolding session_view session_orders session_hall session_calls hall_ledger seen_from
  view_behind =
      ap (λ (ls : List (List ℕ)). seen_from n fresh_hall (map seated_order_in ls)) (lines_behind session line)
      ∙ ap (seen_from n fresh_hall) (map_append (lines (ended session)) (lines line))
      ∙ seen_append n fresh_hall (map seated_order_in (lines (ended session))) (map seated_order_in (lines line))
      ∙ ap (λ (ls : List (List ℕ)). seen_from n fresh_hall (session_orders (ended session)) ++ seen_from n before (map seated_order_in ls)) one
      ∙ ap (λ (xs : List SessionEvent). seen_from n fresh_hall (session_orders (ended session)) ++ xs) (append-nil (shows_at n session line))

  sent_behind : sent_to n (added session line) ≡ sent_to n (ended session) ++ map (sent_as t (session_reading (added session line) 2 n)) (shows_at n session line)
  unfolding sent_at
  sent_behind =
      line_sent session line one n
      ∙ ap (λ (fs : List ℕ). sent_to n (ended session) ++ map (sent_as t fs) (shows_at n session line)) (sym reads_behind)

  nothing_behind : shows_at n session line ≡ [] → session_reading (added session line) 2 n ≡ session_reading (ended session) 2 n
  unfolding session_reading
  nothing_behind e = reads_behind ∙ ap (reading_figures (At n)) (nothing_to_send n before o e)

  line_behind : LineAdded n session line
  line_behind = record {
    reply = t;
    as_stated = reply_stated;
    replied = reply_behind;
    viewed = view_behind;
    sent = sent_behind;
    nothing_shown = nothing_behind;
  }

pub developers_promised : DevelopersPromised
developers_promised = record {
  reads_the_same = λ n session session' old new new' r r' e x y.
      let same = (promise_to_developers n session session' e).reading in
      lent_only _ _ old new new' r r' (own_read session old new r n x)
      (subst (λ (fs : List ℕ). Lent (length fs) fs old new' r') (sym same) (own_read session' old new' r' n y));
  sent_the_same = λ n session session' e. (promise_to_developers n session session' e).at_every_line;
  replied_the_same = λ n session session' e. (promise_to_developers n session session' e).replies;
  line_added = line_behind;
  others_calls = others_lines_unseen;
  others_settlings = others_settlings_unseen;
}
