-- A session is the state: a host appends each line to it and asks. What stands behind a session that ends with 0A leaves all that was replied and sent
-- before it; and what developer n is sent at a line is the reply to that line and what `session_reading` gives it once the line is appended.
use Rattle.std.specs.Prelude.{ℕ, ◌≡◌, refl}
use Rattle.std.proofs.Common.{sym, ◌∙◌}
use Rattle.std.proofs.Math.Path.{ap}
use mathlib.Core.List.{List, [], ◌∷◌, ◌++◌, map, append_assoc, append-nil}
use Rattle.rules_numbers.specs.ListLaws.{Each, in_map}
use Rattle.rules_format.specs.Lines.{lines}
use Rattle.rules_format.specs.LineLaws.{lines_behind}
use Rattle.rules_seats.specs.Seats.{At, HallLedger, fresh_hall, Seated, hall_from, hall_ledger, reading}
use Rattle.rules_seats.specs.SeatLaws.{hall_from_append}
use Rattle.rules_seats.specs.figures.Figures.{reading_figures}
use Rattle.rules_seats.specs.sessions.Sessions.{SeatedOrder, seated_order_in, session_orders, calls_through, calls_through_all, session_calls, session_hall}
use Rattle.rules_seats.specs.sessions.Sessions.{seated_reply, seated_replies, session_reply_lines}
use Rattle.rules_seats.specs.sessions.SessionFigures.{session_reading}
use Rattle.rules_seats.specs.sessions.SessionViews.{SessionEvent, Sent, seen_of, sent_as, sent_at, sent_from, sent_to}

map_append : (ls ks : List (List ℕ)) → map seated_order_in (ls ++ ks) ≡ map seated_order_in ls ++ map seated_order_in ks
map_append [] ks = refl
map_append (l ∷ ls) ks = ap (λ (os : List SeatedOrder). seated_order_in l ∷ os) (map_append ls ks)

calls_append : (os ps : List SeatedOrder) → calls_through_all (os ++ ps) ≡ calls_through_all os ++ calls_through_all ps
unfolding calls_through_all
calls_append [] ps = refl
calls_append (o ∷ os) ps =
    ap (λ (ms : List Seated). calls_through o ++ ms) (calls_append os ps) ∙ sym (append_assoc (calls_through o) (calls_through_all os) (calls_through_all ps))

replies_append :
    (h : HallLedger) (os ps : List SeatedOrder) → seated_replies h (os ++ ps) ≡ seated_replies h os ++ seated_replies (hall_from h (calls_through_all os)) ps
unfolding seated_replies calls_through_all hall_from
replies_append h [] ps = refl
replies_append h (o ∷ os) ps =
    let next : HallLedger = hall_from h (calls_through o) in
    ap (λ (rs : List (List ℕ)). seated_reply h.ledger o ∷ rs)
    (replies_append next os ps
    ∙ ap (λ (k : HallLedger). seated_replies next os ++ seated_replies k ps) (sym (hall_from_append h (calls_through o) (calls_through_all os))))

sent_append :
    (n : ℕ) (h : HallLedger) (os ps : List SeatedOrder) → sent_from n h (os ++ ps) ≡ sent_from n h os ++ sent_from n (hall_from h (calls_through_all os)) ps
unfolding sent_from calls_through_all hall_from
sent_append n h [] ps = refl
sent_append n h (o ∷ os) ps =
    let next : HallLedger = hall_from h (calls_through o) in
    ap (λ (xs : List Sent). sent_at n h o ++ xs)
    (sent_append n next os ps
    ∙ ap (λ (k : HallLedger). sent_from n next os ++ sent_from n k ps) (sym (hall_from_append h (calls_through o) (calls_through_all os))))
    ∙ sym (append_assoc (sent_at n h o) (sent_from n next os) (sent_from n (hall_from h (calls_through_all (o ∷ os))) ps))

module _ (session more : List ℕ) where
  abbrev ended : List ℕ
  ended = session ++ (10 ∷ [])

  orders_added : session_orders (session ++ (10 ∷ more)) ≡ session_orders ended ++ session_orders more
  unfolding session_orders
  orders_added = ap (map seated_order_in) (lines_behind session more) ∙ map_append (lines ended) (lines more)

  -- the replies before stay, and the others are those from the hall behind the session on
  pub replies_added : session_reply_lines (session ++ (10 ∷ more)) ≡ session_reply_lines ended ++ seated_replies (session_hall ended) (session_orders more)
  unfolding session_reply_lines session_hall session_calls hall_ledger
  replies_added = ap (seated_replies fresh_hall) orders_added ∙ replies_append fresh_hall (session_orders ended) (session_orders more)

  -- and so does what developer n was sent
  pub sent_added : (n : ℕ) → sent_to n (session ++ (10 ∷ more)) ≡ sent_to n ended ++ sent_from n (session_hall ended) (session_orders more)
  unfolding sent_to session_hall session_calls hall_ledger
  sent_added n = ap (sent_from n fresh_hall) orders_added ∙ sent_append n fresh_hall (session_orders ended) (session_orders more)

  pub hall_added : session_hall (session ++ (10 ∷ more)) ≡ hall_from (session_hall ended) (calls_through_all (session_orders more))
  unfolding session_hall session_calls hall_ledger
  hall_added =
      ap (λ (os : List SeatedOrder). hall_from fresh_hall (calls_through_all os)) orders_added
      ∙ ap (hall_from fresh_hall) (calls_append (session_orders ended) (session_orders more))
      ∙ hall_from_append fresh_hall (calls_through_all (session_orders ended)) (calls_through_all (session_orders more))

-- ---- one line appended

module _ (session line : List ℕ) (one : lines line ≡ line ∷ []) where
  abbrev before : HallLedger
  before = session_hall (session ++ (10 ∷ []))

  abbrev asks : SeatedOrder
  asks = seated_order_in line

  line_orders : session_orders line ≡ asks ∷ []
  unfolding session_orders
  line_orders = ap (map seated_order_in) one

  -- its reply stands behind those before
  pub line_replied : session_reply_lines (session ++ (10 ∷ line)) ≡ session_reply_lines (session ++ (10 ∷ [])) ++ (seated_reply before.ledger asks ∷ [])
  unfolding seated_replies
  line_replied =
      replies_added session line
      ∙ ap (λ (os : List SeatedOrder). session_reply_lines (session ++ (10 ∷ [])) ++ seated_replies before os) line_orders

  -- what it sends developer n stands behind what was sent before
  pub line_sent : (n : ℕ) → sent_to n (session ++ (10 ∷ line)) ≡ sent_to n (session ++ (10 ∷ [])) ++ sent_at n before asks
  unfolding sent_from
  line_sent n =
      sent_added session line n
      ∙ ap (λ (os : List SeatedOrder). sent_to n (session ++ (10 ∷ [])) ++ sent_from n before os) line_orders
      ∙ ap (λ (xs : List Sent). sent_to n (session ++ (10 ∷ [])) ++ xs) (append-nil (sent_at n before asks))

  -- with the numbers that it then reads
  pub line_read : (n : ℕ) → Each (λ x. x.figures ≡ session_reading (session ++ (10 ∷ line)) 2 n) (sent_at n before asks)
  unfolding sent_at session_reading calls_through_all
  line_read n x m =
      let h : session_hall (session ++ (10 ∷ line)) ≡ hall_from before (calls_through asks) =
      hall_added session line ∙ ap (λ (os : List SeatedOrder). hall_from before (calls_through_all os)) line_orders
      ∙ ap (hall_from before) (append-nil (calls_through asks)) in
      let send : SessionEvent → Sent =
      sent_as (seated_reply before.ledger asks) (reading_figures (At n) (reading (hall_from before (calls_through asks)) (At n))) in
      let r = (in_map send x (seen_of n before asks)).0 m in
      ap (λ (y : Sent). y.figures) r.2 ∙ ap (λ (g : HallLedger). reading_figures (At n) (reading g (At n))) (sym h)
