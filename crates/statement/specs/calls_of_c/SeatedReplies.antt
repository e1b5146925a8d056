-- A session replayed for C (docs/FORMAT.md, sessions), for every session and every lent buffer: the replies are, line by line, FF0C to a line that names
-- no seat or whose frame is malformed; the frame's kind and 14, refusal 20, where the seat has no right; else the reply that is stated for the frame in a
-- record, behind the calls that the lines before asked with the right to. Where they fit, their number of bytes; else 2^64 less 11.
use Rattle.std.specs.Prelude.{ℕ, ◌≡◌, Bool, true, false, cond, length}
use Rattle.std.proofs.Math.Path.{refl}
use Rattle.std.proofs.Common.{sym, ap, ap₂, ◌∙◌, subst}
use mathlib.Core.List.{List, [], ◌∷◌, ◌++◌, map, flatten}
use Rattle.rules_format.specs.Lines.{lines}
use Rattle.rules_auction.specs.Ledger.{Call, Ledger}
use Rattle.rules_auction.specs.Rounds.{step_all, ledger}
use Rattle.laws_ledger.specs.reachable.Steps.{ledger_append}
use Rattle.rules_replies.specs.Orders.{Order, Asks, Settle}
use Rattle.rules_replies.specs.Replies.{answer_line, reply_to}
use Rattle.rules_seats.specs.Seats.{may_make, may_settle, HallLedger, fresh_hall, after_call, hall_step, hall_from, permitted, through_seats}
use Rattle.rules_seats.specs.sessions.Sessions.{SeatedOrder, Unread, Makes, Settles, seated_order_in, session_orders, calls_through, barred_line, seated_reply}
use Rattle.rules_seats.specs.sessions.Sessions.{seated_replies, session_reply_lines, session_replies}
use Rattle.rules_seats.specs.sessions.SeatedLines.{order_kind}
use Rattle.record_replay.specs.Replayed.{hosted, over}
use Rattle.statement.specs.calls_of_c.HostValues.{Lent, text_lent, lent_only}
use Rattle.statement.specs.calls_of_c.Replay.{LineReplied, line_replied, line_only}

-- ---- what is stated

-- t is the reply to a frame that asks o through a seat which has the right, or has not, behind the calls cs
pub record ByRight (right : Bool) (cs : List Call) (o : Order) (t : List ℕ) : Type 0 where
  pub barred : right ≡ false → t ≡ answer_line (order_kind o) 20 []
  pub replied : right ≡ true → LineReplied cs o t

-- t is the reply to a line that asks this through a seat, or nothing that can be read
unfoldable pub SeatedLineReplied : List Call → SeatedOrder → List ℕ → Type 0
SeatedLineReplied cs Unread t = t ≡ answer_line 255 12 []
SeatedLineReplied cs (Makes s c) t = ByRight (may_make s c) cs (Asks c) t
SeatedLineReplied cs (Settles s limit) t = ByRight (may_settle s) cs (Settle limit) t

-- the call that a line asks, if its seat has the right
abbrev pub permitted_by : SeatedOrder → List Call
permitted_by o = permitted (through_seats (calls_through o))

-- `SeatedReplied cs ls text`: the text is the replies to the lines ls, one behind the other, behind lines that asked the calls cs with the right to
pub data SeatedReplied : List Call → List (List ℕ) → List ℕ → Type 0 where
  no_line : {cs : List Call} → SeatedReplied cs [] []
  line_first :
      {cs : List Call} {rest : List (List ℕ)} (line t text : List ℕ) → SeatedLineReplied cs (seated_order_in line) t →
      SeatedReplied (cs ++ permitted_by (seated_order_in line)) rest text → SeatedReplied cs (line ∷ rest) (t ++ text)

-- `old` and `new` are the lent buffer before and after, r is what C gets
pub record SessionReplayed (session old new : List ℕ) (r : ℕ) : Type 0 where
  pub line_by_line : SeatedReplied [] (lines session) (session_replies session)
  pub bytes : Lent (length (session_replies session)) (session_replies session) old new r

-- ---- by the definitions

module _ (cs : List Call) where
  by_right :
      (b : Bool) (o : Order) → ByRight b cs o (cond b (reply_to (ledger cs) o) (barred_line (order_kind o)))
  by_right b o = record {
    barred = λ e. ap (λ (x : Bool). cond x (reply_to (ledger cs) o) (barred_line (order_kind o))) e;
    replied = λ e. subst (λ (x : Bool). LineReplied cs o (cond x (reply_to (ledger cs) o) (barred_line (order_kind o)))) (sym e) (line_replied cs o);
  }

  pub seated_line : (o : SeatedOrder) → SeatedLineReplied cs o (seated_reply (ledger cs) o)
  unfolding SeatedLineReplied seated_reply reply_to
  seated_line Unread = refl
  seated_line (Makes s c) = by_right (may_make s c) (Asks c)
  seated_line (Settles s limit) = by_right (may_settle s) (Settle limit)

-- the hall goes on with the ledger of the permitted calls
through_ledger : (h : HallLedger) (o : SeatedOrder) → (hall_from h (calls_through o)).ledger ≡ step_all h.ledger (permitted_by o)
unfolding hall_from hall_step permitted through_seats step_all
through_ledger h Unread = refl
through_ledger h (Makes s c) = go (may_make s c)
  where
    go : (b : Bool) → (cond b (after_call h c) h).ledger ≡ step_all h.ledger (cond b (c ∷ []) [])
    go true = refl
    go false = refl
through_ledger h (Settles s limit) = refl

module _ (cs : List Call) (h : HallLedger) (e : h.ledger ≡ ledger cs) (o : SeatedOrder) where
  reply_behind : seated_reply h.ledger o ≡ seated_reply (ledger cs) o
  reply_behind = ap (λ (l : Ledger). seated_reply l o) e

  ledger_behind_lem : (hall_from h (calls_through o)).ledger ≡ ledger (cs ++ permitted_by o)
  ledger_behind_lem = through_ledger h o ∙ ap (λ (l : Ledger). step_all l (permitted_by o)) e ∙ sym (ledger_append cs (permitted_by o))

seated_from :
    (cs : List Call) (h : HallLedger) → h.ledger ≡ ledger cs → (ls : List (List ℕ)) → SeatedReplied cs ls (flatten (seated_replies h (map seated_order_in ls)))
unfolding seated_replies flatten
seated_from cs h e [] = no_line
seated_from cs h e (line ∷ rest) =
    let o : SeatedOrder = seated_order_in line in
    let next : HallLedger = hall_from h (calls_through o) in
    line_first line (seated_reply h.ledger o) (flatten (seated_replies next (map seated_order_in rest)))
    (subst (SeatedLineReplied cs o) (sym (reply_behind cs h e o)) (seated_line cs o))
    (seated_from (cs ++ permitted_by o) next (ledger_behind_lem cs h e o) rest)

pub session_replayed :
    (session old new : List ℕ) (r : ℕ) → r ≡ hosted (session_replies session) old → new ≡ over (session_replies session) old →
    SessionReplayed session old new r
unfolding session_replies session_reply_lines session_orders ledger step_all
session_replayed session old new r e f = record {
  line_by_line = seated_from [] fresh_hall refl (lines session);
  bytes = text_lent (session_replies session) old new r e f;
}

-- ---- and nothing else is

module _ (cs : List Call) where
  by_right_only :
      (b : Bool) (o : Order) (t : List ℕ) → ByRight b cs o t → t ≡ cond b (reply_to (ledger cs) o) (barred_line (order_kind o))
  by_right_only true o t w = line_only cs o t (w.replied refl)
  by_right_only false o t w = w.barred refl

  seated_line_only : (o : SeatedOrder) (t : List ℕ) → SeatedLineReplied cs o t → t ≡ seated_reply (ledger cs) o
  unfolding SeatedLineReplied seated_reply reply_to
  seated_line_only Unread t w = w
  seated_line_only (Makes s c) t w = by_right_only (may_make s c) (Asks c) t w
  seated_line_only (Settles s limit) t w = by_right_only (may_settle s) (Settle limit) t w

seated_only :
    {cs : List Call} {ls : List (List ℕ)} {text : List ℕ} (h : HallLedger) → h.ledger ≡ ledger cs → SeatedReplied cs ls text →
    text ≡ flatten (seated_replies h (map seated_order_in ls))
unfolding seated_replies flatten
seated_only h e no_line = refl
seated_only h e (line_first {cs} {rest} line t text w ws) =
    let o : SeatedOrder = seated_order_in line in
    ap₂ ◌++◌ (seated_line_only cs o t w ∙ sym (reply_behind cs h e o)) (seated_only (hall_from h (calls_through o)) (ledger_behind_lem cs h e o) ws)

pub seated_text_determined : (ls : List (List ℕ)) (t t' : List ℕ) → SeatedReplied [] ls t → SeatedReplied [] ls t' → t ≡ t'
unfolding ledger step_all
seated_text_determined ls t t' x y = seated_only fresh_hall refl x ∙ sym (seated_only fresh_hall refl y)

pub session_replay_determined :
    (session old new new' : List ℕ) (r r' : ℕ) → SessionReplayed session old new r → SessionReplayed session old new' r' → (r ≡ r') × (new ≡ new')
session_replay_determined session old new new' r r' x y = lent_only _ _ old new new' r r' x.bytes y.bytes
