-- READ OUT, up to C: sessions, calls through seats over bytes, from the statement alone (document 02, 14; docs/FORMAT.md, sessions). Each of the eight
-- calls meets its contract and asks nothing of its arguments; equal arguments give equal numbers and leave equal ones (`same-..`). THE PROMISE TO
-- DEVELOPERS, as a server's author may take it, stands at the end.
use Rattle.std.specs.Prelude.{ℕ, ◌-◌, ◌^◌, ◌≤◌, ◌<◌, ◌≡◌, refl, ◌⊎◌, ◌↔◌, Bool, true, false, length}
use Rattle.std.proofs.Common.{ap, ◌∙◌}
use mathlib.Core.List.{List, [], ◌∷◌, ◌++◌, map, flatten, append-nil}
use contract.Lifetimes.{Lfts}
use denote.Triple.Clauses.{AtExit}
use borrow.Fn.World.{ArgsD}
use borrow.Fn.Kinds.{ended_of}
use Rattle.rules_numbers.specs.Tails.{laid}
use Rattle.rules_format.specs.Lines.{lines}
use Rattle.rules_format.specs.SessionLines.{is_seat, seat_text, writable_seat, seat_kind, seat_number, frame_in, names_seat}
use Rattle.rules_auction.specs.Ledger.{Call}
use Rattle.rules_replies.specs.Orders.{Order, Asks, Settle, order_in}
use Rattle.rules_replies.specs.Replies.{answer_line, replies}
use Rattle.rules_seats.specs.Seats.{Seat, may_conduct, may_make, may_settle, HallLedger, permitted}
use Rattle.rules_seats.specs.Views.{own_seat, is_for, moves_clock}
use Rattle.rules_seats.specs.sessions.Sessions.{seat_by, Unread, Makes, Settles, asked_through, seated_order_in, session_orders, session_entries}
use Rattle.rules_seats.specs.sessions.Sessions.{is_permitted, session_reply_lines, session_replies, replies_to_those, permitted_lines, session_record}
use Rattle.rules_seats.specs.sessions.SeatedLines.{order_kind}
use Rattle.rules_seats.specs.sessions.SessionFigures.{seat_may, session_reading}
use Rattle.rules_seats.specs.sessions.SessionReplyLaws.{reply_lines}
use Rattle.rules_seats.specs.sessions.SessionViews.{SessionEvent, seen_of, session_view, own_replies, sent_as, sent_to}
use Rattle.host.specs.contracts.session_replay.{signature as replay_signature}
use Rattle.host.specs.contracts.session_reading.{signature as reading_signature}
use Rattle.host.specs.contracts.session_preview.{signature as preview_signature}
use Rattle.host.specs.contracts.session_curve.{signature as curve_signature}
use Rattle.host.specs.contracts.session_settlement.{signature as settlement_signature}
use Rattle.host.specs.contracts.session_forcing.{signature as forcing_signature}
use Rattle.host.specs.contracts.session_record.{signature as record_signature}
use Rattle.host.specs.contracts.write_seat.{signature as seat_signature}
use Rattle.host.proofs.session_replay.Kinds as replay_kinds
use Rattle.host.proofs.session_reading.Kinds as reading_kinds
use Rattle.host.proofs.session_preview.Kinds as preview_kinds
use Rattle.host.proofs.session_curve.Kinds as curve_kinds
use Rattle.host.proofs.session_settlement.Kinds as settlement_kinds
use Rattle.host.proofs.session_forcing.Kinds as forcing_kinds
use Rattle.host.proofs.session_record.Kinds as record_kinds
use Rattle.host.proofs.write_seat.Kinds as seat_kinds
use Rattle.host.proofs.session_replay.Reads as replay_reads
use Rattle.host.proofs.session_reading.Reads as reading_reads
use Rattle.host.proofs.session_preview.Reads as preview_reads
use Rattle.host.proofs.session_curve.Reads as curve_reads
use Rattle.host.proofs.session_settlement.Reads as settlement_reads
use Rattle.host.proofs.session_forcing.Reads as forcing_reads
use Rattle.host.proofs.session_record.Reads as record_reads
use Rattle.host.proofs.write_seat.Reads as seat_reads
use Rattle.host.proofs.session_replay.Statement as replay_states
use Rattle.host.proofs.session_reading.Statement as reading_states
use Rattle.host.proofs.session_preview.Statement as preview_states
use Rattle.host.proofs.session_curve.Statement as curve_states
use Rattle.host.proofs.session_settlement.Statement as settlement_states
use Rattle.host.proofs.session_forcing.Statement as forcing_states
use Rattle.host.proofs.session_record.Statement as record_states
use Rattle.host.proofs.write_seat.Statement as seat_states
use Rattle.statement.specs.calls_of_c.HostValues.{Lent}
use Rattle.statement.specs.calls_of_c.LatestExcess.{LatestExcess}
use Rattle.statement.specs.calls_of_c.Replay.{LineReplied}
use Rattle.statement.specs.calls_of_c.SeatedReplies.{ByRight, SeatedLineReplied, permitted_by, SeatedReplied, line_first, SessionReplayed}
use Rattle.statement.specs.calls_of_c.SeatRights.{WhoMay}
use Rattle.statement.specs.calls_of_c.SeatedFigures.{plain_calls, plain_ledger, ThroughSeat, PreviewThrough, CurveThrough, SettlementThrough, ForcingThrough}
use Rattle.statement.specs.calls_of_c.ReadingReturned.{published_numbers, own_numbers, ReadingReturned}
use Rattle.statement.specs.calls_of_c.SeatLines.{SeatReturned, SeatsWritten, SessionRecorded}
use Rattle.statement.specs.calls_of_c.DevelopersPromised.{ended, added, shows_at, LineAdded, DevelopersPromised}
use Rattle.statement.specs.calls_of_c.Sessions.{SessionsMeet, SessionsAsk, SessionsReturn, SessionsDetermined, SessionsExported}
use Rattle.statement.specs.EngineCorrect.{EngineCorrect}

-- ---- calls made, as their own contracts have it: given a session, the kind of a seat and its number, and what was lent, `old`, the call gave r and
-- left `new`

pub data Replays : (session old new : List ℕ) → ℕ → Type 0 where
  replays :
      (κs : Lfts 2) (x : ArgsD replay_signature κs) (r : ℕ) (y : AtExit (ended_of 2 replay_kinds.ps replay_kinds.r) κs) → replay_reads.Post κs x r y →
      Replays x.0.now x.1.0.now y.1.0.now r

pub data Readings : (session : List ℕ) (kind number : ℕ) (old new : List ℕ) → ℕ → Type 0 where
  readings :
      (κs : Lfts 2) (x : ArgsD reading_signature κs) (r : ℕ) (y : AtExit (ended_of 2 reading_kinds.ps reading_kinds.r) κs) → reading_reads.Post κs x r y →
      Readings x.0.now x.1.0 x.1.1.0 x.1.1.1.0.now y.1.1.1.0.now r

pub data Previews : (session : List ℕ) (kind number : ℕ) (old new : List ℕ) → ℕ → Type 0 where
  previews :
      (κs : Lfts 2) (x : ArgsD preview_signature κs) (r : ℕ) (y : AtExit (ended_of 2 preview_kinds.ps preview_kinds.r) κs) → preview_reads.Post κs x r y →
      Previews x.0.now x.1.0 x.1.1.0 x.1.1.1.0.now y.1.1.1.0.now r

pub data Curves : (session : List ℕ) (kind number : ℕ) (old new : List ℕ) → ℕ → Type 0 where
  curves :
      (κs : Lfts 2) (x : ArgsD curve_signature κs) (r : ℕ) (y : AtExit (ended_of 2 curve_kinds.ps curve_kinds.r) κs) → curve_reads.Post κs x r y →
      Curves x.0.now x.1.0 x.1.1.0 x.1.1.1.0.now y.1.1.1.0.now r

pub data Settlements : (session : List ℕ) (kind number limit : ℕ) (old_f new_f old_a new_a : List ℕ) → ℕ → Type 0 where
  settlements :
      (κs : Lfts 3) (x : ArgsD settlement_signature κs) (r : ℕ) (y : AtExit (ended_of 3 settlement_kinds.ps settlement_kinds.r) κs) →
      settlement_reads.Post κs x r y →
      Settlements x.0.now x.1.0 x.1.1.0 x.1.1.1.0 x.1.1.1.1.0.now y.1.1.1.1.0.now
      x.1.1.1.1.1.0.now y.1.1.1.1.1.0.now r

pub data Forces : (session : List ℕ) (kind number m n : ℕ) (ps old new : List ℕ) → ℕ → Type 0 where
  forces :
      (κs : Lfts 3) (x : ArgsD forcing_signature κs) (r : ℕ) (y : AtExit (ended_of 3 forcing_kinds.ps forcing_kinds.r) κs) → forcing_reads.Post κs x r y →
      Forces x.0.now x.1.0 x.1.1.0 x.1.1.1.0 x.1.1.1.1.0 x.1.1.1.1.1.0.now
      x.1.1.1.1.1.1.0.now y.1.1.1.1.1.1.0.now r

pub data Records : (session old new : List ℕ) → ℕ → Type 0 where
  records :
      (κs : Lfts 2) (x : ArgsD record_signature κs) (r : ℕ) (y : AtExit (ended_of 2 record_kinds.ps record_kinds.r) κs) → record_reads.Post κs x r y →
      Records x.0.now x.1.0.now y.1.0.now r

pub data WritesSeat : (kind number : ℕ) (old new : List ℕ) → ℕ → Type 0 where
  writes_seat :
      (κs : Lfts 1) (x : ArgsD seat_signature κs) (r : ℕ) (y : AtExit (ended_of 1 seat_kinds.ps seat_kinds.r) κs) → seat_reads.Post κs x r y →
      WritesSeat x.0 x.1.0 x.1.1.0.now y.1.1.0.now r

-- ---- the parts of the statement

pub of_sessions : {M : Type 1} → EngineCorrect M → SessionsExported M
of_sessions s = s.exported.sessions

module _ {M : Type 1} (e : SessionsExported M) where
  pub sessions_meet : SessionsMeet M
  sessions_meet = e.meets

  pub sessions_ask : SessionsAsk
  sessions_ask = e.asks

  pub sessions_return : SessionsReturn
  sessions_return = e.returns

  pub sessions_decided : SessionsDetermined
  sessions_decided = e.determined

  pub who_may : WhoMay
  who_may = e.rights

  pub line_of_seat : SeatsWritten
  line_of_seat = e.seats_written

  pub developers_promised : DevelopersPromised
  developers_promised = e.promised

-- ---- each meets its contract, and asks nothing

module _ {M : Type 1} (e : SessionsMeet M) where
  pub replay_meets : replay_states.statement M
  replay_meets = e.session_replay

  pub reading_meets : reading_states.statement M
  reading_meets = e.session_reading_lem

  pub preview_meets : preview_states.statement M
  preview_meets = e.session_preview_lem

  pub curve_meets : curve_states.statement M
  curve_meets = e.session_curve_lem

  pub settlement_meets : settlement_states.statement M
  settlement_meets = e.session_settlement_lem

  pub forcing_meets : forcing_states.statement M
  forcing_meets = e.session_forcing

  pub record_meets : record_states.statement M
  record_meets = e.session_record_lem

  pub seat_meets : seat_states.statement M
  seat_meets = e.write_seat

module _ (e : SessionsAsk) where
  pub replay_asks_nothing : (κs : Lfts 2) (x : ArgsD replay_signature κs) → replay_reads.Pre κs x × replay_reads.Asked κs x
  replay_asks_nothing κs x = e.session_replay κs x

  pub reading_asks_nothing : (κs : Lfts 2) (x : ArgsD reading_signature κs) → reading_reads.Pre κs x × reading_reads.Asked κs x
  reading_asks_nothing κs x = e.session_reading_lem κs x

  pub preview_asks_nothing : (κs : Lfts 2) (x : ArgsD preview_signature κs) → preview_reads.Pre κs x × preview_reads.Asked κs x
  preview_asks_nothing κs x = e.session_preview_lem κs x

  pub curve_asks_nothing : (κs : Lfts 2) (x : ArgsD curve_signature κs) → curve_reads.Pre κs x × curve_reads.Asked κs x
  curve_asks_nothing κs x = e.session_curve_lem κs x

  pub settlement_asks_nothing : (κs : Lfts 3) (x : ArgsD settlement_signature κs) → settlement_reads.Pre κs x × settlement_reads.Asked κs x
  settlement_asks_nothing κs x = e.session_settlement_lem κs x

  pub forcing_asks_nothing : (κs : Lfts 3) (x : ArgsD forcing_signature κs) → forcing_reads.Pre κs x × forcing_reads.Asked κs x
  forcing_asks_nothing κs x = e.session_forcing κs x

  pub record_asks_nothing : (κs : Lfts 2) (x : ArgsD record_signature κs) → record_reads.Pre κs x × record_reads.Asked κs x
  record_asks_nothing κs x = e.session_record_lem κs x

  pub seat_asks_nothing : (κs : Lfts 1) (x : ArgsD seat_signature κs) → seat_reads.Pre κs x × seat_reads.Asked κs x
  seat_asks_nothing κs x = e.write_seat κs x

-- ---- what it returns, and that this leaves nothing free

module _ (e : SessionsReturn) where
  pub replay_returned : {session old new : List ℕ} {r : ℕ} → Replays session old new r → SessionReplayed session old new r
  replay_returned (replays κs x r y q) = e.session_replay κs x r y q

  pub reading_returned :
      {session : List ℕ} {kind number : ℕ} {old new : List ℕ} {r : ℕ} → Readings session kind number old new r → ReadingReturned session kind number old new r
  reading_returned (readings κs x r y q) = e.session_reading_lem κs x r y q

  pub preview_returned :
      {session : List ℕ} {kind number : ℕ} {old new : List ℕ} {r : ℕ} → Previews session kind number old new r → PreviewThrough session kind number old new r
  preview_returned (previews κs x r y q) = e.session_preview_lem κs x r y q

  pub curve_returned :
      {session : List ℕ} {kind number : ℕ} {old new : List ℕ} {r : ℕ} → Curves session kind number old new r → CurveThrough session kind number old new r
  curve_returned (curves κs x r y q) = e.session_curve_lem κs x r y q

  pub settlement_returned :
      {session : List ℕ} {kind number limit : ℕ} {old_f new_f old_a new_a : List ℕ} {r : ℕ} → Settlements session kind number limit old_f new_f old_a new_a r →
      SettlementThrough session kind number limit old_f new_f old_a new_a r
  settlement_returned (settlements κs x r y q) = e.session_settlement_lem κs x r y q

  pub forcing_returned :
      {session : List ℕ} {kind number m n : ℕ} {ps old new : List ℕ} {r : ℕ} → Forces session kind number m n ps old new r →
      ForcingThrough session kind number m n ps old new r
  forcing_returned (forces κs x r y q) = e.session_forcing κs x r y q

  pub record_returned : {session old new : List ℕ} {r : ℕ} → Records session old new r → SessionRecorded session old new r
  record_returned (records κs x r y q) = e.session_record_lem κs x r y q

  pub seat_returned : {kind number : ℕ} {old new : List ℕ} {r : ℕ} → WritesSeat kind number old new r → SeatReturned kind number old new r
  seat_returned (writes_seat κs x r y q) = e.write_seat κs x r y q

module _ (d : SessionsDetermined) where
  -- what is said of a text line by line says which one it is
  pub text_decided : (ls : List (List ℕ)) (t t' : List ℕ) → SeatedReplied [] ls t → SeatedReplied [] ls t' → t ≡ t'
  text_decided ls t t' w v = d.text ls t t' w v

  pub replay_decided :
      (session old new new' : List ℕ) (r r' : ℕ) → SessionReplayed session old new r → SessionReplayed session old new' r' → (r ≡ r') × (new ≡ new')
  replay_decided session old new new' r r' w v = d.session_replay session old new new' r r' w v

  pub record_decided :
      (session old new new' : List ℕ) (r r' : ℕ) → SessionRecorded session old new r → SessionRecorded session old new' r' → (r ≡ r') × (new ≡ new')
  record_decided session old new new' r r' w v = d.session_record_lem session old new new' r r' w v

  pub settlement_decided :
      (session : List ℕ) (kind number limit : ℕ) (old_f new_f new_f' old_a new_a new_a' : List ℕ) (r r' : ℕ) →
      SettlementThrough session kind number limit old_f new_f old_a new_a r → SettlementThrough session kind number limit old_f new_f' old_a new_a' r' →
      (r ≡ r') × (new_f ≡ new_f') × (new_a ≡ new_a')
  settlement_decided session kind number limit old_f new_f new_f' old_a new_a new_a' r r' w v =
      d.session_settlement_lem session kind number limit old_f new_f new_f' old_a new_a new_a' r r' w v

  module _ (kind number : ℕ) (old new new' : List ℕ) (r r' : ℕ) where
    pub seat_decided : SeatReturned kind number old new r → SeatReturned kind number old new' r' → (r ≡ r') × (new ≡ new')
    seat_decided w v = d.write_seat kind number old new new' r r' w v

    module _ (session : List ℕ) where
      pub reading_decided :
          ReadingReturned session kind number old new r → ReadingReturned session kind number old new' r' → (r ≡ r') × (new ≡ new')
      reading_decided w v = d.session_reading_lem session kind number old new new' r r' w v

      pub preview_decided : PreviewThrough session kind number old new r → PreviewThrough session kind number old new' r' → (r ≡ r') × (new ≡ new')
      preview_decided w v = d.session_preview_lem session kind number old new new' r r' w v

      pub curve_decided : CurveThrough session kind number old new r → CurveThrough session kind number old new' r' → (r ≡ r') × (new ≡ new')
      curve_decided w v = d.session_curve_lem session kind number old new new' r r' w v

      pub forcing_decided :
          (m n : ℕ) (ps : List ℕ) → ForcingThrough session kind number m n ps old new r → ForcingThrough session kind number m n ps old new' r' →
          (r ≡ r') × (new ≡ new')
      forcing_decided m n ps w v = d.session_forcing session kind number m n ps old new new' r r' w v

module _ {M : Type 1} (s : EngineCorrect M) where
  abbrev f : SessionsReturn
  f = sessions_return (of_sessions s)

  abbrev d : SessionsDetermined
  d = sessions_decided (of_sessions s)

  pub same_replies : {session old new new' : List ℕ} {r r' : ℕ} → Replays session old new r → Replays session old new' r' → (r ≡ r') × (new ≡ new')
  same_replies w v = replay_decided d _ _ _ _ _ _ (replay_returned f w) (replay_returned f v)

  -- whoever says a text line by line as the statement does says the replies
  pub replies_only :
      {session old new : List ℕ} {r : ℕ} → Replays session old new r → (t : List ℕ) → SeatedReplied [] (lines session) t → t ≡ session_replies session
  replies_only {session} w t v = text_decided d (lines session) t (session_replies session) v (replay_returned f w).line_by_line

  pub same_record : {session old new new' : List ℕ} {r r' : ℕ} → Records session old new r → Records session old new' r' → (r ≡ r') × (new ≡ new')
  same_record w v = record_decided d _ _ _ _ _ _ (record_returned f w) (record_returned f v)

  module _ {kind number : ℕ} {old new new' : List ℕ} {r r' : ℕ} where
    pub same_seat : WritesSeat kind number old new r → WritesSeat kind number old new' r' → (r ≡ r') × (new ≡ new')
    same_seat w v = seat_decided d _ _ _ _ _ _ _ (seat_returned f w) (seat_returned f v)

    module _ {session : List ℕ} where
      pub same_reading : Readings session kind number old new r → Readings session kind number old new' r' → (r ≡ r') × (new ≡ new')
      same_reading w v = reading_decided d _ _ _ _ _ _ _ _ (reading_returned f w) (reading_returned f v)

      pub same_preview : Previews session kind number old new r → Previews session kind number old new' r' → (r ≡ r') × (new ≡ new')
      same_preview w v = preview_decided d _ _ _ _ _ _ _ _ (preview_returned f w) (preview_returned f v)

      pub same_curve : Curves session kind number old new r → Curves session kind number old new' r' → (r ≡ r') × (new ≡ new')
      same_curve w v = curve_decided d _ _ _ _ _ _ _ _ (curve_returned f w) (curve_returned f v)

      pub same_forcing :
          {m n : ℕ} {ps : List ℕ} → Forces session kind number m n ps old new r → Forces session kind number m n ps old new' r' → (r ≡ r') × (new ≡ new')
      same_forcing w v = forcing_decided d _ _ _ _ _ _ _ _ _ _ _ (forcing_returned f w) (forcing_returned f v)

  pub same_settlement :
      {session : List ℕ} {kind number limit : ℕ} {old_f new_f new_f' old_a new_a new_a' : List ℕ} {r r' : ℕ} →
      Settlements session kind number limit old_f new_f old_a new_a r → Settlements session kind number limit old_f new_f' old_a new_a' r' →
      (r ≡ r') × (new_f ≡ new_f') × (new_a ≡ new_a')
  same_settlement w v = settlement_decided d _ _ _ _ _ _ _ _ _ _ _ _ (settlement_returned f w) (settlement_returned f v)

-- ---- a session replayed

module _ {session old new : List ℕ} {r : ℕ} (w : SessionReplayed session old new r) where
  pub replies_by_line : SeatedReplied [] (lines session) (session_replies session)
  replies_by_line = w.line_by_line

  pub replies_lent : Lent (length (session_replies session)) (session_replies session) old new r
  replies_lent = w.bytes

-- a text said of lines is the first line's reply, and the text said of the others behind the call that it asks with the right to
pub first_line :
    {cs : List Call} {line : List ℕ} {rest : List (List ℕ)} {text : List ℕ} → SeatedReplied cs (line ∷ rest) text →
    (t : List ℕ) × (more : List ℕ) × SeatedLineReplied cs (seated_order_in line) t × SeatedReplied (cs ++ permitted_by (seated_order_in line)) rest more
    × (text ≡ t ++ more)
first_line (line_first line t more w ws) = (t, more, w, ws, refl)

-- FF0C where nothing can be read
pub unread_line : (cs : List Call) (t : List ℕ) → SeatedLineReplied cs Unread t → t ≡ answer_line 255 12 []
unfolding SeatedLineReplied
unread_line cs t w = w

pub call_line : (cs : List Call) (s : Seat) (c : Call) (t : List ℕ) → SeatedLineReplied cs (Makes s c) t → ByRight (may_make s c) cs (Asks c) t
unfolding SeatedLineReplied
call_line cs s c t w = w

pub settling_line : (cs : List Call) (s : Seat) (limit : ℕ) (t : List ℕ) → SeatedLineReplied cs (Settles s limit) t → ByRight (may_settle s) cs (Settle limit) t
unfolding SeatedLineReplied
settling_line cs s limit t w = w

-- 20 without the right, else as in a record
module _ {right : Bool} {cs : List Call} {o : Order} {t : List ℕ} (w : ByRight right cs o t) where
  pub barred_line_lem : right ≡ false → t ≡ answer_line (order_kind o) 20 []
  barred_line_lem e = w.barred e

  pub rightful_line : right ≡ true → LineReplied cs o t
  rightful_line e = w.replied e

-- ---- through a seat

module _ {right : Seat → Bool} {kind number r : ℕ} {Stays Allowed : Type 0} (w : ThroughSeat right kind number r Stays Allowed) where
  pub barred_look : seat_may right kind number ≡ false → (r ≡ 2 ^ 64 - 20) × Stays
  barred_look e = w.barred e

  pub rightful_look : seat_may right kind number ≡ true → Allowed
  rightful_look e = w.allowed e

module _ (w : WhoMay) (kind number : ℕ) where
  pub who_looks : (seat_may may_conduct kind number ≡ true) ↔ ((kind ≡ 0) × (number ≡ 0))
  who_looks = w.looks kind number

  pub who_settles : (seat_may may_settle kind number ≡ true) ↔ ((kind ≤ 1) × (number ≡ 0))
  who_settles = w.settles kind number

  pub who_reads : (is_seat kind number ≡ true) ↔ (((kind ≤ 1) × (number ≡ 0)) ⊎ (kind ≡ 2))
  who_reads = w.reads kind number

module _ {session : List ℕ} {kind number : ℕ} {old new : List ℕ} {r : ℕ} (w : ReadingReturned session kind number old new r) where
  pub no_seat_reads : is_seat kind number ≡ false → (r ≡ 2 ^ 64 - 20) × (new ≡ old)
  no_seat_reads e = w.unseated e

  pub reading_excess : LatestExcess (plain_calls session) w.excess
  reading_excess = w.latest

  pub published_read : kind ≤ 1 → number ≡ 0 → Lent 4 (published_numbers (plain_ledger session) w.excess) old new r
  published_read k z = w.published k z

  pub developer_read : kind ≡ 2 →
      let figures = published_numbers (plain_ledger session) w.excess ++ own_numbers ((plain_ledger session).developers number) in
      Lent (length figures) figures old new r
  developer_read k = w.own k

-- ---- a seat written, and the plain record

module _ {kind number : ℕ} {old new : List ℕ} {r : ℕ} (w : SeatReturned kind number old new r) where
  pub seat_unwritable : writable_seat kind number ≡ false → (r ≡ 2 ^ 64 - 14) × (new ≡ old)
  seat_unwritable e = w.unwritable e

  pub seat_too_long : writable_seat kind number ≡ true → length old < 4 → (r ≡ 2 ^ 64 - 13) × (new ≡ old)
  seat_too_long e h = w.too_short e h

  pub seat_written : writable_seat kind number ≡ true → 4 ≤ length old → (r ≡ 4) × (new ≡ laid (seat_text kind number) old)
  seat_written e h = w.accepted e h

  pub asked_through_seat :
      writable_seat kind number ≡ true → (frame : List ℕ) → seated_order_in (seat_text kind number ++ frame) ≡ asked_through (seat_by kind number) (order_in frame)
  asked_through_seat e frame = w.asks_through e frame

pub every_seat_written :
    SeatsWritten → (line : List ℕ) → names_seat line ≡ true →
    (writable_seat (seat_kind line) (seat_number line) ≡ true) × (seat_text (seat_kind line) (seat_number line) ++ frame_in line ≡ line)
every_seat_written w line e = w line e

module _ {session old new : List ℕ} {r : ℕ} (w : SessionRecorded session old new r) where
  pub record_lent : Lent (length (session_record session)) (session_record session) old new r
  record_lent = w.bytes

  pub record_frames : lines (session_record session) ≡ map frame_in (permitted_lines session)
  record_frames = w.frames

  pub record_calls : plain_calls session ≡ permitted (session_entries session)
  record_calls = w.calls

  pub record_replied : replies_to_those is_permitted (session_orders session) (session_reply_lines session) ≡ reply_lines (session_record session)
  record_replied = w.replied

  pub record_text : flatten (reply_lines (session_record session)) ≡ replies (session_record session)
  record_text = w.text

-- ---- THE PROMISE TO DEVELOPERS, for a server's author

module _ (w : DevelopersPromised) (n : ℕ) where
  -- two sessions that give developer n equal views: it reads the same, is sent the same at every line, and its own lines are replied to alike
  module _ (session session' : List ℕ) (e : session_view n session ≡ session_view n session') where
    pub equal_readings :
        (old new new' : List ℕ) (r r' : ℕ) → ReadingReturned session 2 n old new r → ReadingReturned session' 2 n old new' r' → (r ≡ r') × (new ≡ new')
    equal_readings old new new' r r' x y = w.reads_the_same n session session' old new new' r r' e x y

    pub equally_sent : sent_to n session ≡ sent_to n session'
    equally_sent = w.sent_the_same n session session' e

    pub equal_replies : own_replies n session ≡ own_replies n session'
    equal_replies = w.replied_the_same n session session' e

  pub line_appended : (session line : List ℕ) → lines line ≡ line ∷ [] → LineAdded n session line
  line_appended session line one = w.line_added n session line one

  pub others_calls_unseen :
      (h : HallLedger) (s : Seat) (c : Call) → own_seat n s ≡ false → is_for n c ≡ false → moves_clock c ≡ false → seen_of n h (Makes s c) ≡ []
  others_calls_unseen h s c o a k = w.others_calls n h s c o a k

  pub others_settlings_unseen : (h : HallLedger) (s : Seat) (limit : ℕ) → own_seat n s ≡ false → seen_of n h (Settles s limit) ≡ []
  others_settlings_unseen h s limit o = w.others_settlings n h s limit o

-- a line appended to a session: its reply behind those before, as stated; what n is sent; and nothing where it shows n nothing
module _ {n : ℕ} {session line : List ℕ} (w : LineAdded n session line) where
  pub appended_reply : SeatedLineReplied (plain_calls (ended session)) (seated_order_in line) w.reply
  appended_reply = w.as_stated

  pub appended_replies : session_replies (added session line) ≡ session_replies (ended session) ++ w.reply
  appended_replies = w.replied

  pub appended_view : session_view n (added session line) ≡ session_view n (ended session) ++ shows_at n session line
  appended_view = w.viewed

  -- so there are sessions of equal views: a line that shows it nothing, appended to any
  pub nothing_seen : shows_at n session line ≡ [] → session_view n (added session line) ≡ session_view n (ended session)
  nothing_seen e =
      appended_view ∙ ap (λ (xs : List SessionEvent). session_view n (ended session) ++ xs) e ∙ append-nil (session_view n (ended session))

  pub appended_sent :
      sent_to n (added session line) ≡ sent_to n (ended session) ++ map (sent_as w.reply (session_reading (added session line) 2 n)) (shows_at n session line)
  appended_sent = w.sent

  pub nothing_appended : shows_at n session line ≡ [] → session_reading (added session line) 2 n ≡ session_reading (ended session) 2 n
  nothing_appended e = w.nothing_shown e

-- what a server gets of two such sessions for the seat of developer n, and sends it
pub equal_views_read_alike :
    {M : Type 1} → EngineCorrect M → (n : ℕ) {session session' old new new' : List ℕ} {r r' : ℕ} → session_view n session ≡ session_view n session' →
    Readings session 2 n old new r → Readings session' 2 n old new' r' → (r ≡ r') × (new ≡ new')
equal_views_read_alike s n {session} {session'} e x y =
    let t = of_sessions s in
    let f = sessions_return t in
    equal_readings (developers_promised t) n session session' e _ _ _ _ _ (reading_returned f x) (reading_returned f y)
