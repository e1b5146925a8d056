-- Sessions for C (document 02, 14; docs/FORMAT.md, sessions): calls through seats over bytes, for every session, kind of seat and number, and whatever
-- was lent. A seat has what is stated of the auction itself, over the session's plain record, or 20 without the right; and THE PROMISE TO DEVELOPERS holds
-- for what a server sends them (DevelopersPromised). Each call asks nothing and meets its contract.
use Rattle.std.specs.Prelude.{ℕ, ◌≡◌, List, []}
use contract.Lifetimes.{Lfts}
use denote.Triple.Clauses.{AtExit}
use borrow.Fn.World.{ArgsD}
use borrow.Fn.Kinds.{ended_of}
use Rattle.record_figures.specs.Told.{TellsReading, TellsPreviewThrough, TellsCurveThrough, TellsSettlementThrough}
use Rattle.host.specs.Forcing.{TellsForcingThrough}
use Rattle.host.specs.Writing.{HostWritesSeat}
use Rattle.statement.specs.calls_of_c.SeatedReplies.{SeatedReplied, SessionReplayed, session_replayed, seated_text_determined, session_replay_determined}
use Rattle.statement.specs.calls_of_c.SeatRights.{WhoMay, who_may}
use Rattle.statement.specs.calls_of_c.SeatedFigures.{PreviewThrough, CurveThrough, SettlementThrough, ForcingThrough, preview_through, curve_through}
use Rattle.statement.specs.calls_of_c.SeatedFigures.{settlement_through, forcing_through, preview_through_determined, curve_through_determined}
use Rattle.statement.specs.calls_of_c.SeatedFigures.{forcing_through_determined, settlement_through_determined}
use Rattle.statement.specs.calls_of_c.ReadingReturned.{ReadingReturned, reading_returned, reading_determined}
use Rattle.statement.specs.calls_of_c.SeatLines.{SeatReturned, seat_returned, seat_determined, SeatsWritten, seats_written, SessionRecorded}
use Rattle.statement.specs.calls_of_c.SeatLines.{session_recorded, recorded_determined}
use Rattle.statement.specs.calls_of_c.DevelopersPromised.{DevelopersPromised, developers_promised}
use Rattle.host.specs.contracts.session_replay.{signature as replay_signature}
use Rattle.host.specs.contracts.session_reading.{signature as reading_signature}
use Rattle.host.specs.contracts.session_preview.{signature as preview_signature}
use Rattle.host.specs.contracts.session_curve.{signature as curve_signature}
use Rattle.host.specs.contracts.session_settlement.{signature as settlement_signature}
use Rattle.host.specs.contracts.session_forcing.{signature as forcing_signature}
use Rattle.host.specs.contracts.session_record.{signature as record_signature}
use Rattle.host.specs.contracts.write_seat.{signature as seat_signature}
use Rattle.host.proofs.session_replay.Kinds as replay_kinds
use Rattle.host.proofs.session_reading.Kinds as reading_kinds
use Rattle.host.proofs.session_preview.Kinds as preview_kinds
use Rattle.host.proofs.session_curve.Kinds as curve_kinds
use Rattle.host.proofs.session_settlement.Kinds as settlement_kinds
use Rattle.host.proofs.session_forcing.Kinds as forcing_kinds
use Rattle.host.proofs.session_record.Kinds as record_kinds
use Rattle.host.proofs.write_seat.Kinds as seat_kinds
use Rattle.host.proofs.session_replay.Reads as replay_reads
use Rattle.host.proofs.session_reading.Reads as reading_reads
use Rattle.host.proofs.session_preview.Reads as preview_reads
use Rattle.host.proofs.session_curve.Reads as curve_reads
use Rattle.host.proofs.session_settlement.Reads as settlement_reads
use Rattle.host.proofs.session_forcing.Reads as forcing_reads
use Rattle.host.proofs.session_record.Reads as record_reads
use Rattle.host.proofs.write_seat.Reads as seat_reads
use Rattle.host.proofs.session_replay.Statement as replay_states
use Rattle.host.proofs.session_reading.Statement as reading_states
use Rattle.host.proofs.session_preview.Statement as preview_states
use Rattle.host.proofs.session_curve.Statement as curve_states
use Rattle.host.proofs.session_settlement.Statement as settlement_states
use Rattle.host.proofs.session_forcing.Statement as forcing_states
use Rattle.host.proofs.session_record.Statement as record_states
use Rattle.host.proofs.write_seat.Statement as seat_states
use Rattle.host.proofs.session_replay.Met as replay_met
use Rattle.host.proofs.session_reading.Met as reading_met
use Rattle.host.proofs.session_preview.Met as preview_met
use Rattle.host.proofs.session_curve.Met as curve_met
use Rattle.host.proofs.session_settlement.Met as settlement_met
use Rattle.host.proofs.session_forcing.Met as forcing_met
use Rattle.host.proofs.session_record.Met as record_met
use Rattle.host.proofs.write_seat.Met as seat_met

pub record SessionsMeet (M : Type 1) : Type 2 where
  pub session_replay : replay_states.statement M
  pub session_reading_lem : reading_states.statement M
  pub session_preview_lem : preview_states.statement M
  pub session_curve_lem : curve_states.statement M
  pub session_settlement_lem : settlement_states.statement M
  pub session_forcing : forcing_states.statement M
  pub session_record_lem : record_states.statement M
  pub write_seat : seat_states.statement M

pub record SessionsAsk : Type 1 where
  pub session_replay : (κs : Lfts 2) (x : ArgsD replay_signature κs) → replay_reads.Pre κs x × replay_reads.Asked κs x
  pub session_reading_lem : (κs : Lfts 2) (x : ArgsD reading_signature κs) → reading_reads.Pre κs x × reading_reads.Asked κs x
  pub session_preview_lem : (κs : Lfts 2) (x : ArgsD preview_signature κs) → preview_reads.Pre κs x × preview_reads.Asked κs x
  pub session_curve_lem : (κs : Lfts 2) (x : ArgsD curve_signature κs) → curve_reads.Pre κs x × curve_reads.Asked κs x
  pub session_settlement_lem : (κs : Lfts 3) (x : ArgsD settlement_signature κs) → settlement_reads.Pre κs x × settlement_reads.Asked κs x
  pub session_forcing : (κs : Lfts 3) (x : ArgsD forcing_signature κs) → forcing_reads.Pre κs x × forcing_reads.Asked κs x
  pub session_record_lem : (κs : Lfts 2) (x : ArgsD record_signature κs) → record_reads.Pre κs x × record_reads.Asked κs x
  pub write_seat : (κs : Lfts 1) (x : ArgsD seat_signature κs) → seat_reads.Pre κs x × seat_reads.Asked κs x

-- the arguments x: the session; kind of seat and number; the limit, or the two developers and the prices; what is lent. Of a seat written: kind, number
-- and the bytes. y: the same at the call's end
pub record SessionsReturn : Type 1 where
  pub session_replay :
      (κs : Lfts 2) (x : ArgsD replay_signature κs) (r : ℕ) (y : AtExit (ended_of 2 replay_kinds.ps replay_kinds.r) κs) → replay_reads.Post κs x r y →
      SessionReplayed x.0.now x.1.0.now y.1.0.now r
  pub session_reading_lem :
      (κs : Lfts 2) (x : ArgsD reading_signature κs) (r : ℕ) (y : AtExit (ended_of 2 reading_kinds.ps reading_kinds.r) κs) → reading_reads.Post κs x r y →
      ReadingReturned x.0.now x.1.0 x.1.1.0 x.1.1.1.0.now y.1.1.1.0.now r
  pub session_preview_lem :
      (κs : Lfts 2) (x : ArgsD preview_signature κs) (r : ℕ) (y : AtExit (ended_of 2 preview_kinds.ps preview_kinds.r) κs) → preview_reads.Post κs x r y →
      PreviewThrough x.0.now x.1.0 x.1.1.0 x.1.1.1.0.now y.1.1.1.0.now r
  pub session_curve_lem :
      (κs : Lfts 2) (x : ArgsD curve_signature κs) (r : ℕ) (y : AtExit (ended_of 2 curve_kinds.ps curve_kinds.r) κs) → curve_reads.Post κs x r y →
      CurveThrough x.0.now x.1.0 x.1.1.0 x.1.1.1.0.now y.1.1.1.0.now r
  pub session_settlement_lem :
      (κs : Lfts 3) (x : ArgsD settlement_signature κs) (r : ℕ) (y : AtExit (ended_of 3 settlement_kinds.ps settlement_kinds.r) κs) →
      settlement_reads.Post κs x r y →
      SettlementThrough x.0.now x.1.0 x.1.1.0 x.1.1.1.0 x.1.1.1.1.0.now y.1.1.1.1.0.now
      x.1.1.1.1.1.0.now y.1.1.1.1.1.0.now r
  pub session_forcing :
      (κs : Lfts 3) (x : ArgsD forcing_signature κs) (r : ℕ) (y : AtExit (ended_of 3 forcing_kinds.ps forcing_kinds.r) κs) → forcing_reads.Post κs x r y →
      ForcingThrough x.0.now x.1.0 x.1.1.0 x.1.1.1.0 x.1.1.1.1.0 x.1.1.1.1.1.0.now
      x.1.1.1.1.1.1.0.now y.1.1.1.1.1.1.0.now r
  pub session_record_lem :
      (κs : Lfts 2) (x : ArgsD record_signature κs) (r : ℕ) (y : AtExit (ended_of 2 record_kinds.ps record_kinds.r) κs) → record_reads.Post κs x r y →
      SessionRecorded x.0.now x.1.0.now y.1.0.now r
  pub write_seat :
      (κs : Lfts 1) (x : ArgsD seat_signature κs) (r : ℕ) (y : AtExit (ended_of 1 seat_kinds.ps seat_kinds.r) κs) → seat_reads.Post κs x r y →
      SeatReturned x.0 x.1.0 x.1.1.0.now y.1.1.0.now r

-- what is stated leaves nothing free: neither the replies, line by line, nor what C gets and what was lent
pub record SessionsDetermined : Type 0 where
  pub text : (ls : List (List ℕ)) (t t' : List ℕ) → SeatedReplied [] ls t → SeatedReplied [] ls t' → t ≡ t'
  pub session_replay :
      (session old new new' : List ℕ) (r r' : ℕ) → SessionReplayed session old new r → SessionReplayed session old new' r' → (r ≡ r') × (new ≡ new')
  pub session_reading_lem :
      (session : List ℕ) (kind number : ℕ) (old new new' : List ℕ) (r r' : ℕ) → ReadingReturned session kind number old new r →
      ReadingReturned session kind number old new' r' → (r ≡ r') × (new ≡ new')
  pub session_preview_lem :
      (session : List ℕ) (kind number : ℕ) (old new new' : List ℕ) (r r' : ℕ) → PreviewThrough session kind number old new r →
      PreviewThrough session kind number old new' r' → (r ≡ r') × (new ≡ new')
  pub session_curve_lem :
      (session : List ℕ) (kind number : ℕ) (old new new' : List ℕ) (r r' : ℕ) → CurveThrough session kind number old new r →
      CurveThrough session kind number old new' r' → (r ≡ r') × (new ≡ new')
  pub session_settlement_lem :
      (session : List ℕ) (kind number limit : ℕ) (old_f new_f new_f' old_a new_a new_a' : List ℕ) (r r' : ℕ) →
      SettlementThrough session kind number limit old_f new_f old_a new_a r → SettlementThrough session kind number limit old_f new_f' old_a new_a' r' →
      (r ≡ r') × (new_f ≡ new_f') × (new_a ≡ new_a')
  pub session_forcing :
      (session : List ℕ) (kind number m n : ℕ) (ps old new new' : List ℕ) (r r' : ℕ) → ForcingThrough session kind number m n ps old new r →
      ForcingThrough session kind number m n ps old new' r' → (r ≡ r') × (new ≡ new')
  pub session_record_lem :
      (session old new new' : List ℕ) (r r' : ℕ) → SessionRecorded session old new r → SessionRecorded session old new' r' → (r ≡ r') × (new ≡ new')
  pub write_seat :
      (kind number : ℕ) (old new new' : List ℕ) (r r' : ℕ) → SeatReturned kind number old new r → SeatReturned kind number old new' r' →
      (r ≡ r') × (new ≡ new')

pub record SessionsExported (M : Type 1) : Type 2 where
  pub meets : SessionsMeet M
  pub asks : SessionsAsk
  pub returns : SessionsReturn
  pub determined : SessionsDetermined
  -- who has which right, and that every line that names a seat is written by `write_seat` and what stands behind
  pub rights : WhoMay
  pub seats_written : SeatsWritten
  -- THE PROMISE TO DEVELOPERS
  pub promised : DevelopersPromised

-- ---- together

sessions_meet : {M : Type 1} → SessionsMeet M
sessions_meet = record {
  session_replay = replay_met.met;
  session_reading_lem = reading_met.met;
  session_preview_lem = preview_met.met;
  session_curve_lem = curve_met.met;
  session_settlement_lem = settlement_met.met;
  session_forcing = forcing_met.met;
  session_record_lem = record_met.met;
  write_seat = seat_met.met;
}

sessions_ask : SessionsAsk
sessions_ask = record {
  session_replay = λ κs x. (tt, tt);
  session_reading_lem = λ κs x. (tt, tt);
  session_preview_lem = λ κs x. (tt, tt);
  session_curve_lem = λ κs x. (tt, tt);
  session_settlement_lem = λ κs x. (tt, tt);
  session_forcing = λ κs x. (tt, tt);
  session_record_lem = λ κs x. (tt, tt);
  write_seat = λ κs x. (tt, tt);
}

module _ (session : List ℕ) (kind number : ℕ) where
  reading_told : (old new : List ℕ) (r : ℕ) → TellsReading session kind number old new r → ReadingReturned session kind number old new r
  reading_told old new r w = reading_returned session kind number old new r w.number w.lent

  preview_told : (old new : List ℕ) (r : ℕ) → TellsPreviewThrough session kind number old new r → PreviewThrough session kind number old new r
  preview_told old new r w = preview_through session kind number old new r (w.number, w.lent)

  curve_told : (old new : List ℕ) (r : ℕ) → TellsCurveThrough session kind number old new r → CurveThrough session kind number old new r
  curve_told old new r w = curve_through session kind number old new r (w.number, w.lent)

  settlement_told : (limit : ℕ) (old_f new_f old_a new_a : List ℕ) (r : ℕ) → TellsSettlementThrough session kind number limit old_f new_f old_a new_a r →
      SettlementThrough session kind number limit old_f new_f old_a new_a r
  settlement_told limit old_f new_f old_a new_a r w = settlement_through session kind number limit old_f new_f old_a new_a r w.number w.lent w.awards

  forcing_told : (m n : ℕ) (ps old new : List ℕ) (r : ℕ) → TellsForcingThrough session kind number m n ps old new r →
      ForcingThrough session kind number m n ps old new r
  forcing_told m n ps old new r w = forcing_through session kind number m n ps old new r w.outcome w.buffer

seat_told : (kind number : ℕ) (old new : List ℕ) (r : ℕ) → HostWritesSeat kind number old new r → SeatReturned kind number old new r
seat_told kind number old new r w = seat_returned kind number old new r w.bytes w.buffer

sessions_return : SessionsReturn
sessions_return = record {
  session_replay = λ κs x r y q. session_replayed _ _ _ r q.0 q.1;
  session_reading_lem = λ κs x r y w. reading_told _ _ _ _ _ r w;
  session_preview_lem = λ κs x r y w. preview_told _ _ _ _ _ r w;
  session_curve_lem = λ κs x r y w. curve_told _ _ _ _ _ r w;
  session_settlement_lem = λ κs x r y w. settlement_told _ _ _ _ _ _ _ _ r w;
  session_forcing = λ κs x r y w. forcing_told _ _ _ _ _ _ _ _ r w;
  session_record_lem = λ κs x r y q. session_recorded _ _ _ r q.0 q.1;
  write_seat = λ κs x r y w. seat_told _ _ _ _ r w;
}

sessions_determined : SessionsDetermined
sessions_determined = record {
  text = seated_text_determined;
  session_replay = session_replay_determined;
  session_reading_lem = reading_determined;
  session_preview_lem = λ session kind number old new new' r r'. preview_through_determined session kind number old new new' r r';
  session_curve_lem = λ session kind number old new new' r r'. curve_through_determined session kind number old new new' r r';
  session_settlement_lem = λ session kind number limit old_f new_f new_f' old_a new_a new_a' r r'.
      settlement_through_determined session kind number limit old_f new_f new_f' old_a new_a new_a' r r';
  session_forcing = λ session kind number m n ps old new new' r r'. forcing_through_determined session kind number old new new' r r' m n ps;
  session_record_lem = recorded_determined;
  write_seat = seat_determined;
}

pub sessions_exported : {M : Type 1} → SessionsExported M
sessions_exported = record {
  meets = sessions_meet;
  asks = sessions_ask;
  returns = sessions_return;
  determined = sessions_determined;
  rights = who_may;
  seats_written = seats_written;
  promised = developers_promised;
}
