-- The figures of the auction that a record leaves behind, for C: `record_state`, `record_preview` (document 02, 6), `record_curve` (9) and
-- `record_settlement` (demand 3), for every record and whatever numbers and bytes were lent. What each returns and leaves stands in FiguresReturned and
-- SettlementReturned, over the calls that the record asks. Each call asks nothing and meets its contract.
use Rattle.std.specs.Prelude.{ℕ, ◌≡◌, List}
use contract.Lifetimes.{Lfts}
use denote.Triple.Clauses.{AtExit}
use borrow.Fn.World.{ArgsD}
use borrow.Fn.Kinds.{ended_of}
use Rattle.rules_auction.specs.Ledger.{Call, Ledger}
use Rattle.rules_auction.specs.Rounds.{ledger}
use Rattle.rules_replies.specs.record_calls.Calls.{calls_in}
use Rattle.rules_seats.specs.figures.Figures.{record_hall, record_state}
use Rattle.record_figures.specs.Told.{TellsState, TellsPreview, TellsCurve, TellsSettlement}
use Rattle.statement.specs.calls_of_c.FiguresReturned.{StateReturned, state_returned, state_determined, PreviewReturned, preview_returned}
use Rattle.statement.specs.calls_of_c.FiguresReturned.{preview_determined, CurveReturned, curve_returned, curve_determined}
use Rattle.statement.specs.calls_of_c.SettlementReturned.{SettlementReturned, settlement_returned, settlement_determined}
use Rattle.host.specs.contracts.record_state.{signature as state_signature}
use Rattle.host.specs.contracts.record_preview.{signature as preview_signature}
use Rattle.host.specs.contracts.record_curve.{signature as curve_signature}
use Rattle.host.specs.contracts.record_settlement.{signature as settlement_signature}
use Rattle.host.proofs.record_state.Kinds as state_kinds
use Rattle.host.proofs.record_preview.Kinds as preview_kinds
use Rattle.host.proofs.record_curve.Kinds as curve_kinds
use Rattle.host.proofs.record_settlement.Kinds as settlement_kinds
use Rattle.host.proofs.record_state.Reads as state_reads
use Rattle.host.proofs.record_preview.Reads as preview_reads
use Rattle.host.proofs.record_curve.Reads as curve_reads
use Rattle.host.proofs.record_settlement.Reads as settlement_reads
use Rattle.host.proofs.record_state.Statement as state_states
use Rattle.host.proofs.record_preview.Statement as preview_states
use Rattle.host.proofs.record_curve.Statement as curve_states
use Rattle.host.proofs.record_settlement.Statement as settlement_states
use Rattle.host.proofs.record_state.Met as state_met
use Rattle.host.proofs.record_preview.Met as preview_met
use Rattle.host.proofs.record_curve.Met as curve_met
use Rattle.host.proofs.record_settlement.Met as settlement_met

pub record FiguresMeet (M : Type 1) : Type 2 where
  pub record_state_lem : state_states.statement M
  pub record_preview_lem : preview_states.statement M
  pub record_curve_lem : curve_states.statement M
  pub record_settlement_lem : settlement_states.statement M

pub record FiguresAsk : Type 1 where
  pub record_state_lem : (κs : Lfts 2) (x : ArgsD state_signature κs) → state_reads.Pre κs x × state_reads.Asked κs x
  pub record_preview_lem : (κs : Lfts 2) (x : ArgsD preview_signature κs) → preview_reads.Pre κs x × preview_reads.Asked κs x
  pub record_curve_lem : (κs : Lfts 2) (x : ArgsD curve_signature κs) → curve_reads.Pre κs x × curve_reads.Asked κs x
  pub record_settlement_lem : (κs : Lfts 3) (x : ArgsD settlement_signature κs) → settlement_reads.Pre κs x × settlement_reads.Asked κs x

-- the arguments x: the record; of a settlement the limit; the lent numbers; of a settlement the lent bytes; y: the same at the call's end
pub record FiguresReturn : Type 1 where
  pub record_state_lem :
      (κs : Lfts 2) (x : ArgsD state_signature κs) (r : ℕ) (y : AtExit (ended_of 2 state_kinds.ps state_kinds.r) κs) → state_reads.Post κs x r y →
      StateReturned (calls_in x.0.now) x.1.0.now y.1.0.now r
  pub record_preview_lem :
      (κs : Lfts 2) (x : ArgsD preview_signature κs) (r : ℕ) (y : AtExit (ended_of 2 preview_kinds.ps preview_kinds.r) κs) → preview_reads.Post κs x r y →
      PreviewReturned (ledger (calls_in x.0.now)) x.1.0.now y.1.0.now r
  pub record_curve_lem :
      (κs : Lfts 2) (x : ArgsD curve_signature κs) (r : ℕ) (y : AtExit (ended_of 2 curve_kinds.ps curve_kinds.r) κs) → curve_reads.Post κs x r y →
      CurveReturned (ledger (calls_in x.0.now)) x.1.0.now y.1.0.now r
  pub record_settlement_lem :
      (κs : Lfts 3) (x : ArgsD settlement_signature κs) (r : ℕ) (y : AtExit (ended_of 3 settlement_kinds.ps settlement_kinds.r) κs) →
      settlement_reads.Post κs x r y →
      SettlementReturned (ledger (calls_in x.0.now)) x.1.0 x.1.1.0.now y.1.1.0.now x.1.1.1.0.now y.1.1.1.0.now r

pub record RecordFiguresExported (M : Type 1) : Type 2 where
  pub meets : FiguresMeet M
  pub asks : FiguresAsk
  pub returns : FiguresReturn
  -- what is stated leaves nothing free
  pub state_determined :
      (cs : List Call) (old new new' : List ℕ) (r r' : ℕ) → StateReturned cs old new r → StateReturned cs old new' r' → (r ≡ r') × (new ≡ new')
  pub preview_determined :
      (l : Ledger) (old new new' : List ℕ) (r r' : ℕ) → PreviewReturned l old new r → PreviewReturned l old new' r' → (r ≡ r') × (new ≡ new')
  pub curve_determined :
      (l : Ledger) (old new new' : List ℕ) (r r' : ℕ) → CurveReturned l old new r → CurveReturned l old new' r' → (r ≡ r') × (new ≡ new')
  pub settlement_determined :
      (l : Ledger) (limit : ℕ) (old_f new_f new_f' old_a new_a new_a' : List ℕ) (r r' : ℕ) → SettlementReturned l limit old_f new_f old_a new_a r →
      SettlementReturned l limit old_f new_f' old_a new_a' r' → (r ≡ r') × (new_f ≡ new_f') × (new_a ≡ new_a')

-- ---- together

state_told : (bytes old new : List ℕ) (r : ℕ) → TellsState bytes old new r → StateReturned (calls_in bytes) old new r
unfolding record_state record_hall
state_told bytes old new r w = state_returned (calls_in bytes) old new r w.number w.lent

preview_told : (l : Ledger) (old new : List ℕ) (r : ℕ) → TellsPreview l old new r → PreviewReturned l old new r
preview_told l old new r w = preview_returned l old new r w.number w.lent

curve_told : (l : Ledger) (old new : List ℕ) (r : ℕ) → TellsCurve l old new r → CurveReturned l old new r
curve_told l old new r w = curve_returned l old new r w.number w.lent

settlement_told : (cs : List Call) (limit : ℕ) (old_f new_f old_a new_a : List ℕ) (r : ℕ) → TellsSettlement (ledger cs) limit old_f new_f old_a new_a r →
    SettlementReturned (ledger cs) limit old_f new_f old_a new_a r
settlement_told cs limit old_f new_f old_a new_a r w = settlement_returned cs limit old_f new_f old_a new_a r w.number w.lent w.awards

figures_meet : {M : Type 1} → FiguresMeet M
figures_meet = record {
  record_state_lem = state_met.met;
  record_preview_lem = preview_met.met;
  record_curve_lem = curve_met.met;
  record_settlement_lem = settlement_met.met;
}

figures_ask : FiguresAsk
figures_ask = record {
  record_state_lem = λ κs x. (tt, tt);
  record_preview_lem = λ κs x. (tt, tt);
  record_curve_lem = λ κs x. (tt, tt);
  record_settlement_lem = λ κs x. (tt, tt);
}

figures_return : FiguresReturn
figures_return = record {
  record_state_lem = λ κs x r y w. state_told _ _ _ r w;
  record_preview_lem = λ κs x r y w. preview_told _ _ _ r w;
  record_curve_lem = λ κs x r y w. curve_told _ _ _ r w;
  record_settlement_lem = λ κs x r y w. settlement_told (calls_in x.0.now) _ _ _ _ _ r w;
}

pub record_figures_exported : {M : Type 1} → RecordFiguresExported M
record_figures_exported = record {
  meets = figures_meet;
  asks = figures_ask;
  returns = figures_return;
  state_determined = state_determined;
  preview_determined = preview_determined;
  curve_determined = curve_determined;
  settlement_determined = settlement_determined;
}
