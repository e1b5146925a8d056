-- READ OUT, up to C: the figures of the auction that a record leaves behind, from the statement alone. Each of the four calls meets its contract and asks
-- nothing of its arguments; equal records and lent numbers and bytes that are equal give equal numbers and leave equal ones (`same-..`); a refusal is 2^64
-- less its number and leaves what was lent. The settlement's figures are those that the settling call itself answers after the record's calls.
use Rattle.std.specs.Prelude.{ℕ, ◌+◌, ◌-◌, ◌^◌, ◌≤◌, ◌<◌, ◌≡◌, ◌⊎◌, ◌↔◌, true, false, List, [], ◌∷◌, ◌++◌, ℤ, pos, length, Result}
use contract.Lifetimes.{Lfts}
use denote.Triple.Clauses.{AtExit}
use borrow.Fn.World.{ArgsD}
use borrow.Fn.Kinds.{ended_of}
use Rattle.rules_numbers.specs.Tails.{laid}
use Rattle.rules_auction.specs.Ledger.{Call, Close, Ledger, start}
use Rattle.rules_auction.specs.Clearing.{demand_at}
use Rattle.rules_auction.specs.Refusals.{is_closed, floor, refusal}
use Rattle.rules_auction.specs.Rounds.{supply_after, step, ledger, excess, Answered, answer}
use Rattle.rules_supply_curve.specs.Curve.{supply_curve}
use Rattle.rules_replies.specs.Replies.{twos_complement}
use Rattle.rules_replies.specs.record_calls.Calls.{calls_in}
use Rattle.rules_seats.specs.figures.Figures.{one_if, closings_from, curve_figures}
use Rattle.engine_refusals.specs.declared.Refusal.{Refusal}
use Rattle.engine_settling.specs.Settles.{settled_in}
use Rattle.engine_settling.specs.declared.Settlement.{Settlement}
use Rattle.engine_settling.specs.contracts.settle.{signature as settle_signature}
use Rattle.engine_settling.proofs.settle.Kinds as settle_kinds
use Rattle.engine_settling.proofs.settle.Reads as settle
use Rattle.host.specs.contracts.record_state.{signature as state_signature}
use Rattle.host.specs.contracts.record_preview.{signature as preview_signature}
use Rattle.host.specs.contracts.record_curve.{signature as curve_signature}
use Rattle.host.specs.contracts.record_settlement.{signature as settlement_signature}
use Rattle.host.proofs.record_state.Kinds as state_kinds
use Rattle.host.proofs.record_preview.Kinds as preview_kinds
use Rattle.host.proofs.record_curve.Kinds as curve_kinds
use Rattle.host.proofs.record_settlement.Kinds as settlement_kinds
use Rattle.host.proofs.record_state.Reads as state_reads
use Rattle.host.proofs.record_preview.Reads as preview_reads
use Rattle.host.proofs.record_curve.Reads as curve_reads
use Rattle.host.proofs.record_settlement.Reads as settlement_reads
use Rattle.host.proofs.record_state.Statement as state_states
use Rattle.host.proofs.record_preview.Statement as preview_states
use Rattle.host.proofs.record_curve.Statement as curve_states
use Rattle.host.proofs.record_settlement.Statement as settlement_states
use Rattle.statement.specs.settling.Stated.{Within, Stated}
use Rattle.statement.specs.calls_of_c.HostValues.{Given, Lent}
use Rattle.statement.specs.calls_of_c.LatestExcess.{LatestExcess}
use Rattle.statement.specs.calls_of_c.FiguresReturned.{state_numbers, StateReturned, PreviewReturned, CurveReturned}
use Rattle.statement.specs.calls_of_c.SettlementReturned.{settled_figures, SettlementGiven, SettlementUnwritten, SettlementReturned}
use Rattle.statement.specs.calls_of_c.RecordFigures.{FiguresMeet, FiguresAsk, FiguresReturn, RecordFiguresExported}
use Rattle.statement.specs.EveryList.{Run}
use Rattle.statement.specs.EngineCorrect.{EngineCorrect}

-- ---- calls made, as their own contracts have it: given this record and lent numbers `old`, the call gave r and left the numbers `new`

pub data States : (bytes old new : List ℕ) → ℕ → Type 0 where
  states :
      (κs : Lfts 2) (x : ArgsD state_signature κs) (r : ℕ) (y : AtExit (ended_of 2 state_kinds.ps state_kinds.r) κs) → state_reads.Post κs x r y →
      States x.0.now x.1.0.now y.1.0.now r

pub data Previews : (bytes old new : List ℕ) → ℕ → Type 0 where
  previews :
      (κs : Lfts 2) (x : ArgsD preview_signature κs) (r : ℕ) (y : AtExit (ended_of 2 preview_kinds.ps preview_kinds.r) κs) → preview_reads.Post κs x r y →
      Previews x.0.now x.1.0.now y.1.0.now r

pub data Curves : (bytes old new : List ℕ) → ℕ → Type 0 where
  curves :
      (κs : Lfts 2) (x : ArgsD curve_signature κs) (r : ℕ) (y : AtExit (ended_of 2 curve_kinds.ps curve_kinds.r) κs) → curve_reads.Post κs x r y →
      Curves x.0.now x.1.0.now y.1.0.now r

-- given a limit too, and lent bytes
pub data Settlements : (bytes : List ℕ) (limit : ℕ) (old_f new_f old_a new_a : List ℕ) → ℕ → Type 0 where
  settlements :
      (κs : Lfts 3) (x : ArgsD settlement_signature κs) (r : ℕ) (y : AtExit (ended_of 3 settlement_kinds.ps settlement_kinds.r) κs) →
      settlement_reads.Post κs x r y →
      Settlements x.0.now x.1.0 x.1.1.0.now y.1.1.0.now x.1.1.1.0.now y.1.1.1.0.now r

-- ---- the parts of the statement

pub of_figures : {M : Type 1} → EngineCorrect M → RecordFiguresExported M
of_figures s = s.exported.record_figures

module _ {M : Type 1} (e : RecordFiguresExported M) where
  pub figures_meet : FiguresMeet M
  figures_meet = e.meets

  pub figures_ask : FiguresAsk
  figures_ask = e.asks

  pub figures_return : FiguresReturn
  figures_return = e.returns

  pub state_decided :
      (cs : List Call) (old new new' : List ℕ) (r r' : ℕ) → StateReturned cs old new r → StateReturned cs old new' r' → (r ≡ r') × (new ≡ new')
  state_decided cs old new new' r r' w v = e.state_determined cs old new new' r r' w v

  pub preview_decided :
      (l : Ledger) (old new new' : List ℕ) (r r' : ℕ) → PreviewReturned l old new r → PreviewReturned l old new' r' → (r ≡ r') × (new ≡ new')
  preview_decided l old new new' r r' w v = e.preview_determined l old new new' r r' w v

  pub curve_decided :
      (l : Ledger) (old new new' : List ℕ) (r r' : ℕ) → CurveReturned l old new r → CurveReturned l old new' r' → (r ≡ r') × (new ≡ new')
  curve_decided l old new new' r r' w v = e.curve_determined l old new new' r r' w v

  pub settlement_decided :
      (l : Ledger) (limit : ℕ) (old_f new_f new_f' old_a new_a new_a' : List ℕ) (r r' : ℕ) → SettlementReturned l limit old_f new_f old_a new_a r →
      SettlementReturned l limit old_f new_f' old_a new_a' r' → (r ≡ r') × (new_f ≡ new_f') × (new_a ≡ new_a')
  settlement_decided l limit old_f new_f new_f' old_a new_a new_a' r r' w v = e.settlement_determined l limit old_f new_f new_f' old_a new_a new_a' r r' w v

-- ---- each meets its contract, and asks nothing

module _ {M : Type 1} (e : FiguresMeet M) where
  pub state_meets : state_states.statement M
  state_meets = e.record_state_lem

  pub preview_meets : preview_states.statement M
  preview_meets = e.record_preview_lem

  pub curve_meets : curve_states.statement M
  curve_meets = e.record_curve_lem

  pub settlement_meets : settlement_states.statement M
  settlement_meets = e.record_settlement_lem

module _ (e : FiguresAsk) where
  pub state_asks_nothing : (κs : Lfts 2) (x : ArgsD state_signature κs) → state_reads.Pre κs x × state_reads.Asked κs x
  state_asks_nothing κs x = e.record_state_lem κs x

  pub preview_asks_nothing : (κs : Lfts 2) (x : ArgsD preview_signature κs) → preview_reads.Pre κs x × preview_reads.Asked κs x
  preview_asks_nothing κs x = e.record_preview_lem κs x

  pub curve_asks_nothing : (κs : Lfts 2) (x : ArgsD curve_signature κs) → curve_reads.Pre κs x × curve_reads.Asked κs x
  curve_asks_nothing κs x = e.record_curve_lem κs x

  pub settlement_asks_nothing : (κs : Lfts 3) (x : ArgsD settlement_signature κs) → settlement_reads.Pre κs x × settlement_reads.Asked κs x
  settlement_asks_nothing κs x = e.record_settlement_lem κs x

-- ---- what it returns

module _ (e : FiguresReturn) where
  pub state_returned : {bytes old new : List ℕ} {r : ℕ} → States bytes old new r → StateReturned (calls_in bytes) old new r
  state_returned (states κs x r y q) = e.record_state_lem κs x r y q

  pub preview_returned : {bytes old new : List ℕ} {r : ℕ} → Previews bytes old new r → PreviewReturned (ledger (calls_in bytes)) old new r
  preview_returned (previews κs x r y q) = e.record_preview_lem κs x r y q

  pub curve_returned : {bytes old new : List ℕ} {r : ℕ} → Curves bytes old new r → CurveReturned (ledger (calls_in bytes)) old new r
  curve_returned (curves κs x r y q) = e.record_curve_lem κs x r y q

  pub settlement_returned :
      {bytes : List ℕ} {limit : ℕ} {old_f new_f old_a new_a : List ℕ} {r : ℕ} → Settlements bytes limit old_f new_f old_a new_a r →
      SettlementReturned (ledger (calls_in bytes)) limit old_f new_f old_a new_a r
  settlement_returned (settlements κs x r y q) = e.record_settlement_lem κs x r y q

-- figures, or a text, that fit what was lent, and those that do not
module _ {v : ℕ} {figures old new : List ℕ} {r : ℕ} (w : Lent v figures old new r) where
  pub lent_fit : length figures ≤ length old → (r ≡ v) × (new ≡ laid figures old)
  lent_fit h = w.fit h

  pub lent_too_short : length old < length figures → (r ≡ 2 ^ 64 - 11) × (new ≡ old)
  lent_too_short h = w.too_short h

-- ---- the state

module _ {cs : List Call} {old new : List ℕ} {r : ℕ} (w : StateReturned cs old new r) where
  pub state_excess : LatestExcess cs w.excess
  state_excess = w.latest

  pub state_given : Lent 0 (state_numbers cs w.excess) old new r
  state_given = w.state

module _ {cs : List Call} {e : ℤ} (w : LatestExcess cs e) where
  pub excess_before_any : closings_from start cs ≡ 0 → e ≡ pos 0
  excess_before_any z = w.without z

  pub excess_of_latest :
      (before after : List Call) → cs ≡ before ++ (Close ∷ after) → refusal (ledger before) Close ≡ 0 →
      closings_from (step (ledger before) Close) after ≡ 0 → e ≡ excess (ledger before)
  excess_of_latest before after split z none = w.latest before after split z none

-- ---- the preview of a closing (document 02, 6)

module _ {l : Ledger} {old new : List ℕ} {r : ℕ} (w : PreviewReturned l old new r) where
  pub preview_refused : (refusal l Close ≡ 0 → ⊥) → (r ≡ 2 ^ 64 - refusal l Close) × (new ≡ old)
  preview_refused z = w.refused z

  pub preview_given : refusal l Close ≡ 0 → let a = answer l Close in
      Lent 0 (twos_complement a.excess ∷ a.remainder ∷ one_if (is_closed (step l Close).phase) ∷ []) old new r
  preview_given z = w.foretold z

  pub closes_then : refusal l Close ≡ 0 →
      (is_closed (step l Close).phase ≡ true) ↔ ((supply_after l < demand_at l l.closing + 1000) ⊎ (l.closing ≡ floor l))
  closes_then z = w.closed z

-- ---- the supply curve (document 02, 9)

pub points_given : {l : Ledger} {old new : List ℕ} {r : ℕ} → CurveReturned l old new r → Lent (length (supply_curve l)) (curve_figures (supply_curve l)) old new r
points_given w = w.points

-- ---- the settlement (demand 3)

module _ {l : Ledger} {limit : ℕ} {old_f new_f old_a new_a : List ℕ} {r : ℕ} where
  pub settlement_given : SettlementReturned l limit old_f new_f old_a new_a r → 12 ≤ length old_f → SettlementGiven l limit old_f new_f old_a new_a r
  settlement_given w h = w.fit h

  pub settlement_without_room : SettlementReturned l limit old_f new_f old_a new_a r → length old_f < 12 → SettlementUnwritten l limit old_f new_f old_a new_a r
  settlement_without_room w h = w.too_short h

  module _ (w : SettlementGiven l limit old_f new_f old_a new_a r) where
    pub given_as_stated : Stated l limit old_a new_a w.settled
    given_as_stated = w.as_stated

    pub given_figures : Given w.settled.number 0 (settled_figures w.settled) old_f new_f r
    given_figures = w.figures

  module _ (w : SettlementUnwritten l limit old_f new_f old_a new_a r) where
    pub unwritten_open : is_closed l.phase ≡ false → r ≡ 2 ^ 64 - 2
    unwritten_open c = w.not_closed c

    pub unwritten_outnumbered : is_closed l.phase ≡ true → (Within l limit → ⊥) → r ≡ 2 ^ 64 - 10
    unwritten_outnumbered c z = w.by_10 c z

    pub unwritten_last : is_closed l.phase ≡ true → Within l limit → r ≡ 2 ^ 64 - 11
    unwritten_last c z = w.by_11 c z

    pub unwritten_stays : (new_f ≡ old_f) × (new_a ≡ old_a)
    unwritten_stays = w.untouched

module _ {n v : ℕ} {figures old new : List ℕ} {r : ℕ} (w : Given n v figures old new r) where
  pub given_refused : (n ≡ 0 → ⊥) → (r ≡ 2 ^ 64 - n) × (new ≡ old)
  given_refused z = w.refused z

  pub given_accepted : n ≡ 0 → (r ≡ v) × (new ≡ laid figures old)
  given_accepted z = w.given z

-- ---- whole calls

module _ {M : Type 1} (s : EngineCorrect M) where
  pub same_state : {bytes old new new' : List ℕ} {r r' : ℕ} → States bytes old new r → States bytes old new' r' → (r ≡ r') × (new ≡ new')
  same_state w v = let e = of_figures s in let f = figures_return e in state_decided e _ _ _ _ _ _ (state_returned f w) (state_returned f v)

  pub same_preview : {bytes old new new' : List ℕ} {r r' : ℕ} → Previews bytes old new r → Previews bytes old new' r' → (r ≡ r') × (new ≡ new')
  same_preview w v = let e = of_figures s in let f = figures_return e in preview_decided e _ _ _ _ _ _ (preview_returned f w) (preview_returned f v)

  pub same_curve : {bytes old new new' : List ℕ} {r r' : ℕ} → Curves bytes old new r → Curves bytes old new' r' → (r ≡ r') × (new ≡ new')
  same_curve w v = let e = of_figures s in let f = figures_return e in curve_decided e _ _ _ _ _ _ (curve_returned f w) (curve_returned f v)

  pub same_settlement :
      {bytes : List ℕ} {limit : ℕ} {old_f new_f new_f' old_a new_a new_a' : List ℕ} {r r' : ℕ} → Settlements bytes limit old_f new_f old_a new_a r →
      Settlements bytes limit old_f new_f' old_a new_a' r' → (r ≡ r') × (new_f ≡ new_f') × (new_a ≡ new_a')
  same_settlement w v =
      let e = of_figures s in
      let f = figures_return e in
      settlement_decided e _ _ _ _ _ _ _ _ _ _ (settlement_returned f w) (settlement_returned f v)

  -- the settlement given is what the settling call itself answers after the same list of calls, and the lent bytes are what it leaves
  pub as_settled :
      {cs : List Call} {rs : List Answered} {old_f new_f new_a : List ℕ} {r : ℕ} (κs : Lfts 1) (x : ArgsD settle_signature κs) (a : Result Settlement Refusal)
      (y : AtExit (ended_of 1 settle_kinds.ps settle_kinds.r) κs) → Run cs rs x.0 → settle.Post κs x a y →
      (w : SettlementGiven (ledger cs) x.1.0 old_f new_f x.1.1.0.now new_a r) →
      (w.settled ≡ settled_in a) × (new_a ≡ y.1.1.0.now)
  as_settled κs x a y run q w = s.determines _ _ _ _ _ _ _ (given_as_stated w) (s.statement κs x a y run q)
