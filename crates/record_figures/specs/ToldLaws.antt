-- From what is told of the auction behind a session to what a seat is told of it: 20 without the right, else the same.
use Rattle.std.specs.Prelude.{ℕ, ◌-◌, ◌^◌, ◌≡◌, Bool, Result, Ok, Err, eqb, length}
use Rattle.std.proofs.Math.Path.{refl, ap₂}
use Rattle.std.proofs.Common.{ap, ◌∙◌, subst}
use Rattle.std.proofs.Math.Bool.{true, false, cond}
use mathlib.Core.List.{List}
use Rattle.rules_format.specs.Lines.{lines}
use Rattle.rules_format.specs.SessionLines.{is_seat}
use Rattle.rules_auction.specs.Ledger.{Ledger, start}
use Rattle.rules_auction.specs.Refusals.{check}
use Rattle.rules_auction.specs.Rounds.{ledger}
use Rattle.rules_auction.specs.Settling.{settlement}
use Rattle.rules_replies.specs.record_calls.Calls.{calls_in}
use Rattle.rules_seats.specs.Seats.{Seat, HallLedger, may_conduct, may_settle, reading}
use Rattle.rules_seats.specs.figures.Figures.{figures_refusal, lent_after, closings_from, state_figures, record_state, settlement_figures, award_bytes}
use Rattle.rules_seats.specs.figures.Figures.{settlement_refusal, reading_figures}
use Rattle.rules_seats.specs.sessions.LinesRead.{calls_as, hall_of}
use Rattle.rules_seats.specs.sessions.LinesReadLaws.{record_calls_read, record_hall_read, session_hall_read}
use Rattle.seats.specs.seat_numbers.ByteSeats.{byte_seat}
use Rattle.seats.specs.seat_numbers.ByteSeatLaws.{held_reads}
use Rattle.rules_seats.specs.sessions.SessionFigures.{seat_may, session_reading_refusal, session_reading, session_preview_refusal, session_preview}
use Rattle.rules_seats.specs.sessions.SessionFigures.{session_curve_refusal, session_curve}
use Rattle.rules_seats.specs.sessions.SessionFigures.{session_settlement_refusal, session_settlement}
use Rattle.engine_refusals.specs.declared.Refusal.{Refusal}
use Rattle.figure_writing.specs.lent_numbers.Lent.{GivesFigures, Counted, counted_in, Counts}
use Rattle.record_replay.specs.host_numbers.HostNumbers.{value_answer, answered, host_number}
use Rattle.record_replay.specs.record_auction.Leaves.{ledger_of, record_ledger_of, session_ledger_of}
use Rattle.record_figures.specs.Told.{Tells, TellsBoth, TellsState, TellsPreview, TellsCurve, TellsSettlement, TellsReading, TellsPreviewThrough}
use Rattle.record_figures.specs.Told.{TellsCurveThrough, TellsSettlementThrough}

-- ---- from what is written into the lent numbers

pub counted_answer : (t : Result ℕ Refusal) → answered t ≡ value_answer (counted_in t).number (counted_in t).count
counted_answer (Ok n) = refl
counted_answer (Err e) = refl

module _ (figures old new : List ℕ) (r : ℕ) where
  pub gives_tells : (m n : ℕ) → GivesFigures m figures old new n → r ≡ host_number (value_answer n 0) →
      Tells (figures_refusal m figures (length old)) 0 figures old new r
  gives_tells m n w e =
      let t : Tells n 0 figures old new r = record { number = e; lent = w.lent } in
      rw w.number at t

  -- a count of a refused call is 0, and is not told
  pub counts_tells : (count : ℕ) (x : Counted) → Counts count figures old new x → r ≡ host_number (value_answer x.number x.count) →
      Tells (figures_refusal 0 figures (length old)) count figures old new r
  unfolding host_number
  counts_tells count x w e =
      let t : Tells x.number count figures old new r = record { number = e ∙ counted (eqb x.number 0) w.counted; lent = w.gives.lent } in
      rw w.gives.number at t
    where
      counted : (b : Bool) → x.count ≡ cond b count 0 → cond b x.count (2 ^ 64 - x.number) ≡ cond b count (2 ^ 64 - x.number)
      counted true h = h
      counted false h = refl

-- the state of the hall behind a record
pub state_told :
    (bytes : List ℕ) (closings : ℕ) (old new : List ℕ) (n r : ℕ) → closings ≡ closings_from start (calls_as false (lines bytes)) →
    GivesFigures 0 (state_figures (hall_of false bytes) closings) old new n → r ≡ host_number (value_answer n 0) → TellsState bytes old new r
unfolding record_state
state_told bytes closings old new n r ec w er =
    let e : state_figures (hall_of false bytes) closings ≡ record_state bytes =
    ap₂ state_figures (record_hall_read bytes) (ec ∙ ap (closings_from start) (record_calls_read bytes)) in
    gives_tells (record_state bytes) old new r 0 n (subst (λ (x : List ℕ). GivesFigures 0 x old new n) e w) er

pub settlement_told :
    (l : Ledger) (limit : ℕ) (old_f new_f old_a new_a : List ℕ) (n r : ℕ) → n ≡ settlement_refusal l limit (length old_f) (length old_a) →
    new_f ≡ lent_after n (settlement_figures (settlement l)) old_f → new_a ≡ lent_after n (award_bytes (settlement l)) old_a →
    r ≡ host_number (value_answer n 0) → TellsSettlement l limit old_f new_f old_a new_a r
settlement_told l limit old_f new_f old_a new_a n r e f a er =
    let t : TellsBoth n (settlement_figures (settlement l)) (award_bytes (settlement l)) old_f new_f old_a new_a r =
    record { number = er; lent = f; awards = a } in
    rw e at t

-- behind a record: its ledger is that of the calls that it asks
module _ (bytes : List ℕ) where
  pub record_preview_told : (old new : List ℕ) (r : ℕ) → TellsPreview (ledger_of false bytes) old new r → TellsPreview (ledger (calls_in bytes)) old new r
  record_preview_told old new r w = subst (λ (l : Ledger). TellsPreview l old new r) (record_ledger_of bytes) w

  pub record_curve_told : (old new : List ℕ) (r : ℕ) → TellsCurve (ledger_of false bytes) old new r → TellsCurve (ledger (calls_in bytes)) old new r
  record_curve_told old new r w = subst (λ (l : Ledger). TellsCurve l old new r) (record_ledger_of bytes) w

  pub record_settlement_told : (limit : ℕ) (old_f new_f old_a new_a : List ℕ) (r : ℕ) →
      TellsSettlement (ledger_of false bytes) limit old_f new_f old_a new_a r → TellsSettlement (ledger (calls_in bytes)) limit old_f new_f old_a new_a r
  record_settlement_told limit old_f new_f old_a new_a r w = subst (λ (l : Ledger). TellsSettlement l limit old_f new_f old_a new_a r) (record_ledger_of bytes) w

-- ---- by the right

module _ (right : Bool) (m v : ℕ) (figures old new : List ℕ) (r : ℕ) where
  pub barred : right ≡ false → r ≡ host_number (value_answer 20 0) → new ≡ old → Tells (figures_refusal (check right 20 m) figures (length old)) v figures old new r
  unfolding figures_refusal lent_after host_number
  barred e er en = rw e (record { number = er; lent = en })

  pub seated : right ≡ true → Tells (figures_refusal m figures (length old)) v figures old new r →
      Tells (figures_refusal (check right 20 m) figures (length old)) v figures old new r
  seated e w = rw e w

-- ---- through a seat

module _ (session : List ℕ) (kind number : ℕ) where
  module _ (old new : List ℕ) (r : ℕ) where
    pub preview_barred : seat_may may_conduct kind number ≡ false → r ≡ host_number (value_answer 20 0) → new ≡ old →
        TellsPreviewThrough session kind number old new r
    unfolding session_preview_refusal
    preview_barred e er en = barred (seat_may may_conduct kind number) _ _ _ _ _ _ e er en

    pub preview_seated : seat_may may_conduct kind number ≡ true → TellsPreview (ledger_of true session) old new r →
        TellsPreviewThrough session kind number old new r
    unfolding session_preview_refusal session_preview
    preview_seated e w =
        seated (seat_may may_conduct kind number) _ _ _ _ _ _ e (subst (λ (k : Ledger). TellsPreview k old new r) (session_ledger_of session) w)

    pub reading_barred : is_seat kind number ≡ false → r ≡ host_number (value_answer 20 0) → new ≡ old → TellsReading session kind number old new r
    unfolding session_reading_refusal
    reading_barred e er en = barred (is_seat kind number) _ _ _ _ _ _ e er en

    -- by the numbers of the seat that is held
    pub reading_seated : is_seat kind number ≡ true → (s : Seat) (x : Counted) → s ≡ byte_seat kind number →
        Counts (length (reading_figures s (reading (hall_of true session) s))) (reading_figures s (reading (hall_of true session) s)) old new x →
        r ≡ host_number (value_answer x.number x.count) → TellsReading session kind number old new r
    unfolding session_reading_refusal
    reading_seated e s x es w er =
        let f : reading_figures s (reading (hall_of true session) s) ≡ session_reading session kind number =
        ap₂ (λ (t : Seat) (h : HallLedger). reading_figures t (reading h t)) es (session_hall_read session) ∙ held_reads kind number session in
        seated (is_seat kind number) _ _ _ _ _ _ e
        (counts_tells _ _ _ _ _ x (subst (λ (y : List ℕ). Counts (length y) y old new x) f w) er)

    pub curve_barred : seat_may may_conduct kind number ≡ false → r ≡ host_number (value_answer 20 0) → new ≡ old →
        TellsCurveThrough session kind number old new r
    unfolding session_curve_refusal
    curve_barred e er en = barred (seat_may may_conduct kind number) _ _ _ _ _ _ e er en

    pub curve_seated : seat_may may_conduct kind number ≡ true → TellsCurve (ledger_of true session) old new r →
        TellsCurveThrough session kind number old new r
    unfolding session_curve_refusal session_curve
    curve_seated e w =
        seated (seat_may may_conduct kind number) _ _ _ _ _ _ e (subst (λ (k : Ledger). TellsCurve k old new r) (session_ledger_of session) w)

  module _ (limit : ℕ) (old_f new_f old_a new_a : List ℕ) (r : ℕ) where
    pub settlement_barred : seat_may may_settle kind number ≡ false → r ≡ host_number (value_answer 20 0) → new_f ≡ old_f → new_a ≡ old_a →
        TellsSettlementThrough session kind number limit old_f new_f old_a new_a r
    unfolding session_settlement_refusal lent_after
    settlement_barred e er en ea = rw e (record { number = er; lent = en; awards = ea })

    pub settlement_seated : seat_may may_settle kind number ≡ true → TellsSettlement (ledger_of true session) limit old_f new_f old_a new_a r →
        TellsSettlementThrough session kind number limit old_f new_f old_a new_a r
    unfolding session_settlement_refusal session_settlement
    settlement_seated e w = rw e (subst (λ (k : Ledger). TellsSettlement k limit old_f new_f old_a new_a r) (session_ledger_of session) w)
