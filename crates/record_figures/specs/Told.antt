-- What a C host gets of figures (include/reference_engine.h): a number, or 2^64 less the refusal's; and what then stands in the lent numbers and bytes.
use Rattle.std.specs.Prelude.{ℕ, ◌≡◌, List, length}
use Rattle.rules_auction.specs.Ledger.{Ledger}
use Rattle.rules_auction.specs.Preview.{preview}
use Rattle.rules_auction.specs.Settling.{settlement}
use Rattle.rules_supply_curve.specs.Curve.{supply_curve}
use Rattle.rules_seats.specs.figures.Figures.{figures_refusal, lent_after, record_state, preview_refusal, preview_figures, curve_figures, settlement_figures}
use Rattle.rules_seats.specs.figures.Figures.{award_bytes, settlement_refusal}
use Rattle.rules_seats.specs.sessions.SessionFigures.{session_ledger, session_reading_refusal, session_reading, session_preview_refusal, session_preview}
use Rattle.rules_seats.specs.sessions.SessionFigures.{session_curve_refusal, session_curve, session_settlement_refusal, session_settlement}
use Rattle.record_replay.specs.host_numbers.HostNumbers.{value_answer, host_number}

-- refused by n, or the value v with the figures in the lent numbers
pub record Tells (n v : ℕ) (figures old new : List ℕ) (r : ℕ) : Type 0 where
  pub number : r ≡ host_number (value_answer n v)
  pub lent : new ≡ lent_after n figures old

-- the same with award records in lent bytes
pub record TellsBoth (n : ℕ) (figures bytes old_f new_f old_a new_a : List ℕ) (r : ℕ) : Type 0 where
  pub number : r ≡ host_number (value_answer n 0)
  pub lent : new_f ≡ lent_after n figures old_f
  pub awards : new_a ≡ lent_after n bytes old_a

-- ---- of a record

abbrev pub TellsState : List ℕ → List ℕ → List ℕ → ℕ → Type 0
TellsState bytes old new r = Tells (figures_refusal 0 (record_state bytes) (length old)) 0 (record_state bytes) old new r

-- ---- of the auction with the ledger l, behind a record or a session

abbrev pub TellsPreview : Ledger → List ℕ → List ℕ → ℕ → Type 0
TellsPreview l old new r =
    Tells (figures_refusal (preview_refusal l) (preview_figures (preview l)) (length old)) 0 (preview_figures (preview l)) old new r

abbrev pub TellsCurve : Ledger → List ℕ → List ℕ → ℕ → Type 0
TellsCurve l old new r =
    Tells (figures_refusal 0 (curve_figures (supply_curve l)) (length old)) (length (supply_curve l)) (curve_figures (supply_curve l)) old new r

abbrev pub TellsSettlement : Ledger → ℕ → List ℕ → List ℕ → List ℕ → List ℕ → ℕ → Type 0
TellsSettlement l limit old_f new_f old_a new_a r =
    TellsBoth (settlement_refusal l limit (length old_f) (length old_a)) (settlement_figures (settlement l)) (award_bytes (settlement l)) old_f new_f old_a new_a r

-- ---- behind a session, through the seat of this kind and number: 20 first

abbrev pub TellsReading : List ℕ → ℕ → ℕ → List ℕ → List ℕ → ℕ → Type 0
TellsReading session kind number old new r =
    let figures = session_reading session kind number in
    Tells (figures_refusal (session_reading_refusal kind number) figures (length old)) (length figures) figures old new r

abbrev pub TellsPreviewThrough : List ℕ → ℕ → ℕ → List ℕ → List ℕ → ℕ → Type 0
TellsPreviewThrough session kind number old new r =
    Tells (figures_refusal (session_preview_refusal session kind number) (session_preview session) (length old)) 0 (session_preview session) old new r

abbrev pub TellsCurveThrough : List ℕ → ℕ → ℕ → List ℕ → List ℕ → ℕ → Type 0
TellsCurveThrough session kind number old new r =
    Tells (figures_refusal (session_curve_refusal kind number) (session_curve session) (length old)) (length (supply_curve (session_ledger session)))
    (session_curve session) old new r

abbrev pub TellsSettlementThrough : List ℕ → ℕ → ℕ → ℕ → List ℕ → List ℕ → List ℕ → List ℕ → ℕ → Type 0
TellsSettlementThrough session kind number limit old_f new_f old_a new_a r =
    TellsBoth (session_settlement_refusal session kind number limit (length old_f) (length old_a)) (session_settlement session)
    (award_bytes (settlement (session_ledger session))) old_f new_f old_a new_a r
