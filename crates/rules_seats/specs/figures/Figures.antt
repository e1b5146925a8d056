-- The figures of an auction, as the numbers of 64 bits that a host in C is given (include/reference_engine.h): the state, the preview of a closing, the
-- supply curve, the settlement, and what a seat reads; of the auction that a record leaves behind, or that stands in the hall behind a session.
use Rattle.std.specs.Prelude.{ℕ, suc, Bool, false, cond, leb, eqb, length}
use mathlib.Core.List.{List, [], ◌∷◌, ◌++◌, map, flatten}
use Rattle.rules_numbers.specs.Tails.{laid}
use Rattle.rules_auction.specs.Ledger.{Step, Standing, none, made, Call, SetUp, Register, Open, By, Close, Phase, Fresh, Ready, Round, Between, Closed, Ledger}
use Rattle.rules_auction.specs.Ledger.{start}
use Rattle.rules_auction.specs.Refusals.{check, refusal}
use Rattle.rules_auction.specs.Rounds.{step, ledger}
use Rattle.rules_auction.specs.Preview.{Previewed, preview}
use Rattle.rules_auction.specs.Settling.{Settlement, settlement, settling_refusal}
use Rattle.rules_supply_curve.specs.Curve.{Point, supply_curve}
use Rattle.rules_replies.specs.Replies.{twos_complement}
use Rattle.rules_replies.specs.record_calls.Calls.{calls_in}
use Rattle.rules_seats.specs.Seats.{Seat, Auctioneer, Auditor, At, HallLedger, fresh_hall, after_call, Published, Reading}

-- ---- into lent numbers

-- a call that nothing else refuses is refused by 11 where the figures are more than the lent numbers; n is 0 or the refusal before it
unfoldable pub figures_refusal : ℕ → List ℕ → ℕ → ℕ
figures_refusal n figures room = cond (eqb n 0) (check (leb (length figures) room) 11 0) n

-- what was lent, afterwards: the figures, or an award's bytes, then what stood behind them; a refusal leaves all of it
unfoldable pub lent_after : ℕ → List ℕ → List ℕ → List ℕ
lent_after n figures old = cond (eqb n 0) (laid figures old) old

abbrev pub one_if : Bool → ℕ
one_if b = cond b 1 0

-- ---- the state

abbrev pub phase_figure : Phase → ℕ
phase_figure Fresh = 0
phase_figure Ready = 1
phase_figure Round = 2
phase_figure Between = 3
phase_figure Closed = 4

-- the ledger after calls on the auction itself, with the excess of the latest closing that was accepted, 0 before there is any
unfoldable pub hall_after : HallLedger → List Call → HallLedger
hall_after h [] = h
hall_after h (c ∷ cs) = hall_after (after_call h c) cs

-- a closing that is accepted
unfoldable pub closes_round : Ledger → Call → Bool
closes_round l (SetUp s) = false
closes_round l (Register n w x) = false
closes_round l (Open c) = false
closes_round l (By n m) = false
closes_round l Close = eqb (refusal l Close) 0

-- how many of the calls are
unfoldable pub closings_from : Ledger → List Call → ℕ
closings_from l [] = 0
closings_from l (c ∷ cs) = cond (closes_round l c) (suc (closings_from (step l c) cs)) (closings_from (step l c) cs)

-- phase, opening and closing price of the open or else the latest round, excess of the latest accepted closing, number of accepted closings
unfoldable pub state_figures : HallLedger → ℕ → List ℕ
state_figures h closings = phase_figure h.ledger.phase ∷ h.ledger.opening ∷ h.ledger.closing ∷ twos_complement h.excess ∷ closings ∷ []

unfoldable pub record_hall : List ℕ → HallLedger
record_hall bytes = hall_after fresh_hall (calls_in bytes)

unfoldable pub record_state : List ℕ → List ℕ
record_state bytes = state_figures (record_hall bytes) (closings_from start (calls_in bytes))

-- ---- the preview of a closing (document 02, 6)

-- 0, or 2 where closing is refused
abbrev pub preview_refusal : Ledger → ℕ
preview_refusal l = refusal l Close

-- excess, remainder, 1 if the auction would then be closed, else 0
unfoldable pub preview_figures : Previewed → List ℕ
preview_figures p = twos_complement p.answered.excess ∷ p.answered.remainder ∷ one_if p.closed ∷ []

unfoldable pub record_preview : List ℕ → List ℕ
record_preview bytes = preview_figures (preview (ledger (calls_in bytes)))

-- ---- the supply curve (document 02, 9)

-- of each point, falling: the price, supply before it, supply after it
unfoldable pub curve_figures : List Point → List ℕ
curve_figures xs = flatten (map (λ x. x.price ∷ x.before ∷ x.after ∷ []) xs)

unfoldable pub record_curve : List ℕ → List ℕ
record_curve bytes = curve_figures (supply_curve (ledger (calls_in bytes)))

-- ---- the settlement

-- price, demand, remainder, total, choices, covering, kept, second price, short, insufficient, price paid, number of award records
unfoldable pub settlement_figures : Settlement → List ℕ
settlement_figures s =
    s.price ∷ s.demand ∷ s.remainder ∷ s.total ∷ s.choices ∷ s.covering ∷ s.kept ∷ s.second
    ∷ one_if s.short ∷ one_if s.insufficient ∷ s.paid ∷ length s.records ∷ []

-- the award records, 6 bytes each
abbrev pub award_bytes : Settlement → List ℕ
award_bytes s = flatten s.records

-- settling's 2, 10 and 11, the last for either buffer
unfoldable pub settlement_refusal : Ledger → ℕ → ℕ → ℕ → ℕ
settlement_refusal l limit room awards = figures_refusal (settling_refusal l limit awards) (settlement_figures (settlement l)) room

unfoldable pub record_settlement : List ℕ → List ℕ
record_settlement bytes = settlement_figures (settlement (ledger (calls_in bytes)))

-- ---- what a seat reads (document 02, 14)

-- opening, closing, excess, phase
abbrev pub published_figures : Published → List ℕ
published_figures p = p.opening ∷ p.closing ∷ twos_complement p.excess ∷ phase_figure p.phase ∷ []

-- each step's price and level
abbrev pub step_figures : List Step → List ℕ
step_figures ss = flatten (map (λ s. s.price ∷ s.level ∷ []) ss)

-- 0 no offer or 1, the number of steps, the steps
abbrev pub offer_figures : Standing → List ℕ
offer_figures none = 0 ∷ 0 ∷ []
offer_figures (made ss) = 1 ∷ length ss ∷ step_figures ss

-- for a developer also: the number of levels, the levels, and its offer
unfoldable pub reading_figures : Seat → Reading → List ℕ
reading_figures Auctioneer r = published_figures r.values
reading_figures Auditor r = published_figures r.values
reading_figures (At n) r = published_figures r.values ++ (length r.levels ∷ r.levels) ++ offer_figures r.offer
