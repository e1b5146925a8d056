-- Seats in the auction hall (document 02, 14): who may make which call, the hall's ledger after calls through seats, and what a seat reads.
use Rattle.std.specs.Prelude.{ℕ, Bool, true, false, cond, List, [], ◌∷◌, eqb, ℤ, pos}
use Rattle.rules_auction.specs.Ledger.{Move, Offer, Lodge, Cancel, Call, SetUp, Register, Open, By, Close, Standing, none, Phase, Ledger, start}
use Rattle.rules_auction.specs.Rounds.{step, Answered, bare_answer, answer}

-- the auctioneer, the auditor, or the developer of a number, whichever it is
pub data Seat : Type 0 where
  Auctioneer : Seat
  Auditor : Seat
  At : ℕ → Seat

-- ---- rights

-- the auctioneer's right: to every call except offers and cancellations, among them those that leave the auction as it is: a preview (document 02,
-- 6), a point of the supply curve (9) and who can force the price (11)
abbrev pub may_conduct : Seat → Bool
may_conduct Auctioneer = true
may_conduct Auditor = false
may_conduct (At n) = false

-- a developer's right: to offer and to cancel for itself
abbrev pub may_offer_for : Seat → ℕ → Bool
may_offer_for Auctioneer k = false
may_offer_for Auditor k = false
may_offer_for (At n) k = eqb k n

-- a move that a developer makes through its own seat: an offer, a cancellation
abbrev pub for_itself : Move → Bool
for_itself (Offer ps qs) = true
for_itself (Lodge ps qs) = false
for_itself Cancel = true

unfoldable pub may_make : Seat → Call → Bool
may_make s (SetUp x) = may_conduct s
may_make s (Register n w x) = may_conduct s
may_make s (Open c) = may_conduct s
may_make s (By n m) = cond (for_itself m) (may_offer_for s n) (may_conduct s)
may_make s Close = may_conduct s

-- settling is the auctioneer's, and the auditor's, who reads and settles
abbrev pub may_settle : Seat → Bool
may_settle Auctioneer = true
may_settle Auditor = true
may_settle (At n) = false

-- ---- calls through seats

-- the ledger of the auction, and the excess of the latest closing, 0 before there is any
pub record HallLedger : Type 0 where
  pub ledger : Ledger
  pub excess : ℤ

abbrev pub fresh_hall : HallLedger
fresh_hall = record { ledger = start; excess = pos 0 }

pub record Seated : Type 0 where
  pub seat : Seat
  pub call : Call

abbrev pub has_right : Seated → Bool
has_right m = may_make m.seat m.call

-- without the right the call is refused by 20, before every other check
unfoldable pub hall_answer : HallLedger → Seated → Answered
hall_answer h m = cond (has_right m) (answer h.ledger m.call) (bare_answer 20)

-- the excess of the latest closing, once a call is answered r where it was e: an accepted closing's is its own
unfoldable pub latest_excess : Call → Answered → ℤ → ℤ
latest_excess (SetUp s) r e = e
latest_excess (Register n w x) r e = e
latest_excess (Open c) r e = e
latest_excess (By n m) r e = e
latest_excess Close r e = cond (eqb r.number 0) r.excess e

abbrev pub after_call : HallLedger → Call → HallLedger
after_call h c = record { ledger = step h.ledger c; excess = latest_excess c (answer h.ledger c) h.excess }

unfoldable pub hall_step : HallLedger → Seated → HallLedger
hall_step h m = cond (has_right m) (after_call h m.call) h

unfoldable pub hall_from : HallLedger → List Seated → HallLedger
hall_from h [] = h
hall_from h (m ∷ ms) = hall_from (hall_step h m) ms

-- the hall's ledger after a run: it is fed the calls in order, each with its seat
unfoldable pub hall_ledger : List Seated → HallLedger
hall_ledger ms = hall_from fresh_hall ms

unfoldable pub hall_answers_from : HallLedger → List Seated → List Answered
hall_answers_from h [] = []
hall_answers_from h (m ∷ ms) = hall_answer h m ∷ hall_answers_from (hall_step h m) ms

unfoldable pub hall_answers : List Seated → List Answered
hall_answers ms = hall_answers_from fresh_hall ms

-- ---- readings

-- the published values: both prices of the open or else the latest round, the excess of the latest closing, the phase
pub record Published : Type 0 where
  pub opening : ℕ
  pub closing : ℕ
  pub excess : ℤ
  pub phase : Phase

abbrev pub published : HallLedger → Published
published h = record { opening = h.ledger.opening; closing = h.ledger.closing; excess = h.excess; phase = h.ledger.phase }

-- what a seat reads: the published values and, a developer, its own declared levels and standing offer; for the others those stay empty
pub record Reading : Type 0 where
  pub values : Published
  pub levels : List ℕ
  pub offer : Standing

abbrev pub published_alone : HallLedger → Reading
published_alone h = record { values = published h; levels = []; offer = none }

unfoldable pub reading : HallLedger → Seat → Reading
reading h Auctioneer = published_alone h
reading h Auditor = published_alone h
reading h (At n) = record { values = published h; levels = (h.ledger.developers n).declared.levels; offer = (h.ledger.developers n).offer }

-- ---- lists that may hold calls through seats

-- a call made on the auction itself, or through a seat
pub data Entry : Type 0 where
  Direct : Call → Entry
  Through : Seat → Call → Entry

-- the calls without those that 20 refuses: a list of calls as before
unfoldable pub permitted : List Entry → List Call
permitted [] = []
permitted (Direct c ∷ es) = c ∷ permitted es
permitted (Through s c ∷ es) = cond (may_make s c) (c ∷ permitted es) (permitted es)

-- what each is answered from a ledger on
unfoldable pub entry_answers_from : Ledger → List Entry → List Answered
entry_answers_from l [] = []
entry_answers_from l (Direct c ∷ es) = answer l c ∷ entry_answers_from (step l c) es
entry_answers_from l (Through s c ∷ es) = cond (may_make s c) (answer l c ∷ entry_answers_from (step l c) es) (bare_answer 20 ∷ entry_answers_from l es)

unfoldable pub entry_answers : List Entry → List Answered
entry_answers es = entry_answers_from start es

-- a run's calls as such a list
unfoldable pub through_seats : List Seated → List Entry
through_seats [] = []
through_seats (m ∷ ms) = Through m.seat m.call ∷ through_seats ms
