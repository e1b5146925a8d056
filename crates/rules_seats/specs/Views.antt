-- What a developer can learn in the hall (document 02, 14): the view that a run gives it, and what it is told at each moment of it.
use Rattle.std.specs.Prelude.{ℕ, ◌≡◌, Bool, true, false, cond, not, ◌&&◌, List, [], ◌∷◌, ◌++◌, map, eqb, ℤ, pos, negsuc}
use Rattle.rules_auction.specs.Ledger.{Call, SetUp, Register, Open, By, Close, Phase, Fresh, Ready, Round, Between, Closed}
use Rattle.rules_auction.specs.Refusals.{is_fresh, is_ready, in_round, is_closed, is_between}
use Rattle.rules_auction.specs.Rounds.{Answered}
use Rattle.rules_seats.specs.Seats.{for_itself, Seat, Auctioneer, Auditor, At, Seated, HallLedger, fresh_hall, hall_answer, hall_step, hall_ledger, Published}
use Rattle.rules_seats.specs.Seats.{published, Reading, reading}

-- ---- changes of published values

unfoldable pub same_excess : ℤ → ℤ → Bool
same_excess (pos m) (pos n) = eqb m n
same_excess (pos m) (negsuc n) = false
same_excess (negsuc m) (pos n) = false
same_excess (negsuc m) (negsuc n) = eqb m n

unfoldable pub same_phase : Phase → Phase → Bool
same_phase Fresh q = is_fresh q
same_phase Ready q = is_ready q
same_phase Round q = in_round q
same_phase Between q = is_between q
same_phase Closed q = is_closed q

unfoldable pub same_values : Published → Published → Bool
same_values p q = eqb p.opening q.opening && eqb p.closing q.closing && same_excess p.excess q.excess && same_phase p.phase q.phase

-- ---- the view of developer n

-- a call of its own, that is through its seat, whatever it is answered; an accepted call made for it; a change of published values, to these
pub data Event : Type 0 where
  Asked : Call → Event
  ForIt : Call → Event
  Changed : Published → Event

unfoldable pub own_seat : ℕ → Seat → Bool
own_seat n Auctioneer = false
own_seat n Auditor = false
own_seat n (At k) = eqb k n

-- a call that others make for developer n: its registration, its lodging
unfoldable pub is_for : ℕ → Call → Bool
is_for n (SetUp s) = false
is_for n (Register k w x) = eqb k n
is_for n (Open c) = false
is_for n (By k m) = not (for_itself m) && eqb k n
is_for n Close = false

unfoldable pub asked_by : ℕ → Seated → List Event
asked_by n m = cond (own_seat n m.seat) (Asked m.call ∷ []) []

unfoldable pub made_for : ℕ → HallLedger → Seated → List Event
made_for n h m = cond (is_for n m.call && eqb (hall_answer h m).number 0) (ForIt m.call ∷ []) []

unfoldable pub changes : Published → Published → List Event
changes p q = cond (same_values p q) [] (Changed q ∷ [])

-- what one call through a seat shows it
unfoldable pub shown : ℕ → HallLedger → Seated → List Event
shown n h m = asked_by n m ++ (made_for n h m ++ changes (published h) (published (hall_step h m)))

unfoldable pub view_from : ℕ → HallLedger → List Seated → List Event
view_from n h [] = []
view_from n h (m ∷ ms) = shown n h m ++ view_from n (hall_step h m) ms

-- the view: the changes of published values, its own calls and the accepted calls made for it, all in the order in which the run holds them
unfoldable pub view : ℕ → List Seated → List Event
view n ms = view_from n fresh_hall ms

-- ---- what it is told

-- at an event: the answer, if the call is its own, and what it reads then
pub record Moment : Type 0 where
  pub event : Event
  pub answers : List Answered
  pub reads : Reading

unfoldable pub answers_at : Event → Answered → List Answered
answers_at (Asked c) r = r ∷ []
answers_at (ForIt c) r = []
answers_at (Changed p) r = []

abbrev pub moment_of : Answered → Reading → Event → Moment
moment_of r x e = record { event = e; answers = answers_at e r; reads = x }

unfoldable pub moments : ℕ → HallLedger → Seated → List Moment
moments n h m = map (moment_of (hall_answer h m) (reading (hall_step h m) (At n))) (shown n h m)

unfoldable pub told_from : ℕ → HallLedger → List Seated → List Moment
told_from n h [] = []
told_from n h (m ∷ ms) = moments n h m ++ told_from n (hall_step h m) ms

-- the moments of a run, one for each event of the view
unfoldable pub told : ℕ → List Seated → List Moment
told n ms = told_from n fresh_hall ms

-- of the answers to a run, those to its own calls
unfoldable pub own_answers : ℕ → List Seated → List Answered → List Answered
own_answers n [] rs = []
own_answers n (m ∷ ms) [] = []
own_answers n (m ∷ ms) (r ∷ rs) = cond (own_seat n m.seat) (r ∷ own_answers n ms rs) (own_answers n ms rs)

-- ---- WHAT A DEVELOPER CAN LEARN

-- two runs with equal views tell it the same at every moment, and it reads the same behind them
pub record Learns (n : ℕ) (ms ms' : List Seated) : Type 0 where
  pub moments : told n ms ≡ told n ms'
  pub behind : reading (hall_ledger ms) (At n) ≡ reading (hall_ledger ms') (At n)

abbrev pub ByViewAlone : Type 0
ByViewAlone = (n : ℕ) (ms ms' : List Seated) → view n ms ≡ view n ms' → Learns n ms ms'

-- between the moments nothing changes: what shows it nothing leaves what it reads
abbrev pub StillBetween : Type 0
StillBetween = (n : ℕ) (ms : List Seated) (m : Seated) → shown n (hall_ledger ms) m ≡ [] →
    reading (hall_ledger (ms ++ (m ∷ []))) (At n) ≡ reading (hall_ledger ms) (At n)

-- a call that moves the clock: set-up, opening, closing
unfoldable pub moves_clock : Call → Bool
moves_clock (SetUp s) = true
moves_clock (Register n w x) = false
moves_clock (Open c) = true
moves_clock (By n m) = false
moves_clock Close = true

-- calls through others' seats, and registrations and lodgings of others, show it nothing, whatever their lists hold
abbrev pub OthersUnseen : Type 0
OthersUnseen =
    (n : ℕ) (h : HallLedger) (m : Seated) → own_seat n m.seat ≡ false → is_for n m.call ≡ false → moves_clock m.call ≡ false → shown n h m ≡ []

-- every accepted call that moves the clock is a change of published values: it changes the phase, so a closing is one even if its excess equals the
-- one before. Nothing else is a change
abbrev pub ClockAlone : Type 0
ClockAlone =
    (h : HallLedger) (m : Seated) →
    changes (published h) (published (hall_step h m)) ≡ cond (moves_clock m.call && eqb (hall_answer h m).number 0)
    (Changed (published (hall_step h m)) ∷ []) []
