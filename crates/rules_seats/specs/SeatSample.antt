-- A session in the hall (document 02, 14), computed: refusals by 20 before every other check, readings, and two runs that differ in what another
-- offers and give developer 2 one view.
use Rattle.std.specs.Prelude.{ℕ, ◌≡◌, refl, List, [], ◌∷◌, ◌++◌, map, pos}
use Rattle.rules_auction.specs.Ledger.{Offer, Cancel, Own, Call, SetUp, Register, Open, By, Close, none, made, Fresh, Round, Between}
use Rattle.rules_auction.specs.Computing.{call_refusals}
use Rattle.laws_arrival.specs.cancelling.TakenBack.{own}
use Rattle.rules_seats.specs.Seats.{Seat, Auctioneer, Auditor, At, may_make, fresh_hall, Seated, hall_answer, latest_excess, hall_step, hall_from, hall_ledger}
use Rattle.rules_seats.specs.Seats.{hall_answers_from, hall_answers, reading}
use Rattle.rules_seats.specs.Views.{same_excess, same_phase, same_values, own_seat, is_for, asked_by, made_for, changes, shown, view_from, view}

abbrev through : Seat → Call → Seated
through s c = record { seat = s; call = c }

-- the auditor sets nothing up, a developer registers nothing; developers 2 and 3 share a project
abbrev opened : List Seated
opened =
    through Auditor Close
    ∷ through (At 2) (By 3 Cancel)
    ∷ through (At 33) (By 33 Cancel)
    ∷ through Auctioneer (SetUp (record { ce = 20000; d = 800000; m1 = 700000; m2 = 1000000; a = 40000 }))
    ∷ through Auctioneer (Register 1 Own (record { project = 1; kind = 1; study = 0; day = 0; levels = 500000 ∷ [] }))
    ∷ through (At 2) (Register 2 Own (record { project = 2; kind = 2; study = 0; day = 0; levels = 300000 ∷ 600000 ∷ [] }))
    ∷ through Auctioneer (Register 2 Own (record { project = 2; kind = 2; study = 0; day = 0; levels = 300000 ∷ 600000 ∷ [] }))
    ∷ through Auctioneer (Register 3 Own (record { project = 2; kind = 2; study = 0; day = 0; levels = 400000 ∷ 500000 ∷ [] }))
    ∷ through Auctioneer (Open 30000)
    ∷ through Auctioneer (By 2 (Offer [] []))
    ∷ through (At 2) (By 3 (Offer [] []))
    ∷ through (At 33) (By 33 (Offer [] []))
    ∷ through (At 2) (By 2 (Offer [] []))
    ∷ []

-- developer 3 keeps its level, or comes down; then the round is closed
abbrev closed : List ℕ → List ℕ → List Seated
closed ps qs = opened ++ (through (At 3) (By 3 (Offer ps qs)) ∷ through Auctioneer Close ∷ [])

abbrev pub one : List Seated
one = closed [] []

abbrev pub other : List Seated
other = closed (35000 ∷ []) (400000 ∷ [])

abbrev Session : Type 0
Session =
    (map (λ r. r.number) (hall_answers one) ≡ 20 ∷ 20 ∷ 2 ∷ 0 ∷ 0 ∷ 20 ∷ 0 ∷ 0 ∷ 0 ∷ 20 ∷ 20 ∷ 3 ∷ 0 ∷ 0 ∷ 0 ∷ [])
    × (reading fresh_hall (At 2) ≡ record { values = record { opening = 0; closing = 0; excess = pos 0; phase = Fresh }; levels = []; offer = none })
    × (reading (hall_ledger opened) (At 2)
    ≡ record { values = record { opening = 40000; closing = 30000; excess = pos 0; phase = Round }; levels = 300000 ∷ 600000 ∷ []; offer = made [] })
    × (reading (hall_ledger opened) (At 33)
    ≡ record { values = record { opening = 40000; closing = 30000; excess = pos 0; phase = Round }; levels = []; offer = none })
    × (reading (hall_ledger one) Auditor
    ≡ record { values = record { opening = 40000; closing = 30000; excess = pos 350000; phase = Between }; levels = []; offer = none })
    × (view 2 one ≡ view 2 other)

pub session : Session
unfolding call_refusals own may_make hall_answer latest_excess hall_step hall_from hall_ledger hall_answers_from hall_answers reading
    same_excess same_phase same_values own_seat is_for asked_by made_for changes shown view_from view
session = (refl, refl, refl, refl, refl, refl)
