-- An auction's supply curve (document 02, 9), computed after each of two rounds: a withdrawal that changes no total, a lodged step, and a missing
-- offer that withdraws where that step did, at the first round's C.
use Rattle.std.specs.Prelude.{◌≡◌, refl}
use mathlib.Core.List.{List, [], ◌∷◌, ◌++◌, flatten}
use Rattle.rules_numbers.specs.Falling.{placed_once, distinct_falling}
use Rattle.rules_auction.specs.Ledger.{Offer, Lodge, Own, Call, SetUp, Register, Open, By, Close}
use Rattle.rules_auction.specs.Clearing.{low}
use Rattle.rules_auction.specs.Rounds.{ledger}
use Rattle.rules_auction.specs.Computing.{call_refusals}
use Rattle.rules_supply_curve.specs.Curve.{withdrawal_prices, point_at, supply_curve}

-- an existing plant that lodges a step at the first round's C; developers 2 and 3 share a project, 3 is the smaller one
abbrev first_round : List Call
first_round =
    SetUp (record { ce = 20000; d = 1000000; m1 = 900000; m2 = 1200000; a = 40000 })
    ∷ Register 1 Own (record { project = 1; kind = 1; study = 0; day = 0; levels = 300000 ∷ 500000 ∷ [] })
    ∷ Register 2 Own (record { project = 2; kind = 2; study = 0; day = 0; levels = 400000 ∷ 600000 ∷ [] })
    ∷ Register 3 Own (record { project = 2; kind = 2; study = 0; day = 0; levels = 200000 ∷ [] })
    ∷ Register 4 Own (record { project = 3; kind = 2; study = 0; day = 0; levels = 700000 ∷ [] })
    ∷ By 1 (Lodge (30000 ∷ []) (300000 ∷ []))
    ∷ Open 30000
    ∷ By 2 (Offer (36000 ∷ []) (400000 ∷ []))
    ∷ By 3 (Offer (35000 ∷ []) (0 ∷ []))
    ∷ By 4 (Offer [] [])
    ∷ Close
    ∷ []

-- developer 2 makes no offer
abbrev second_round : List Call
second_round = Open 29990 ∷ By 4 (Offer [] []) ∷ Close ∷ []

-- the points above the last price stay, and 30,000 stands there once
abbrev CurveSample : Type 0
CurveSample =
    (supply_curve (ledger first_round) ≡ record { price = 36000; before = 1800000; after = 1600000 }
    ∷ record { price = 35000; before = 1600000; after = 1600000 } ∷ record { price = 30000; before = 1600000; after = 1400000 } ∷ [])
    × (supply_curve (ledger (first_round ++ second_round)) ≡ record { price = 36000; before = 1800000; after = 1600000 }
    ∷ record { price = 35000; before = 1600000; after = 1600000 } ∷ record { price = 30000; before = 1600000; after = 1000000 } ∷ [])

pub curve_sample : CurveSample
unfolding call_refusals placed_once distinct_falling flatten low withdrawal_prices point_at supply_curve
curve_sample = (refl, refl)
