-- An auction with cancellations (document 02, 7), computed: each refusal in its order, an offer made again, one of no steps cancelled, one missing
-- after its cancellation, and one that a closing has applied.
use Rattle.std.specs.Prelude.{◌≡◌, refl, List, [], ◌∷◌, ◌++◌}
use Rattle.rules_auction.specs.Ledger.{Offer, Cancel, Own, Call, SetUp, Register, Open, By, Close, start}
use Rattle.rules_auction.specs.Rounds.{ledger}
use Rattle.rules_auction.specs.Computing.{call_refusals}

-- developer 1 an existing plant, 2 and 3 new ones; no round is open at first
abbrev registered : List Call
registered =
    SetUp (record { ce = 20000; d = 800000; m1 = 700000; m2 = 1000000; a = 40000 })
    ∷ Register 1 Own (record { project = 1; kind = 1; study = 0; day = 0; levels = 500000 ∷ [] })
    ∷ Register 2 Own (record { project = 2; kind = 2; study = 0; day = 0; levels = 300000 ∷ 600000 ∷ [] })
    ∷ Register 3 Own (record { project = 3; kind = 2; study = 0; day = 0; levels = 400000 ∷ [] })
    ∷ By 2 Cancel
    ∷ Open 30000
    ∷ []

-- offers made and cancelled in two rounds
abbrev cancelling : List Call
cancelling =
    By 2 (Offer (35000 ∷ []) (300000 ∷ []))
    ∷ By 3 (Offer [] [])
    ∷ By 2 (Offer [] [])
    ∷ By 2 Cancel
    ∷ By 2 Cancel
    ∷ By 3 Cancel
    ∷ By 3 (Offer [] [])
    ∷ By 2 (Offer (36000 ∷ []) (300000 ∷ []))
    ∷ By 2 Cancel
    ∷ Close
    ∷ By 3 Cancel
    ∷ Open 29990
    ∷ By 3 Cancel
    ∷ []

-- 2 without a round; in one 3 before 16, and 16 while no offer stands
pub cancelled_too_early : call_refusals start registered ≡ 0 ∷ 0 ∷ 0 ∷ 0 ∷ 2 ∷ 0 ∷ []
unfolding call_refusals
cancelled_too_early = refl

pub no_new_plants : call_refusals (ledger registered) (By 1 Cancel ∷ By 4 Cancel ∷ By 33 Cancel ∷ []) ≡ 3 ∷ 3 ∷ 3 ∷ []
unfolding call_refusals
no_new_plants = refl

pub no_offer_stands : call_refusals (ledger registered) (By 2 Cancel ∷ []) ≡ 16 ∷ []
unfolding call_refusals
no_offer_stands = refl

-- 8 for a second offer, and 16 for a second cancellation
pub once_each : call_refusals (ledger registered) cancelling ≡ 0 ∷ 0 ∷ 8 ∷ 0 ∷ 16 ∷ 0 ∷ 0 ∷ 0 ∷ 0 ∷ 0 ∷ 2 ∷ 0 ∷ 16 ∷ []
unfolding call_refusals
once_each = refl

-- developer 2 has no offer at the closing and withdraws at the opening price; developer 3's stood
pub missing_when_cancelled : ((ledger (registered ++ cancelling)).developers 2).withdrawals ≡ record { price = 40000; level = 0 } ∷ []
unfolding call_refusals
missing_when_cancelled = refl

pub made_again : ((ledger (registered ++ cancelling)).developers 3).withdrawals ≡ []
unfolding call_refusals
made_again = refl
