-- Games of two rivals in one auction between rounds (document 02, 11), computed, and the refusals in their order. The standing price is 30,000, the
-- floor 10,000; demand is 760,000 at 28,000, 780,000 at 24,000, 840,000 at 18,000 and 960,000 at 12,000; supply is 900,000.
use Rattle.std.specs.Prelude.{ℕ, ◌≡◌, refl, List, [], ◌∷◌, ◌++◌, map}
use Rattle.rules_numbers.specs.Lists.{one_to}
use Rattle.rules_auction.specs.Ledger.{Offer, Own, Call, SetUp, Register, Open, By, Close, Ledger}
use Rattle.rules_auction.specs.Rounds.{ledger}
use Rattle.rules_auction.specs.Computing.{call_refusals}
use Rattle.rules_forcing.specs.Game.{GameMove, Keep, Withdraw, value, best}
use Rattle.rules_forcing.specs.Forcing.{may_withdraw, withdrawing, lowest_or, outcome_of, pair_ok, list_ok, forcing_refusal, forced_outcome, first_move}

-- developer 1 an existing plant, the others new ones, 3 and 4 in one project; 5 and 6 make no offer and are at 0 after the closing
abbrev opened : List Call
opened =
    SetUp (record { ce = 20000; d = 800000; m1 = 700000; m2 = 1000000; a = 40000 })
    ∷ Register 1 Own (record { project = 1; kind = 1; study = 0; day = 0; levels = 400000 ∷ [] })
    ∷ Register 2 Own (record { project = 2; kind = 2; study = 0; day = 0; levels = 300000 ∷ [] })
    ∷ Register 3 Own (record { project = 3; kind = 2; study = 0; day = 0; levels = 100000 ∷ [] })
    ∷ Register 4 Own (record { project = 3; kind = 2; study = 0; day = 0; levels = 200000 ∷ [] })
    ∷ Register 5 Own (record { project = 4; kind = 2; study = 0; day = 0; levels = 100000 ∷ [] })
    ∷ Register 6 Own (record { project = 5; kind = 2; study = 0; day = 0; levels = 100000 ∷ [] })
    ∷ Open 30000
    ∷ By 2 (Offer [] [])
    ∷ By 3 (Offer [] [])
    ∷ By 4 (Offer [] [])
    ∷ []

abbrev between : Ledger
between = ledger (opened ++ (Close ∷ []))

-- what is forced of a pair at these prices, and the first move
abbrev Reported : ℕ → ℕ → List ℕ → ℕ → GameMove → Type 0
Reported m n ps v c = (forced_outcome between m n ps ≡ v) × (first_move between m n ps ≡ c)

abbrev Games : Type 0
Games =
    -- without 2 supply is 600,000 and covers nothing: it withdraws at once, which does not yet lower supply at that price
    Reported 2 4 (28000 ∷ 24000 ∷ []) 28000 Withdraw
    × Reported 2 4 (28000 ∷ 24000 ∷ 18000 ∷ []) 28000 Withdraw
    -- at the last price a withdrawal comes too late
    × Reported 2 4 (28000 ∷ []) 28000 Keep
    -- without 4 its partner's 100,000 count, and 800,000 cover 24,000 too: both moves are worth the same
    × Reported 4 2 (28000 ∷ 24000 ∷ []) 24000 Keep
    -- but not 18,000
    × Reported 4 2 (28000 ∷ 18000 ∷ []) 28000 Withdraw
    -- 3 has the stronger partner 4: it moves nothing
    × Reported 3 2 (28000 ∷ 24000 ∷ 18000 ∷ []) 18000 Keep
    -- both at 0
    × Reported 5 6 (28000 ∷ 18000 ∷ []) 18000 Keep
    -- no listed price is covered: the standing price
    × Reported 2 4 (12000 ∷ 11000 ∷ []) 30000 Keep
    -- the lower one alone is not: the upper one, whatever is done
    × Reported 2 4 (28000 ∷ 12000 ∷ []) 28000 Keep

abbrev Numbers : Type 0
Numbers =
    (forcing_refusal between 2 4 (28000 ∷ 24000 ∷ []) ≡ 0)
    -- ten prices, from the standing price less 1 to the floor
    × (forcing_refusal between 4 2 (29999 ∷ 28000 ∷ 26000 ∷ 24000 ∷ 22000 ∷ 20000 ∷ 18000 ∷ 16000 ∷ 14000 ∷ 10000 ∷ []) ≡ 0)
    -- one developer twice, one project, an existing plant, a number that is not registered
    × (forcing_refusal between 2 2 (28000 ∷ []) ≡ 17)
    × (forcing_refusal between 3 4 (28000 ∷ []) ≡ 17)
    × (forcing_refusal between 1 2 (28000 ∷ []) ≡ 17)
    × (forcing_refusal between 2 7 (28000 ∷ []) ≡ 17)
    -- no price, eleven, the standing price, one below the floor, one twice
    × (forcing_refusal between 2 4 [] ≡ 17)
    × (forcing_refusal between 2 4 (29999 ∷ 28000 ∷ 26000 ∷ 24000 ∷ 22000 ∷ 20000 ∷ 18000 ∷ 16000 ∷ 14000 ∷ 12000 ∷ 10000 ∷ []) ≡ 17)
    × (forcing_refusal between 2 4 (30000 ∷ []) ≡ 17)
    × (forcing_refusal between 2 4 (9999 ∷ []) ≡ 17)
    × (forcing_refusal between 2 4 (28000 ∷ 28000 ∷ []) ≡ 17)

-- 2 before 17: the round is open, the pair is one developer, no price is listed
pub phase_first : (forcing_refusal (ledger opened) 2 2 [] ≡ 2) × (forcing_refusal (ledger opened) 2 4 (28000 ∷ []) ≡ 2)
unfolding call_refusals pair_ok list_ok forcing_refusal
phase_first = (refl, refl)

pub sample :
    ((between.closing ≡ 30000) × (map (λ n. (between.developers n).quantity) (one_to 7) ≡ 400000 ∷ 300000 ∷ 100000 ∷ 200000 ∷ 0 ∷ 0 ∷ 0 ∷ []))
    × Games
    × Numbers
unfolding call_refusals value best may_withdraw withdrawing lowest_or outcome_of pair_ok list_ok forcing_refusal forced_outcome first_move
sample = (
  (refl, refl),
  ((refl, refl), (refl, refl), (refl, refl), (refl, refl), (refl, refl), (refl, refl), (refl, refl), (refl, refl), (refl, refl)),
  (refl, refl, refl, refl, refl, refl, refl, refl, refl, refl, refl),
)
