-- Auctions with lodged lists (document 02, 5), computed: lists refused and replaced, steps applied at C and in two rounds, and the second price.
use Rattle.std.specs.Prelude.{ℕ, ◌≡◌, refl, true, false, List, [], ◌∷◌, ◌++◌}
use Rattle.rules_auction.specs.Ledger.{Offer, Lodge, Own, Call, SetUp, Register, Open, By, Close, Closed, start}
use Rattle.rules_auction.specs.Rounds.{ledger}
use Rattle.rules_auction.specs.Second.{short, second_price}
use Rattle.rules_auction.specs.Computing.{call_refusals, settled}

-- existing plants of 500,000 and 400,000 in projects 1 and 2, a new one of v in project 3; the first lodges twice, the second list counting: to
-- 300,000 at the first round's C, to 0 at the second's
abbrev lodgings : ℕ → List Call
lodgings v =
    SetUp (record { ce = 20000; d = 1000000; m1 = 900000; m2 = 1200000; a = 40000 })
    ∷ Register 1 Own (record { project = 1; kind = 1; study = 0; day = 0; levels = 300000 ∷ 500000 ∷ [] })
    ∷ By 1 (Lodge (39999 ∷ []) (0 ∷ []))
    ∷ Register 2 Own (record { project = 2; kind = 1; study = 0; day = 0; levels = 400000 ∷ [] })
    ∷ Register 3 Own (record { project = 3; kind = 2; study = 0; day = 0; levels = v ∷ [] })
    ∷ By 1 (Lodge (30000 ∷ 29990 ∷ []) (300000 ∷ 0 ∷ []))
    ∷ By 3 (Lodge [] [])
    ∷ By 4 (Lodge [] [])
    ∷ By 33 (Lodge [] [])
    ∷ By 2 (Lodge (40000 ∷ []) (0 ∷ []))
    ∷ By 2 (Lodge (9999 ∷ []) (0 ∷ []))
    ∷ By 2 (Lodge (30000 ∷ []) (300000 ∷ []))
    ∷ []

abbrev rounds : List Call
rounds =
    Open 30000
    ∷ By 2 (Lodge [] [])
    ∷ By 3 (Offer [] [])
    ∷ Close
    ∷ Open 29990
    ∷ By 3 (Offer [] [])
    ∷ Close
    ∷ []

abbrev auction : ℕ → List Call
auction v = lodgings v ++ rounds

-- 15, 6 and 7
pub lists_refused : call_refusals start (lodgings 550000) ≡ 0 ∷ 0 ∷ 0 ∷ 0 ∷ 0 ∷ 0 ∷ 15 ∷ 15 ∷ 15 ∷ 6 ∷ 6 ∷ 7 ∷ []
unfolding call_refusals
lists_refused = refl

-- 2 once a round was opened
pub refused_in_rounds : call_refusals (ledger (lodgings 550000)) rounds ≡ 0 ∷ 2 ∷ 0 ∷ 0 ∷ 0 ∷ 0 ∷ 0 ∷ []
unfolding call_refusals
refused_in_rounds = refl

-- the plant withdraws at both C, by its second list, and the auction ends
pub applied_at_both : ((ledger (auction 550000)).developers 1).withdrawals ≡ record { price = 30000; level = 300000 } ∷ record { price = 29990; level = 0 } ∷ []
unfolding call_refusals
applied_at_both = refl

pub closed_by_lists : (ledger (auction 550000)).phase ≡ Closed
unfolding call_refusals
closed_by_lists = refl

-- the award is that at the first price; the second is where the 950,000 cover that are left when project 1 is taken out
pub settled_at_first : settled (auction 550000) ≡ record {
  price = 29990;
  demand = 950050;
  remainder = 0;
  total = 1250000;
  choices = 2;
  covering = 1;
  kept = 1;
  second = 30000;
  short = false;
  insufficient = false;
  paid = 29990;
  records = (1 ∷ 1 ∷ 0 ∷ 4 ∷ 147 ∷ 224 ∷ []) ∷ (2 ∷ 2 ∷ 0 ∷ 6 ∷ 26 ∷ 128 ∷ []) ∷ (3 ∷ 3 ∷ 0 ∷ 8 ∷ 100 ∷ 112 ∷ []) ∷ [];
}
unfolding settled
settled_at_first = refl

-- A just covered by what is left, and not covered
pub just_covered : short (ledger (auction 500000)) ≡ false
unfolding settled
just_covered = refl

pub just_short : short (ledger (auction 499999)) ≡ true
unfolding settled
just_short = refl

pub short_at_a : second_price (ledger (auction 499999)) ≡ 40000
unfolding settled
short_at_a = refl
