-- Auctions with agents (document 02, 10), computed: registrations by both frames, agents refused, an agent with exactly 15 per cent of D, and
-- exactly half of the new award given to small agents.
use Rattle.std.specs.Prelude.{ℕ, ◌≡◌, refl, Bool, true, false, List, [], ◌∷◌, ◌++◌}
use Rattle.rules_auction.specs.Ledger.{Offer, Own, Named, Call, SetUp, Register, Open, By, Close, start}
use Rattle.rules_auction.specs.Computing.{call_refusals, settled}

-- agent 5 has the existing plant 1, of u, and the new one 2, of v; agent 3 the new one 3, of w; agent 4 the existing one 4, of 200,000
abbrev registered : ℕ → ℕ → ℕ → List Call
registered u v w =
    SetUp (record { ce = 20000; d = 1000000; m1 = 900000; m2 = 1200000; a = 40000 })
    ∷ Register 1 (Named 5) (record { project = 1; kind = 1; study = 0; day = 0; levels = u ∷ [] })
    ∷ Register 2 (Named 0) (record { project = 2; kind = 2; study = 0; day = 0; levels = v ∷ [] })
    ∷ Register 2 (Named 33) (record { project = 2; kind = 3; study = 0; day = 0; levels = v ∷ [] })
    ∷ Register 2 (Named 5) (record { project = 2; kind = 3; study = 0; day = 0; levels = v ∷ [] })
    ∷ Register 2 (Named 5) (record { project = 2; kind = 2; study = 0; day = 0; levels = v ∷ [] })
    ∷ Register 3 Own (record { project = 3; kind = 2; study = 0; day = 0; levels = w ∷ [] })
    ∷ Register 4 (Named 4) (record { project = 4; kind = 1; study = 0; day = 0; levels = 200000 ∷ [] })
    ∷ []

-- one round, in which nobody withdraws
abbrev round : List Call
round = Open 29990 ∷ By 2 (Offer [] []) ∷ By 3 (Offer [] []) ∷ Close ∷ []

-- P, the mark of insufficient participation and the price paid to existing plants
abbrev Paid : ℕ → ℕ → ℕ → ℕ → Bool → ℕ → Type 0
Paid u v w p mark paid =
    let s = settled (registered u v w ++ round) in
    (s.price ≡ p) × (s.insufficient ≡ mark) × (s.paid ≡ paid)

-- 3 for the agents 0 and 33, before 4
pub agents_refused : call_refusals start (registered 150000 300000 300000) ≡ 0 ∷ 0 ∷ 3 ∷ 3 ∷ 4 ∷ 0 ∷ 0 ∷ 0 ∷ []
unfolding call_refusals
agents_refused = refl

-- with 15 per cent agent 5 is not small: half of the new award is enough, and less is not, CE x 11 / 10 being 22,000
pub half_is_enough : Paid 150000 300000 300000 30000 false 30000
unfolding settled
half_is_enough = (refl, refl, refl)

pub less_is_not : Paid 150000 300001 299999 30000 true 22000
unfolding settled
less_is_not = (refl, refl, refl)

-- below 15 per cent it is small, and all the new award is given to small agents
pub small_agents : Paid 149999 300002 299999 30000 false 30000
unfolding settled
small_agents = (refl, refl, refl)
