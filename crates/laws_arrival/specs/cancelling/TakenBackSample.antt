-- A cancelled offer, computed (document 02, 7): what `TakenBack` asks is met by a round in which an offer of the developer's own is refused
-- between the two, and calls of others are accepted and refused; and what follows of it, whatever stands behind.
use Rattle.std.specs.Prelude.{ℕ, ◌≡◌, refl, List, [], ◌∷◌, ◌++◌}
use Rattle.std.proofs.lemmas.Bool.{false≢true}
use Rattle.std.proofs.Common.{arith}
use Rattle.rules_numbers.specs.Lists.{keep}
use Rattle.rules_auction.specs.Ledger.{Offer, Cancel, Own, Call, SetUp, Register, Open, By, Close}
use Rattle.rules_auction.specs.Rounds.{ledger, answers_from}
use Rattle.rules_auction.specs.Computing.{call_refusals}
use Rattle.laws_arrival.specs.cancelling.TakenBack.{own, others, answers_to_others, OwnRefused, passage, TakenBack, taken}
use Rattle.laws_arrival.specs.cancelling.TakenBackLaws.{as_if_never_made}

-- developer 1 an existing plant, 2 and 3 new ones; a round is open
abbrev pub opened : List Call
opened =
    SetUp (record { ce = 20000; d = 800000; m1 = 700000; m2 = 1000000; a = 40000 })
    ∷ Register 1 Own (record { project = 1; kind = 1; study = 0; day = 0; levels = 500000 ∷ [] })
    ∷ Register 2 Own (record { project = 2; kind = 2; study = 0; day = 0; levels = 300000 ∷ [] })
    ∷ Register 3 Own (record { project = 3; kind = 2; study = 0; day = 0; levels = 400000 ∷ [] })
    ∷ Open 30000
    ∷ []

-- the offer of developer 2 that is cancelled
abbrev pub prices : List ℕ
prices = 35000 ∷ []

abbrev pub levels : List ℕ
levels = 0 ∷ []

-- between offer and cancellation: another's offer, a second one of developer 2's, and a cancellation without an offer
abbrev pub between : List Call
between = By 3 (Offer [] []) ∷ By 2 (Offer [] []) ∷ By 1 Cancel ∷ []

-- what is left of the calls from the offer to the cancellation
abbrev left : List Call
left = By 3 (Offer [] []) ∷ By 1 Cancel ∷ []

-- the second offer is refused by 8, the existing plant's cancellation by 3
pub heard : call_refusals (ledger opened) (passage 2 prices levels between) ≡ 0 ∷ 0 ∷ 8 ∷ 3 ∷ 0 ∷ []
unfolding call_refusals
heard = refl

pub taken_back : TakenBack 2 opened prices levels between
unfolding call_refusals own OwnRefused
taken_back = record { offered = refl; refused = ((λ o z. false≢true o), ((λ o. eight), ((λ o z. false≢true o), tt))); cancelled = refl }
  where
    eight : ◌≡◌ {A = ℕ} 8 0 → ⊥
    eight z = omega arith

-- whatever stands behind: one ledger, and the same answers to the calls that both lists hold
abbrev pub NeverMade : List Call → Type 0
NeverMade rest =
    (ledger (taken 2 opened prices levels between rest) ≡ ledger (opened ++ (left ++ rest)))
    × (answers_to_others 2 (ledger opened) (passage 2 prices levels between) ≡ answers_from (ledger opened) left)
    × (answers_from (ledger (opened ++ passage 2 prices levels between)) rest ≡ answers_from (ledger (opened ++ left)) rest)

pub never_made_lem : (rest : List Call) → NeverMade rest
unfolding own others keep
never_made_lem rest = let k = as_if_never_made 2 opened prices levels between taken_back rest in (k.ledgers, k.meanwhile, k.later)
