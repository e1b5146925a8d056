-- A round in two orders (document 02, 12), computed: an offer taken back and made again, among others' offers; and why calls of one developer
-- keep their order: of two offers the first one stands.
use Rattle.std.specs.Prelude.{ℕ, zero, suc, ◌≡◌, refl, List, [], ◌∷◌, map, length, get_or}
use Rattle.std.proofs.Common.{ap, arith, ne_eqb}
use Rattle.rules_numbers.specs.Lists.{keep, all}
use Rattle.rules_auction.specs.Ledger.{Offer, Cancel, Own, Call, SetUp, Register, Open, By, Close, made}
use Rattle.rules_auction.specs.Rounds.{step_all, ledger}
use Rattle.rules_auction.specs.Computing.{call_refusals}
use Rattle.laws_arrival.specs.cancelling.TakenBack.{own}
use Rattle.rules_replies.specs.Orders.{Asks}
use Rattle.rules_replies.specs.WrittenOrders.{paired, raw_of}
use Rattle.laws_arrival.specs.arrival.Arrival.{with_answers, is_move, Reordered, answered_from}

-- developer 1 an existing plant, 2 and 3 new ones; a round is open
abbrev pub opened : List Call
opened =
    SetUp (record { ce = 20000; d = 800000; m1 = 700000; m2 = 1000000; a = 40000 })
    ∷ Register 1 Own (record { project = 1; kind = 1; study = 0; day = 0; levels = 500000 ∷ [] })
    ∷ Register 2 Own (record { project = 2; kind = 2; study = 0; day = 0; levels = 300000 ∷ 600000 ∷ [] })
    ∷ Register 3 Own (record { project = 3; kind = 2; study = 0; day = 0; levels = 400000 ∷ [] })
    ∷ Open 30000
    ∷ []

abbrev pub partly : Call
partly = By 2 (Offer (35000 ∷ []) (300000 ∷ []))

abbrev pub nothing : ℕ → Call
nothing n = By n (Offer [] [])

abbrev pub one : List Call
one = partly ∷ nothing 3 ∷ By 2 Cancel ∷ By 1 Cancel ∷ nothing 2 ∷ []

abbrev pub other : List Call
other = By 1 Cancel ∷ partly ∷ By 2 Cancel ∷ nothing 2 ∷ nothing 3 ∷ []

pub both : Reordered one other
unfolding keep all own is_move
both = record { moves = refl; moves' = refl; each = each }
  where
    each : (n : ℕ) → keep (own n) one ≡ keep (own n) other
    each zero = refl
    each (suc zero) = refl
    each (suc (suc zero)) = refl
    each (suc (suc (suc zero))) = refl
    each (suc (suc (suc (suc n)))) =
        let m = suc (suc (suc (suc n))) in
        rw (ne_eqb 1 m (λ e. omega arith), ne_eqb 2 m (λ e. omega arith), ne_eqb 3 m (λ e. omega arith)) refl

abbrev numbers : List Call → List ℕ
numbers cs = map (λ t. t.1.number) (answered_from (ledger opened) cs)

abbrev Orders : Type 0
Orders =
    (numbers one ≡ 0 ∷ 0 ∷ 0 ∷ 3 ∷ 0 ∷ [])
    × (numbers other ≡ 3 ∷ 0 ∷ 0 ∷ 0 ∷ 0 ∷ [])
    × (numbers (partly ∷ nothing 2 ∷ []) ≡ 0 ∷ 8 ∷ [])
    × (((step_all (ledger opened) (partly ∷ nothing 2 ∷ [])).developers 2).offer ≡ made (record { price = 35000; level = 300000 } ∷ []))
    × (((step_all (ledger opened) (nothing 2 ∷ partly ∷ [])).developers 2).offer ≡ made [])

pub orders : Orders
unfolding call_refusals with_answers
orders = (refl, refl, refl, refl, refl)

-- the number of a call's steps
abbrev steps_in : Call → ℕ
steps_in c = length (raw_of (Asks c)).fields

-- two offers of one developer, exchanged, are not the same calls in the same order
pub one_developers : Reordered (partly ∷ nothing 2 ∷ []) (nothing 2 ∷ partly ∷ []) → ⊥
unfolding keep own paired
one_developers h = omega (arith, ap (λ (cs : List Call). get_or (map steps_in cs) 0 0) (h.each 2))
