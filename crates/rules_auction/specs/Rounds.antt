-- What the accepted calls do to the ledger, the ledger of a list of calls, and the answers along it (document 01, Rounds and Closing
-- price and award).
use Rattle.std.specs.Prelude.{ℕ, suc, ◌/◌, Bool, true, cond, not, ◌&&◌, ◌||◌, List, [], ◌∷◌, ◌++◌, leb, ltb, eqb, ℤ, pos, negsuc, ◌-ℤ◌}
use Rattle.rules_numbers.specs.Lists.{keep}
use Rattle.rules_auction.specs.Ledger.{Step, Move, Offer, Lodge, Cancel, agent_for, Call, SetUp, Register, Open, By, Close, Standing, none, made}
use Rattle.rules_auction.specs.Ledger.{Developer, Phase, Ready, Round, Between, Closed, Ledger, start, with_phase, with_settings, with_prices}
use Rattle.rules_auction.specs.Ledger.{with_developers, with_developer, with_course, with_offer, with_lodged, newcomer}
use Rattle.rules_auction.specs.Clearing.{supply, demand_at, remainder_at}
use Rattle.rules_auction.specs.Refusals.{floor, opening_price, refusal}

-- ---- what an accepted call does (document 01, Rounds and Closing price and award)

-- the steps of an offer's prices and levels
unfoldable pub steps : List ℕ → List ℕ → List Step
steps [] qs = []
steps (p ∷ ps) [] = []
steps (p ∷ ps) (q ∷ qs) = record { price = p; level = q } ∷ steps ps qs

-- without an offer, a developer of this kind and quantity withdraws all: one of kind 2 that is above 0 (3.7)
unfoldable pub withdraws_all : ℕ → ℕ → Bool
withdraws_all kind q = eqb kind 2 && ltb 0 q

-- a lodged step that closing a round applies: its price is from C to the opening price less 1 (document 02, 5)
unfoldable pub reaches : ℕ → ℕ → Step → Bool
reaches c o s = leb c s.price && ltb s.price o

-- the lodged steps that it applies, in their order, and those that stay lodged
unfoldable pub reached : ℕ → ℕ → List Step → List Step
reached c o ss = keep (reaches c o) ss

unfoldable pub unreached : ℕ → ℕ → List Step → List Step
unreached c o ss = keep (λ s. not (reaches c o s)) ss

-- what closing a round from o to c adds to a developer's withdrawals: the steps of its offer; without one, all at the opening price for a kind 2
-- developer above 0 (3.7), and for the others the lodged steps reached (document 02, 5)
unfoldable pub added : ℕ → ℕ → Developer → Standing → List Step
added c o x (made ss) = ss
added c o x none = cond (withdraws_all x.declared.kind x.quantity) (record { price = o; level = 0 } ∷ []) (reached c o x.lodged)

-- the last level, or q of none
unfoldable pub last_level : ℕ → List Step → ℕ
last_level q [] = q
last_level q (s ∷ ss) = last_level s.level ss

-- a developer after the closing: with these withdrawals added, and the last level added, if any, as its quantity
unfoldable pub applied : ℕ → ℕ → Developer → Developer
applied c o x =
    with_course x (last_level x.quantity (added c o x x.offer)) (x.withdrawals ++ added c o x x.offer) none (unreached c o x.lodged)

-- supply after the withdrawals at C: the sum over the projects of the greatest quantity among each one's developers
unfoldable pub supply_after : Ledger → ℕ
supply_after l = supply (λ x. (applied l.closing l.opening x).quantity) l

-- an excess in kWh per day read in thousandths of a GWh per day: what lies beyond the third decimal is dropped (document 02, 1)
unfoldable pub thousandths : ℤ → ℤ
thousandths (pos n) = pos (n / 1000)
thousandths (negsuc n) = pos 0 -ℤ pos (suc n / 1000)

abbrev pub at_most_zero : ℤ → Bool
at_most_zero (pos n) = eqb n 0
at_most_zero (negsuc n) = true

-- the auction is closed if the excess of supply over demand, so read, is 0 or less, or C is the floor (document 02, 1)
unfoldable pub clears : ℕ → ℕ → ℕ → ℕ → Bool
clears supply demand c floor = at_most_zero (thousandths (pos supply -ℤ pos demand)) || eqb c floor

unfoldable pub phase_after : Ledger → Phase
phase_after l = cond (clears (supply_after l) (demand_at l l.closing) l.closing (floor l)) Closed Between

-- a developer after an accepted move of its own: an offer stores its steps; a lodged list replaces the one before (document 02, 5); after a
-- cancellation no offer stands (document 02, 7)
unfoldable pub moved : Developer → Move → Developer
moved x (Offer ps qs) = with_offer x (made (steps ps qs))
moved x (Lodge ps qs) = with_lodged x (steps ps qs)
moved x Cancel = with_offer x none

-- the ledger after an accepted call
unfoldable pub accepted : Ledger → Call → Ledger
accepted l (SetUp s) = with_phase (with_settings l s) Ready
accepted l (Register n w x) = with_developer l n (newcomer (agent_for n w) x)
accepted l (Open c) = with_phase (with_prices l (opening_price l) c) Round
accepted l (By n m) = with_developer l n (moved (l.developers n) m)
accepted l Close = with_phase (with_developers l (λ n. applied l.closing l.opening (l.developers n))) (phase_after l)

-- ---- the ledger of a list of calls (document 01, Closing price and award)

-- a refused call changes nothing
unfoldable pub step : Ledger → Call → Ledger
step l c = cond (eqb (refusal l c) 0) (accepted l c) l

unfoldable pub step_all : Ledger → List Call → Ledger
step_all l [] = l
step_all l (c ∷ cs) = step_all (step l c) cs

-- the ledger, a term of document 01: it starts empty and is fed the calls in order
unfoldable pub ledger : List Call → Ledger
ledger cs = step_all start cs

-- ---- the answers (document 01, Rounds)

-- a call's whole answer: its number, and of a closing the excess and the remainder
pub record Answered : Type 0 where
  pub number : ℕ
  pub excess : ℤ
  pub remainder : ℕ

-- a number, and 0 in every other place
abbrev pub bare_answer : ℕ → Answered
bare_answer n = record { number = n; excess = pos 0; remainder = 0 }

-- the excess that a closing answers: supply after the withdrawals at C less Dem(C)
unfoldable pub excess : Ledger → ℤ
excess l = pos (supply_after l) -ℤ pos (demand_at l l.closing)

-- what an accepted call answers; a closing the excess, and the remainder of Dem(C) (document 02, 4)
unfoldable pub granted : Ledger → Call → Answered
granted l (SetUp s) = bare_answer 0
granted l (Register n w x) = bare_answer 0
granted l (Open c) = bare_answer 0
granted l (By n m) = bare_answer 0
granted l Close = record { number = 0; excess = excess l; remainder = remainder_at l l.closing }

-- a refusal returns its number with every other number 0 (document 01, The twelve numbers)
unfoldable pub answer : Ledger → Call → Answered
answer l c = cond (eqb (refusal l c) 0) (granted l c) (bare_answer (refusal l c))

-- the answers to a list of calls
unfoldable pub answers_from : Ledger → List Call → List Answered
answers_from l [] = []
answers_from l (c ∷ cs) = answer l c ∷ answers_from (step l c) cs

unfoldable pub answers : List Call → List Answered
answers cs = answers_from start cs
