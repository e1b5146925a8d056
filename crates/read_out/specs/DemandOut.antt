-- READ OUT, the demand call (document 01, Demand; document 02, 4): any five numbers CE, D, M1, M2 and p get one answer, and it is in the curve's words.
use Rattle.std.specs.Prelude.{ℕ, ◌+◌, ◌*◌, ◌≤◌, ◌<◌, ◌≡◌, ◌↔◌, true, false, Result, Err}
use Rattle.rules_numbers.specs.Least.{Least}
use Rattle.rules_demand.specs.Curve.{priced, PricedAt}
use Rattle.rules_demand.specs.Remainder.{exact_times_ce}
use Rattle.engine_refusals.specs.declared.Refusal.{Refusal}
use Rattle.engine_refusals.specs.declared.Refusal.TheVariants.{BeyondBounds}
use Rattle.engine_demand.specs.Answers.{demanded_in}
use Rattle.engine_demand.specs.declared.Demanded.{Demanded}
use Rattle.engine_demand.proofs.demand.Reads as demanding
use Rattle.statement.specs.DemandStated.{Asked, demanded_as, within, DemandIs, DemandAnswered}
use Rattle.statement.specs.EngineCorrect.{EngineCorrect}

module _ {M : Type 1} (s : EngineCorrect M) (ce d m1 m2 p : ℕ) where
  -- nothing is asked of the numbers, and they get an answer
  pub nothing_asked : demanding.Pre tt (ce, (d, (m1, (m2, (p, tt)))))
  nothing_asked = s.demand.asks_nothing ce d m1 m2 p

  pub some_demand : (r : Result Demanded Refusal) × Asked ce d m1 m2 p r
  some_demand = s.demand.some_answer ce d m1 m2 p

  -- which is as stated, and no other
  pub demand_stated : (r : Result Demanded Refusal) → Asked ce d m1 m2 p r → DemandAnswered ce d m1 m2 p r
  demand_stated r q = s.demand.answered ce d m1 m2 p r q

  -- what is stated holds of one answer alone
  pub demand_decided : (r r' : Result Demanded Refusal) → DemandAnswered ce d m1 m2 p r → DemandAnswered ce d m1 m2 p r' → r ≡ r'
  demand_decided r r' a a' = s.demand.determines ce d m1 m2 p r r' a a'

  pub same_demand : (r r' : Result Demanded Refusal) → Asked ce d m1 m2 p r → Asked ce d m1 m2 p r' → r ≡ r'
  same_demand r r' q q' = demand_decided r r' (demand_stated r q) (demand_stated r' q')

  module _ (r : Result Demanded Refusal) (q : Asked ce d m1 m2 p r) where
    -- refused exactly outside the bounds
    pub demand_refused : (within ce d m1 m2 p ≡ false) ↔ (r ≡ Err BeyondBounds)
    demand_refused = (demand_stated r q).refused

    module _ (t : within ce d m1 m2 p ≡ true) where
      -- within them it is a quantity and a remainder
      pub demand_accepted : (n : ℕ) × (e : ℕ) × (r ≡ demanded_as n e) × DemandIs ce d m1 m2 p n e
      demand_accepted = (demand_stated r q).accepted t

      abbrev quantity : ℕ
      quantity = demand_accepted.0

      abbrev remainder : ℕ
      remainder = demand_accepted.1

      -- the least quantity that the curve prices at most p; M1 at the top price
      pub least_quantity : p < 2 * ce → Least (priced ce d m1 m2 p) 0 m2 quantity
      least_quantity = demand_accepted.3.least

      pub top_quantity : p ≡ 2 * ce → quantity ≡ m1
      top_quantity = demand_accepted.3.top

      -- the remainder makes up exact demand, is below CE, and leaves the quantity that the curve prices at p itself
      pub remainder_makes_up : exact_times_ce ce d m1 m2 p + remainder ≡ quantity * ce
      remainder_makes_up = demand_accepted.3.makes_up

      pub remainder_below : remainder < ce
      remainder_below = demand_accepted.3.below_ce

      pub exact_demand : (n : ℕ) → m1 * ce ≤ n → n ≤ m2 * ce → (n + remainder ≡ quantity * ce) ↔ PricedAt ce (d * ce) (m1 * ce) (m2 * ce) p n
      exact_demand = demand_accepted.3.exact

module _ {M : Type 1} (s : EngineCorrect M) where
  -- as numbers: refused, 1 with 0 in every other place; accepted, 0 with quantity and remainder
  pub demand_numbers :
      (demanded_in (Err BeyondBounds) ≡ record { number = 1; value = 0; remainder = 0 })
      × ((q e : ℕ) → demanded_in (demanded_as q e) ≡ record { number = 0; value = q; remainder = e })
  demand_numbers = s.demand.numbers
