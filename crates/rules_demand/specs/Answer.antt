-- The demand call's answer (document 01, Demand and The twelve numbers; document 02, 4): Dem(p) with its remainder, or refusal 1 outside the
-- bounds.
use Rattle.std.specs.Prelude.{ℕ, cond, ◌&&◌}
use Rattle.rules_demand.specs.Demand.{dem, in_bounds, in_range}
use Rattle.rules_demand.specs.Remainder.{remainder}

-- number 0 is an acceptance, every other one a refusal, with 0 in every other place
pub record Answer : Type 0 where
  pub number : ℕ
  pub value : ℕ
  pub remainder : ℕ

-- Dem(p) and its remainder; refusal 1 for settings beyond their bounds, or a price out of range
unfoldable pub demand_answer : ℕ → ℕ → ℕ → ℕ → ℕ → Answer
demand_answer ce d m1 m2 p =
    cond (in_bounds ce d m1 m2 && in_range ce p)
    (record { number = 0; value = dem ce d m1 m2 p; remainder = remainder ce d m1 m2 p })
    (record { number = 1; value = 0; remainder = 0 })
