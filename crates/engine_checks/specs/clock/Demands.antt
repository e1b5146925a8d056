-- The demand call's answer within the bounds is Dem, and its remainder.
use Rattle.std.specs.Prelude.{ℕ, ◌≡◌}
use Rattle.rules_demand.specs.Demand.{dem, InBounds, InRange}
use Rattle.rules_demand.specs.Remainder.{remainder}
use Rattle.rules_demand.specs.Range.{in_bounds_test, in_range_test}
use Rattle.rules_demand.specs.Answer.{demand_answer}

module _ (ce d m1 m2 p : ℕ) (s : InBounds ce d m1 m2) (r : InRange ce p) where
  pub demand_is : (demand_answer ce d m1 m2 p).value ≡ dem ce d m1 m2 p
  unfolding demand_answer
  demand_is = rw (in_bounds_test ce d m1 m2 s, in_range_test ce p r)

  pub remainder_is : (demand_answer ce d m1 m2 p).remainder ≡ remainder ce d m1 m2 p
  unfolding demand_answer
  remainder_is = rw (in_bounds_test ce d m1 m2 s, in_range_test ce p r)
