-- The remainder is from 0 to CE - 1, and makes up rounded demand with exact demand.
use Rattle.std.specs.Prelude.{ℕ, ◌+◌, ◌*◌, ◌≤◌, ◌<◌, ◌≡◌}
use native.Mathlib.Omega.{arith}
use Rattle.rules_demand.specs.Demand.{dem}
use Rattle.rules_demand.specs.Remainder.{exact_times_ce, remainder}
use Rattle.rules_demand.specs.Range.{divided_up_between}
use Rattle.rules_demand.specs.Exact.{dem_rounds_up}

-- what exact demand lacks of rounded demand is the remainder
pub lacking : (ce d m1 m2 p n : ℕ) → exact_times_ce ce d m1 m2 p + n ≡ dem ce d m1 m2 p * ce → n ≡ remainder ce d m1 m2 p
unfolding remainder
lacking ce d m1 m2 p n e = omega arith

module _ (ce d m1 m2 p : ℕ) (some : 0 < ce) where
  -- Dem is exact demand rounded up: by less than one kWh, which is CE CE-ths
  pub rounds_up : (exact_times_ce ce d m1 m2 p ≤ dem ce d m1 m2 p * ce) × (dem ce d m1 m2 p * ce < exact_times_ce ce d m1 m2 p + ce)
  rounds_up = rw (dem_rounds_up ce d m1 m2 p some) (divided_up_between (exact_times_ce ce d m1 m2 p) ce some)

  -- exact demand and the remainder make up rounded demand
  pub remainder_makes_up : exact_times_ce ce d m1 m2 p + remainder ce d m1 m2 p ≡ dem ce d m1 m2 p * ce
  unfolding remainder
  remainder_makes_up = let r = rounds_up in omega arith

  pub remainder_below_ce : remainder ce d m1 m2 p < ce
  remainder_below_ce = omega (arith, rounds_up, remainder_makes_up)
