-- The remainder beside Dem (document 02, 4): what rounding adds to exact demand, in CE-ths of a kWh. Exact demand at p is the quantity from
-- M1 to M2 that the curve prices at p itself (ExactInverse); it need not be whole, but CE times it is.
use Rattle.std.specs.Prelude.{ℕ, ◌+◌, ◌-◌, ◌*◌, cond, leb}
use Rattle.rules_demand.specs.Demand.{dem}

-- exact demand times CE: D CE - (D - M1)(p - CE) for p >= CE; D CE + 2 (M2 - D)(CE - p) below CE
unfoldable pub exact_times_ce : ℕ → ℕ → ℕ → ℕ → ℕ → ℕ
exact_times_ce ce d m1 m2 p = cond (leb ce p) (d * ce - (d - m1) * (p - ce)) (d * ce + 2 * (m2 - d) * (ce - p))

-- the remainder, a term of document 02: rounded demand times CE less exact demand times CE
unfoldable pub remainder : ℕ → ℕ → ℕ → ℕ → ℕ → ℕ
remainder ce d m1 m2 p = dem ce d m1 m2 p * ce - exact_times_ce ce d m1 m2 p
