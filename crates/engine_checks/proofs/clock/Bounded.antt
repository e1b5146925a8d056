-- The demand call's value is at most M2's bound.
use Prim.Native.Nat.{ℕ, ◌≤◌}
use mathlib.Core.Path.{◌≡◌, refl}
use mathlib.Core.Bool.{Bool, true, false, cond, ◌&&◌}
use native.Mathlib.Omega.{arith}
use Rattle.rules_numbers.specs.Cases.{and_true}
use Rattle.rules_demand.specs.Demand.{dem, in_bounds, in_range}
use Rattle.rules_demand.specs.Remainder.{remainder}
use Rattle.rules_demand.specs.Range.{in_bounds_lem, in_range_lem, dem_range}
use Rattle.rules_demand.specs.Answer.{Answer, demand_answer}

demand_small : (ce d m1 m2 p : ℕ) → (demand_answer ce d m1 m2 p).value ≤ 100000000000
unfolding demand_answer
demand_small ce d m1 m2 p = go (in_bounds ce d m1 m2 && in_range ce p) refl
  where
    given : Answer
    given = record { number = 0; value = dem ce d m1 m2 p; remainder = remainder ce d m1 m2 p }

    beyond : Answer
    beyond = record { number = 1; value = 0; remainder = 0 }

    go : (b : Bool) → (in_bounds ce d m1 m2 && in_range ce p) ≡ b → (cond b given beyond).value ≤ 100000000000
    go true e =
        let t = and_true (in_bounds ce d m1 m2) (in_range ce p) e in
        let s = in_bounds_lem ce d m1 m2 t.0 in
        let r = dem_range ce d m1 m2 p s (in_range_lem ce p t.1) in
        omega arith
    go false e = omega arith

pub demand_bounded : (ce d m1 m2 p : ℕ) {n : ℕ} → n ≡ (demand_answer ce d m1 m2 p).value → (n ≡ (demand_answer ce d m1 m2 p).value) × (n ≤ 100000000000)
demand_bounded ce d m1 m2 p e = (e, omega (arith, demand_small ce d m1 m2 p))
