-- std's `div_ceil` is the division that rounds up.
use Rattle.std.specs.Int.{div_ceil}
use Rattle.std.proofs.Common.{ℕ, ◌+◌, ◌*◌, ◌≤◌, ◌<◌, ◌≡◌, arith, mul-le-mul}
use Rattle.std.proofs.lemmas.Grind.{div_ceil_times}
use Rattle.rules_demand.specs.Demand.{divided_up}
use Rattle.rules_demand.specs.Range.{divided_up_le, in_bounds_test, in_range_test}
use Rattle.rules_demand.specs.Exact.{dem_rounds_up}

pub div_ceil_lem : (n k : ℕ) → 0 < k → div_ceil n k ≡ divided_up n k
div_ceil_lem n k h =
    let between = div_ceil_times n k h in
    let least : divided_up n k ≤ div_ceil n k = (divided_up_le n k (div_ceil n k) h).1 between.0 in
    let enough : n ≤ divided_up n k * k = (divided_up_le n k (divided_up n k) h).0 (omega arith) in
    let more : divided_up n k < div_ceil n k → (divided_up n k + 1) * k ≤ div_ceil n k * k =
    λ g. mul-le-mul {n₂ = div_ceil n k} {m₂ = k} (omega arith) (omega arith) in grind arith

-- what `rounded` stands on
pub ruleset rounded_up = (div_ceil_lem, dem_rounds_up, in_bounds_test, in_range_test)
