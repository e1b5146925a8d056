-- Dem in words: below 2 CE, the least quantity that the curve prices at most p.
use Rattle.std.specs.Prelude.{ℕ, ◌*◌, ◌≤◌, ◌<◌}
use Rattle.std.proofs.Common.{zero-le, arith}
use Rattle.rules_numbers.specs.Cases.{never_true}
use Rattle.rules_numbers.specs.Least.{Least}
use Rattle.rules_demand.specs.Curve.{priced}
use Rattle.rules_demand.specs.Demand.{dem, InBounds, InRange}
use Rattle.rules_demand.specs.Range.{dem_range}
use Rattle.rules_demand.specs.Inverse.{dem_inverse}

pub dem_least : (ce d m1 m2 p : ℕ) → InBounds ce d m1 m2 → InRange ce p → p < 2 * ce → Least (priced ce d m1 m2 p) 0 m2 (dem ce d m1 m2 p)
dem_least ce d m1 m2 p s a h = record {
  low = zero-le;
  high = (dem_range ce d m1 m2 p s a).1;
  passes = (dem_inverse ce d m1 m2 p s a h (dem ce d m1 m2 p)).0 (omega arith);
  none = λ q l g. never_true _ (λ t. let k : dem ce d m1 m2 p ≤ q = (dem_inverse ce d m1 m2 p s a h q).1 t in omega arith);
}
