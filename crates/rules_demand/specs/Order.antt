-- Dem at the top price is M1, and Dem does not rise as the price rises.
use Rattle.std.specs.Prelude.{ℕ, ◌+◌, ◌-◌, ◌*◌, ◌/◌, ◌≤◌, ◌<◌, ◌≡◌}
use Rattle.std.proofs.Common.{◌∙◌, ⊎_elim, arith, mul-le-mul_left, le_trans, le-div_iff_mul-le, mul-div_cancel, div-mul-le_self}
use Rattle.rules_numbers.specs.Cases.{le_or_lt}
use Rattle.rules_demand.specs.Demand.{dem, divided_up, InBounds, InRange}
use Rattle.rules_demand.specs.Range.{dem_from_ce, dem_below_ce, range_from_ce, range_below_ce}

pub dem_top : (ce d m1 m2 : ℕ) → InBounds ce d m1 m2 → dem ce d m1 m2 (2 * ce) ≡ m1
dem_top ce d m1 m2 s = dem_from_ce ce d m1 m2 (2 * ce) (omega arith) ∙ e
  where
    some : 0 < ce
    some = omega arith

    twice : 2 * ce - ce ≡ ce
    twice = omega arith

    e : d - (d - m1) * (2 * ce - ce) / ce ≡ m1
    e = rw (twice, mul-div_cancel (d - m1) some) (omega arith)

div_mono : {x y : ℕ} (k : ℕ) → 0 < k → x ≤ y → x / k ≤ y / k
div_mono {x} k h g = (le-div_iff_mul-le h).1 (le_trans (div-mul-le_self x k) g)

pub dem_falls : (ce d m1 m2 p r : ℕ) → InBounds ce d m1 m2 → InRange ce p → InRange ce r → p ≤ r → dem ce d m1 m2 r ≤ dem ce d m1 m2 p
dem_falls ce d m1 m2 p r s a b h = ⊎_elim from (λ k. ⊎_elim (across k) below (le_or_lt ce r)) (le_or_lt ce p)
  where
    some : 0 < ce
    some = omega arith

    from : ce ≤ p → dem ce d m1 m2 r ≤ dem ce d m1 m2 p
    from k = rw (dem_from_ce ce d m1 m2 p k, dem_from_ce ce d m1 m2 r (omega arith))
        (let w : (d - m1) * (p - ce) / ce ≤ (d - m1) * (r - ce) / ce = div_mono ce some (mul-le-mul_left (d - m1) (omega arith)) in omega arith)

    across : p < ce → ce ≤ r → dem ce d m1 m2 r ≤ dem ce d m1 m2 p
    across k l = omega (arith, range_from_ce ce d m1 m2 r s b l, range_below_ce ce d m1 m2 p s a k)

    below : r < ce → dem ce d m1 m2 r ≤ dem ce d m1 m2 p
    below l = rw (dem_below_ce ce d m1 m2 p (omega arith), dem_below_ce ce d m1 m2 r l)
        (let w : divided_up (2 * (m2 - d) * (ce - r)) ce ≤ divided_up (2 * (m2 - d) * (ce - p)) ce = div_mono ce some
        (plus (mul-le-mul_left (2 * (m2 - d)) (omega arith))) in omega arith)
      where
        plus : {x y : ℕ} → x ≤ y → x + (ce - 1) ≤ y + (ce - 1)
        plus g = omega arith
