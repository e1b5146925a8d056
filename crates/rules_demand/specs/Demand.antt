-- Dem(p), by document 01's words and by its formulas, and the bounds within which it is asked. All of it is document 01, Demand.
use Rattle.std.specs.Prelude.{ℕ, ◌+◌, ◌-◌, ◌*◌, ◌/◌, ◌%◌, ◌≤◌, ◌<◌, Bool, cond, ◌&&◌, ◌≡◌, leb, ltb, eqb}
use Rattle.rules_numbers.specs.Least.{least_from}
use Rattle.rules_demand.specs.Curve.{priced}

-- CE is even, 2 to 500,000; 0 < M1 < D < M2 <= 10^11
unfoldable pub in_bounds : ℕ → ℕ → ℕ → ℕ → Bool
in_bounds ce d m1 m2 =
    eqb (ce % 2) 0 && leb 2 ce && leb ce 500000 && ltb 0 m1 && ltb m1 d && ltb d m2 && leb m2 100000000000

-- p is from the floor, CE / 2, to 2 CE
unfoldable pub in_range : ℕ → ℕ → Bool
in_range ce p = leb (ce / 2) p && leb p (2 * ce)

-- in words: the least whole q with p(q) <= p, except M1 at 2 CE. The search may end at M2, which every price from the floor on meets
unfoldable pub dem_in_words : ℕ → ℕ → ℕ → ℕ → ℕ → ℕ
dem_in_words ce d m1 m2 p = cond (eqb p (2 * ce)) m1 (least_from (priced ce d m1 m2 p) 0 m2)

-- n / k, rounded up
abbrev pub divided_up : ℕ → ℕ → ℕ
divided_up n k = (n + (k - 1)) / k

-- by formulas: D less the whole part of (D - M1)(p - CE) / CE for p >= CE; D plus 2 (M2 - D)(CE - p) / CE, rounded up, below CE
unfoldable pub dem : ℕ → ℕ → ℕ → ℕ → ℕ → ℕ
dem ce d m1 m2 p = cond (leb ce p) (d - (d - m1) * (p - ce) / ce) (d + divided_up (2 * (m2 - d) * (ce - p)) ce)

-- the bounds once more, as the facts that laws and contracts take
pub record InBounds (ce d m1 m2 : ℕ) : Type 0 where
  pub even : ce % 2 ≡ 0
  pub ce_low : 2 ≤ ce
  pub ce_high : ce ≤ 500000
  pub m1_low : 0 < m1
  pub m1_d : m1 < d
  pub d_m2 : d < m2
  pub m2_high : m2 ≤ 100000000000

pub record InRange (ce p : ℕ) : Type 0 where
  pub low : ce / 2 ≤ p
  pub high : p ≤ 2 * ce
