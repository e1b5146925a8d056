-- How the engine keeps a supply curve, and what the functions over it ensure.
use Rattle.std.specs.Prelude.{ℕ, zero, suc, ◌+◌, ◌*◌, ◌%◌, ◌≤◌, ◌<◌, ◌≡◌, List, [], ◌∷◌, ◌++◌, map, length, get_or}
use Rattle.rules_numbers.specs.Lists.{padded}
use Rattle.rules_numbers.specs.ListLaws.{Each}
use Rattle.rules_supply_curve.specs.Curve.{Point, no_point, supplied_at}
use Rattle.rules_supply_curve.specs.CurveLaws.{Joined}
use Rattle.rules_supply_curve.specs.Closings.{trimmed}
use Rattle.engine_curve.specs.declared.kept_curve.SupplyCurve.{SupplyCurve}
use Rattle.engine_curve.specs.declared.kept_curve.CurvePoint.{CurvePoint}

-- a point's word: its price times 2^40, and the supply after it
abbrev pub held_point : Point → ℕ
held_point x = x.price * 1099511627776 + x.after

-- the curve in lent words, of which the first `count` are points
abbrev pub lent_curve : List ℕ → ℕ → SupplyCurve
lent_curve words count = record { words = words; count = count }

unfoldable pub held_curve : List Point → SupplyCurve
held_curve xs = record { words = padded 256 (map held_point xs); count = length xs }

-- a point that a word holds
pub record Fits (x : Point) : Type 0 where
  pub price_high : x.price ≤ 1000000
  pub after_high : x.after < 1099511627776

-- without the last point where that stands at p
pub record Trimmed (c : SupplyCurve) (p : ℕ) (r : SupplyCurve) : Type 0 where
  pub trims : (xs : List Point) → c ≡ held_curve xs → length xs ≤ 256 → Each Fits xs → r ≡ held_curve (trimmed p xs)

-- with the point x more
pub record WithPoint (c : SupplyCurve) (price after : ℕ) (r : SupplyCurve) : Type 0 where
  pub appends : (xs : List Point) (x : Point) → c ≡ held_curve xs → length xs < 256 → Fits x → price ≡ x.price → after ≡ x.after →
      r ≡ held_curve (xs ++ (x ∷ []))

-- the supply after the point before a place
unfoldable pub supply_before : List ℕ → ℕ → ℕ → ℕ
supply_before words first zero = first
supply_before words first (suc i) = get_or words i 0 % 1099511627776

abbrev pub point_in : CurvePoint → Point
point_in r = record { price = r.price; before = r.before; after = r.after }

-- the point at a place, zero past the end
pub record PointAt (c : SupplyCurve) (first place : ℕ) (r : CurvePoint) : Type 0 where
  pub point_is : (xs : List Point) → c ≡ held_curve xs → length xs ≤ 256 → Each Fits xs → Joined first xs → point_in r ≡ get_or xs place no_point

-- the supply at a price, looked up in the words of a curve
pub record SuppliedAt (words : List ℕ) (count first p r : ℕ) : Type 0 where
  pub supply_is : (xs : List Point) → lent_curve words count ≡ held_curve xs → length xs ≤ 256 → Each Fits xs → r ≡ supplied_at first xs p
