-- The supply curve of a ledger (document 02, 9): its distinct withdrawal prices, falling, each with total supply before and after it.
use Rattle.std.specs.Prelude.{ℕ, cond, ltb}
use mathlib.Core.List.{List, [], ◌∷◌, map, flatten}
use Rattle.rules_numbers.specs.Lists.{one_to}
use Rattle.rules_numbers.specs.Falling.{distinct_falling}
use Rattle.rules_auction.specs.Ledger.{Ledger}
use Rattle.rules_auction.specs.Clearing.{high, low, supply}

-- the prices of all withdrawals, developer by developer: steps of offers, missing offers and lodged steps alike
unfoldable pub withdrawal_prices : Ledger → List ℕ
withdrawal_prices l = flatten (map (λ n. map (λ w. w.price) (l.developers n).withdrawals) (one_to 32))

-- a withdrawal price, with total supply before it and after it
pub record Point : Type 0 where
  pub price : ℕ
  pub before : ℕ
  pub after : ℕ

-- before it: the sum of the projects' highs there; after it: the sum of their lows there
unfoldable pub point_at : Ledger → ℕ → Point
point_at l p = record { price = p; before = supply (high p) l; after = supply (low p) l }

unfoldable pub supply_curve : Ledger → List Point
supply_curve l = map (point_at l) (distinct_falling (withdrawal_prices l))

-- past the end of the curve
abbrev pub no_point : Point
no_point = record { price = 0; before = 0; after = 0 }

-- the supply at p that a curve says, `s` being that before its first point: what is left after the lowest point above p
unfoldable pub supplied_at : ℕ → List Point → ℕ → ℕ
supplied_at s [] p = s
supplied_at s (x ∷ xs) p = cond (ltb p x.price) (supplied_at x.after xs p) s
