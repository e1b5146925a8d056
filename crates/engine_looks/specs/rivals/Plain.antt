-- The game of two rivals over plain numbers: what stands of a rival, supply as it stands, and the outcome.
use Rattle.std.specs.Prelude.{ℕ, min, ◌≤◌, Bool, true, false, cond, List, [], ◌∷◌, leb, ltb, length, take, drop}
use Rattle.rules_forcing.specs.Game.{Side, First, Second, GameMove, Keep, Withdraw, value, best}
use Rattle.engine_looks.specs.declared.rivals.Rival.{Rival}
use Rattle.engine_looks.specs.declared.rivals.Supplies.{Supplies}
use Rattle.engine_looks.specs.declared.rivals.Game.{Game}

-- a rival that withdraws at p, and may not again
abbrev pub leaving : ℕ → Rival → Rival
leaving p x = record { left = p; able = false }

-- supply at p: a withdrawal counts below its price only
unfoldable pub supply_at : Supplies → ℕ → Rival → Rival → ℕ
supply_at s p x y =
    cond (ltb p x.left)
    (cond (ltb p y.left) s.neither s.second)
    (cond (ltb p y.left) s.first s.both)

-- of prices with the demand at each, the lowest whose demand is at most the supply there, or o if there is none
unfoldable pub lowest_covered : (ℕ → ℕ) → ℕ → List ℕ → List ℕ → ℕ
lowest_covered s o [] ds = o
lowest_covered s o (p ∷ ps) [] = o
lowest_covered s o (p ∷ ps) (d ∷ ds) = cond (leb d (s p)) (min p (lowest_covered s o ps ds)) (lowest_covered s o ps ds)

-- the listed prices, and the demands
abbrev pub listed_in : Game → List ℕ
listed_in g = take g.count g.prices

abbrev pub demands_in : Game → List ℕ
demands_in g = take g.count g.demands

unfoldable pub outcome_in : Game → Rival → Rival → ℕ
outcome_in g x y = lowest_covered (λ p. supply_at g.supplies p x y) g.standing (listed_in g) (demands_in g)

-- the game's value where this side moves at the price of this place
abbrev pub value_in : Side → Game → ℕ → Rival → Rival → ℕ
value_in s g at x y = value (λ r. r.able) leaving (outcome_in g) s x y (drop at (listed_in g))

abbrev pub high_in : Game → ℕ → Rival → Rival → ℕ
high_in = value_in First

abbrev pub low_in : Game → ℕ → Rival → Rival → ℕ
low_in = value_in Second

unfoldable pub withdraws_by : GameMove → Bool
withdraws_by Keep = false
withdraws_by Withdraw = true

-- whether the best first move is to withdraw
abbrev pub withdraws_in : Game → Rival → Rival → Bool
withdraws_in g x y = withdraws_by (best (λ r. r.able) leaving (outcome_in g) x y (listed_in g))

-- as many prices and demands as are counted, in 10 places
pub record Held (g : Game) : Type 0 where
  pub at_most_ten : g.count ≤ 10
  pub prices : g.count ≤ length g.prices
  pub demands : g.count ≤ length g.demands
