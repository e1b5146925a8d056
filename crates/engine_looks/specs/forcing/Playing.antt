-- The game that is played: the rivals, supply with and without them, and the listed prices with Dem at each, by what an auction holds.
use Rattle.std.specs.Prelude.{ℕ, ◌≤◌, ◌<◌, ◌^◌, List, map, ltb, length, set}
use Rattle.rules_numbers.specs.Lists.{padded}
use Rattle.rules_numbers.specs.ListLaws.{Each}
use Rattle.engine_held.specs.supply.ByProject.{supply_of}
use Rattle.engine_checks.specs.clock.Reading.{demanded_at}
use Rattle.engine_checks.specs.declared.clock.Settings.{Settings}
use Rattle.engine_looks.specs.declared.rivals.Rival.{Rival}
use Rattle.engine_looks.specs.declared.rivals.Supplies.{Supplies}
use Rattle.engine_looks.specs.declared.rivals.Game.{Game}

-- a rival of this quantity before its first move; one at 0 can only keep
abbrev pub keeping : ℕ → Rival
keeping q = record { left = 0; able = ltb 0 q }

-- supply with both rivals, the first at place i and the second at place j, with one alone, with neither
abbrev pub supplies_of : List ℕ → List ℕ → ℕ → ℕ → Supplies
supplies_of projects quantities i j = record {
  both = supply_of projects quantities;
  first = supply_of projects (set quantities j 0);
  second = supply_of projects (set quantities i 0);
  neither = supply_of projects (set (set quantities i 0) j 0);
}

abbrev pub game_of : Settings → ℕ → Supplies → List ℕ → Game
game_of t standing s ps = record {
  count = length ps;
  prices = padded 10 ps;
  demands = padded 10 (map (λ p. (demanded_at t p).value) ps);
  standing = standing;
  supplies = s;
}

-- prices that fit the game's places
pub record Fitting (ps : List ℕ) : Type 0 where
  pub at_most_ten : length ps ≤ 10
  pub each : Each (λ p. p < 2 ^ 32) ps
