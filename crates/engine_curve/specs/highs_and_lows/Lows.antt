-- What the functions over all developers' levels and histories ensure, for arrays that hold those of a sound ledger.
use Rattle.std.specs.Prelude.{ℕ, ◌+◌, ◌≡◌, cond, List, ltb}
use Rattle.rules_auction.specs.Ledger.{Ledger}
use Rattle.rules_auction.specs.Clearing.{highest, low, of_each}
use Rattle.laws_ledger.specs.Sound.{Sound}
use Rattle.engine_held.specs.levels.Held.{held_levels}
use Rattle.engine_held.specs.declared.levels.Levels.{Levels}
use Rattle.engine_held.specs.declared.history.History.{History}
use Rattle.engine_moves.specs.closing_entries.Courses.{held_course}

-- each developer's highest level, from the levels it declared
pub record Highests (declared : List Levels) (r : List ℕ) : Type 0 where
  pub highest_are : (l : Ledger) → Sound l → declared ≡ of_each (λ x. held_levels x.declared.levels) l → r ≡ of_each highest l

-- each developer's low at p, from its history and its highest level
pub record Lows (histories : List History) (firsts : List ℕ) (p : ℕ) (r : List ℕ) : Type 0 where
  pub lows_are : (l : Ledger) → Sound l → histories ≡ of_each held_course l → firsts ≡ of_each highest l → r ≡ of_each (low p) l

-- the number behind p; none is behind the last one of 32 bits, which is above every price
unfoldable pub next_price : ℕ → ℕ
next_price p = cond (ltb p 4294967295) (p + 1) p
