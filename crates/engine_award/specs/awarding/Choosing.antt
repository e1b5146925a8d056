-- The ledger in which the developer of a level is found, as far as arrays hold it, and the tests by which it is found.
use Rattle.std.specs.Prelude.{ℕ, Bool, cond, ◌&&◌, List, [], ◌∷◌, map, ltb, eqb}
use Rattle.rules_auction.specs.Ledger.{Ledger, start}
use Rattle.rules_auction.specs.Award.{open_between, most_preferred}
use Rattle.engine_held.specs.supply.Reading.{with_projects, with_studies, with_days, with_levels, with_standing}
use Rattle.engine_held.specs.levels.Held.{levels_in}
use Rattle.engine_held.specs.declared.levels.Levels.{Levels}

-- the developers' study values and start days
abbrev pub preferences_in : List ℕ → List ℕ → Ledger
preferences_in studies days = with_days (with_studies start studies) days

-- these, their projects and levels, and where they stand at price 0
abbrev pub standing_in : List ℕ → List ℕ → List ℕ → List Levels → List ℕ → List ℕ → Ledger
standing_in projects studies days declared lows highs =
    with_standing (with_levels (with_projects (preferences_in studies days) projects) (map levels_in declared)) lows highs

-- level v is above 0, and open to a developer with these levels, low and high
unfoldable pub may_get : List ℕ → ℕ → ℕ → ℕ → Bool
may_get levels low high v = ltb 0 v && open_between levels low high v

-- the preferred one of developer m and the later n; where m is 0, the latter
unfoldable pub better : Ledger → ℕ → ℕ → ℕ
better l m n = cond (eqb m 0) n (most_preferred l m (n ∷ []))
