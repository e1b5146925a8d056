-- How the engine holds a list of at most eight numbers: with zeros behind it, and its length.
use Rattle.std.specs.Prelude.{ℕ, ◌≡◌, List, [], length, take}
use Rattle.std.proofs.Math.Seq.{take-append_seam}
use Rattle.rules_numbers.specs.Lists.{padded}
use Rattle.engine_held.specs.declared.levels.Levels.{Levels}

-- what an array of levels has behind its end
abbrev pub no_levels : Levels
no_levels = record { values = []; count = 0 }

abbrev pub held_levels : List ℕ → Levels
held_levels ls = record { values = padded 8 ls; count = length ls }

-- the levels of any struct's value
abbrev pub levels_in : Levels → List ℕ
levels_in x = take x.count x.values

-- levels that are held are all there
pub levels_read : (ls : List ℕ) → levels_in (held_levels ls) ≡ ls
levels_read ls = take-append_seam ls _
