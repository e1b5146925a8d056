-- `highest` is the last level held.
use Rattle.std.proofs.Common.{◌∙◌, ap}
use Rattle.std.specs.Prelude.{unwrap_or}
use Rattle.engine_held.proofs.levels.Holding.{last_listed}
use Rattle.engine_held.proofs.levels.Levels.highest.Goals as goal

pub returns : goal.returns
returns c =
    rw (← c.declared.ensures)
    (c.unwrap_or.ensures ∙ ap (λ o. unwrap_or o 0) (c.copied.ensures ∙ c.last.ensures.value) ∙ last_listed _)
