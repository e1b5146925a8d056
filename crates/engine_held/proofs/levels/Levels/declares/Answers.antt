-- `declares` is the test `member`.
use Rattle.std.proofs.Common.{◌∙◌}
use Rattle.engine_held.proofs.levels.Holding.{listed}
use Rattle.engine_held.proofs.levels.Levels.declares.Goals as goal

pub returns : goal.returns
returns c = rw (← c.declared.ensures) (c.contains.ensures.value ∙ listed _ _)
