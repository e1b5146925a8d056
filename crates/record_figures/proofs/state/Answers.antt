-- The state of the hall that is left.
use mathlib.Core.Path.{◌∙◌}
use mir.Facts.{to_z-of_z}
use mir.Syntax.{w64}
use mir.Val.{SFits}
use Rattle.std.proofs.Common.{rules}
use Rattle.record_figures.specs.ToldLaws.{state_told}
use Rattle.record_figures.proofs.state.Goals as goal

pub returns : goal.returns
returns c =
    let left = c.after-after.ensures in
    let fits : SFits w64 c.after-after.result.excess = search rules in
    state_told _ _ _ _ _ _ left.closings (c.state-state.ensures.state_is _ left.auction (to_z-of_z fits ∙ left.excess)) c.bare_number.ensures
