-- The closing is refused, or its figures are lent.
use mathlib.Core.Path.{ap, ◌∙◌}
use mir.Facts.{to_z-of_z}
use mir.Syntax.{w64}
use mir.Val.{SFits}
use Rattle.std.proofs.Common.{rules}
use Rattle.rules_replies.specs.Replies.{twos_complement}
use Rattle.rules_seats.specs.figures.Figures.{one_if}
use Rattle.record_figures.proofs.closing_preview.Previewing.{previewed_refused, previewed_written}
use Rattle.record_figures.proofs.closing_preview.previewed.Goals as goal
use Rattle.record_figures.proofs.closing_preview.previewed.Goals.{Else-ran-eq0}

pub returns-then-ran-eq0 : goal.returns-then-ran-eq0
returns-then-ran-eq0 c = previewed_refused _ _ _ _ c.run-ran.ensures _ c.if-ran-eq0.true

-- the excess is a number of 64 bits
fitting : (c : Else-ran-eq0) → SFits w64 c.run-ran.result.excess
fitting c = search rules

pub returns : goal.returns
returns c =
    previewed_written _ _ _ _ c.run-ran.ensures _ _ _ _ _ _ c.if-ran-eq0.false (c.bits_of.ensures ∙ ap twos_complement (to_z-of_z (fitting (goal.at.returns c).Else-ran-eq0)))
    (c.from.ensures ∙ c.remainder_at.ensures) (c.mark.ensures ∙ ap one_if c.is_closed.ensures) c.lend.ensures
