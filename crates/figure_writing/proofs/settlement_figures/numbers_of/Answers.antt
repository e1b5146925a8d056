-- The numbers in their order, the marks as 1 or 0.
use mathlib.Core.Path.{◌≡◌, refl}
use Rattle.rules_seats.specs.figures.Figures.{one_if}
use Rattle.figure_writing.specs.settlement_figures.Settled.{settled_figures}
use Rattle.figure_writing.proofs.settlement_figures.numbers_of.Goals as goal
use Rattle.figure_writing.proofs.settlement_figures.numbers_of.Goals.{After-mark-2}

-- the second mark is that of participation
marked : (c : After-mark-2) → c.mark-2.result ≡ one_if c.args.settled.insufficient
marked c = c.mark-2.ensures

pub returns : goal.returns
unfolding settled_figures
returns c = rw (c.mark.ensures, marked (goal.at.returns c).After-mark-2) refl
