-- Each turn writes the price and the level of one step.
use Rattle.figure_writing.proofs.reading_figures.Putting.{Stepping}
use Rattle.figure_writing.proofs.reading_figures.put_steps.Given as goal

abbrev pub invariant-loop-i : goal.invariant-loop-i
invariant-loop-i l = Stepping l.at l.count l.prices l.levels l.initial.figures l.figures l.i
