-- Each turn writes one level.
use lib.ListN.{take}
use Rattle.figure_writing.proofs.reading_figures.Putting.{Leveling}
use Rattle.figure_writing.proofs.reading_figures.put_values.Given as goal

abbrev pub invariant-loop-i : goal.invariant-loop-i
invariant-loop-i l = Leveling l.at (take l.count l.fn.values) l.initial.figures l.figures l.i
