-- Each turn writes the three numbers of a point; the supply after it is that before the next.
use Rattle.figure_writing.proofs.curve_points.Pointing.{Pointing}
use Rattle.figure_writing.proofs.curve_points.put_points.Given as goal

abbrev pub invariant-loop-i : goal.invariant-loop-i
invariant-loop-i l = Pointing l.word-items l.first l.initial.points l.points l.before l.i
