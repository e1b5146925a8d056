-- The number of levels, and behind it the levels.
use Prim.Native.Nat.{◌+◌, ◌≤◌}
use mathlib.Core.Path.{ap, ◌∙◌}
use Rattle.std.proofs.Common.{arith}
use lib.ListN.{length, take, length-take}
use Rattle.figure_writing.specs.reading_figures.Read.{level_figures}
use Rattle.figure_writing.proofs.reading_figures.Putting.{behind_length, one_then}
use Rattle.figure_writing.proofs.reading_figures.put_levels.Goals as goal
use Rattle.figure_writing.proofs.reading_figures.put_levels.Goals.{After-slice_known-2-1, Start}

room : (c : Start) → c.args.at + 1 + length (take c.args.count c.args.values) ≤ length c.args.figures.now
room c = omega (arith, length-take c.args.count c.args.values, c.requires)

pub returns : goal.returns
unfolding level_figures
returns c =
    c.put_values.ensures ∙ one_then c.args.at c.args.count (take c.args.count c.args.values) c.args.figures.now (room (goal.at.After-slice_known-2-1 c).Start)

pub shape_of-figures : goal.shape_of-figures
unfolding level_figures
shape_of-figures c =
    ap length (returns c) ∙ behind_length c.args.at (level_figures c.args.values c.args.count) c.args.figures.now (omega (arith, room (goal.at.After-slice_known-2-1 c).Start))
