-- Each turn writes one level.
use Prim.Native.Nat.{◌+◌, ◌≤◌}
use Rattle.std.proofs.Common.{arith}
use lib.ListN.{length, take, length-take}
use Rattle.figure_writing.proofs.reading_figures.Putting.{leveling_first, leveling_next, leveling_end}
use Rattle.figure_writing.proofs.reading_figures.put_values.Goals as goal
use Rattle.figure_writing.proofs.reading_figures.put_values.Goals.{Start}

room : (c : Start) → c.args.at + length (take c.args.count c.args.values) ≤ length c.args.figures.now
room c = omega (arith, length-take c.args.count c.args.values, c.requires.1)

pub loop-i-init : goal.loop-i-init
loop-i-init c = leveling_first _ _ _ (room (goal.at.loop-i-init c).Start)

pub loop-i-preserved : goal.loop-i-preserved
loop-i-preserved c = rw c.from.ensures (leveling_next _ _ _ (room (goal.at.loop-i-preserved c).Start) _ _ c.loop-i.invariant c.loop-i-test.true)

pub returns : goal.returns
returns c = leveling_end _ _ _ (room (goal.at.returns c).Start) _ _ c.loop-i.invariant c.loop-i-test.false
