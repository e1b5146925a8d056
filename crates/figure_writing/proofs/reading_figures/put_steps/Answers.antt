-- Each turn writes the price and the level of one step.
use Prim.Native.Nat.{◌+◌, ◌*◌, ◌≤◌, ◌<◌}
use mathlib.Core.Path.{◌≡◌}
use Rattle.std.proofs.Common.{arith}
use lib.ListN.{length, length-set}
use Rattle.std.proofs.Common.{rules}
use Rattle.figure_writing.proofs.reading_figures.Putting.{stepping_first, stepping_long, stepping_next, stepping_end}
use Rattle.figure_writing.proofs.reading_figures.put_steps.Goals as goal
use Rattle.figure_writing.proofs.reading_figures.put_steps.Goals.{At-loop-i, Start}

few : (c : Start) → (c.args.count ≤ length c.args.prices) × (c.args.count ≤ length c.args.levels)
few c =
    let p : length c.args.prices ≡ 8 = search rules in
    let q : length c.args.levels ≡ 8 = search rules in
    (omega arith, omega arith)

pub loop-i-init : goal.loop-i-init
loop-i-init c = stepping_first _ _ _ _ _ (few c).0 (few c).1 c.requires.1

long : (c : At-loop-i) → length c.loop-i.figures ≡ length c.args.figures.now
long c = stepping_long _ _ _ _ _ (few (goal.at.At-loop-i c).Start).0 (few (goal.at.At-loop-i c).Start).1 c.requires.1 _ _ c.loop-i.invariant

-- the place of a step's level
room : (c : At-loop-i) → c.loop-i.i < c.args.count → c.args.at + 2 * c.loop-i.i + 1 < length c.loop-i.figures
room c h = omega (arith, long c, c.requires.1)

pub bounds-figures-at : goal.bounds-figures-at
bounds-figures-at c = omega (arith, room (goal.at.bounds-figures-at c).At-loop-i c.loop-i-test.true)

pub bounds-figures-at-in-loop-i : goal.bounds-figures-at-in-loop-i
bounds-figures-at-in-loop-i c = simp length-set (room (goal.at.bounds-figures-at-in-loop-i c).At-loop-i c.loop-i-test.true)

pub loop-i-preserved : goal.loop-i-preserved
loop-i-preserved c =
    stepping_next _ _ _ _ _ (few (goal.at.loop-i-preserved c).Start).0 (few (goal.at.loop-i-preserved c).Start).1 c.requires.1 _ _ c.loop-i.invariant c.loop-i-test.true

pub shape_of-figures : goal.shape_of-figures
shape_of-figures c = long (goal.at.shape_of-figures c).At-loop-i

pub returns : goal.returns
returns c =
    stepping_end _ _ _ _ _ (few (goal.at.returns c).Start).0 (few (goal.at.returns c).Start).1 c.requires.1 _ _ c.loop-i.invariant c.loop-i-test.false
