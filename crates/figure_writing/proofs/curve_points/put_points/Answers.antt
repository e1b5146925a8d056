-- Each turn writes the three numbers of a point; the supply after it is that before the next.
use Prim.Native.Nat.{ℕ, min, ◌*◌, ◌≤◌}
use mathlib.Core.Path.{◌≡◌, ap, ◌∙◌}
use mathlib.Core.List.{List}
use Rattle.std.proofs.Common.{arith}
use lib.ListN.{length, take, length-set, length-take}
use Rattle.std.proofs.Common.{rules}
use Rattle.std.proofs.lemmas.List.{take_min}
use Rattle.rules_numbers.specs.Tails.{laid}
use Rattle.figure_writing.specs.curve_points.Points.{points_from}
use Rattle.figure_writing.proofs.curve_points.Pointing.{pointing_first, pointing_end, pointing_next}
use Rattle.figure_writing.proofs.curve_points.put_points.Goals as goal
use Rattle.figure_writing.proofs.curve_points.put_points.Goals.{After-min}

room : (c : After-min) → 3 * length (take c.min.result c.args.words) ≤ length c.args.points.now
room c = omega (arith, length-take c.min.result c.args.words, c.min.ensures, c.requires)

pub loop-i-init : goal.loop-i-init
loop-i-init c = pointing_first _ _ _

pub bounds-points-i : goal.bounds-points-i
bounds-points-i c = omega (arith, room (goal.at.bounds-points-i c).After-min)

pub bounds-points-i-in-loop-i : goal.bounds-points-i-in-loop-i
bounds-points-i-in-loop-i c = simp length-set (omega (arith, room (goal.at.bounds-points-i-in-loop-i c).After-min))

pub bounds-points-i-in-loop-i-2 : goal.bounds-points-i-in-loop-i-2
bounds-points-i-in-loop-i-2 c = simp length-set (omega (arith, room (goal.at.bounds-points-i-in-loop-i-2 c).After-min))

pub loop-i-preserved : goal.loop-i-preserved
loop-i-preserved c = pointing_next _ _ _ (room (goal.at.loop-i-preserved c).After-min) _ _ _ c.loop-i.invariant c.loop-i-test.true

pub returns : goal.returns
returns c =
    let a = c.args in
    let l : length a.words ≡ 256 = search rules in
    let m : c.min.result ≡ min a.count (length a.words) = omega (arith, c.min.ensures) in
    let e : take c.min.result a.words ≡ take a.count a.words = ap (λ (n : ℕ). take n a.words) m ∙ take_min a.count a.words in
    pointing_end _ _ _ (room (goal.at.returns c).After-min) _ _ _ c.loop-i.invariant c.loop-i-test.false
    ∙ ap (λ (ws : List ℕ). laid (points_from a.first ws) a.points.now) e
