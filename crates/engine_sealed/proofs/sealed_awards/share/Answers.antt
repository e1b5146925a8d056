-- Each turn takes one offer; the loop keeps `Sharing`.
use Prim.Native.Nat.{◌<◌}
use mathlib.Core.Path.{refl}
use Rattle.std.proofs.Common.{arith}
use lib.ListN.{take, get_or}
use Rattle.rules_choices.specs.EachChoice.{nth_in}
use Rattle.engine_sealed.proofs.sealed_awards.Sharing.{award_le, sharing_first, sharing_next, sharing_end}
use Rattle.engine_sealed.proofs.sealed_awards.share.Goals as goal
use Rattle.engine_sealed.proofs.sealed_awards.share.Goals.{In-loop-place}

-- the place whose turn it is
its_place : (c : In-loop-place) → get_or (take c.args.count c.args.order) c.loop-place.place-index 0 < c.args.count
its_place c = c.requires.3 _ (nth_in 0 _ _ c.loop-place-test.true)

pub loop-place-init : goal.loop-place-init
loop-place-init c = sharing_first _ _ _ _

pub offset_bounds-quantities-place : goal.offset_bounds-quantities-place
offset_bounds-quantities-place c = omega (arith, its_place (goal.at.offset_bounds-quantities-place c).In-loop-place, c.requires.0)

pub bounds-quantities-place : goal.bounds-quantities-place
bounds-quantities-place c = omega (arith, its_place (goal.at.bounds-quantities-place c).In-loop-place, c.requires.1)

pub offset_bounds-minimums-place : goal.offset_bounds-minimums-place
offset_bounds-minimums-place c = omega (arith, its_place (goal.at.offset_bounds-minimums-place c).In-loop-place, c.requires.0)

pub bounds-minimums-place : goal.bounds-minimums-place
bounds-minimums-place c = omega (arith, its_place (goal.at.bounds-minimums-place c).In-loop-place, c.requires.2)

pub offset_bounds-awards-place : goal.offset_bounds-awards-place
offset_bounds-awards-place c = omega (arith, its_place (goal.at.offset_bounds-awards-place c).In-loop-place, c.requires.0)

pub bounds-awards-place : goal.bounds-awards-place
bounds-awards-place c = omega (arith, its_place (goal.at.bounds-awards-place c).In-loop-place, c.requires.0)

pub overflow_sub-left : goal.overflow_sub-left
overflow_sub-left c = award_le _ _ _ _ c.award-given.ensures

pub loop-place-preserved : goal.loop-place-preserved
loop-place-preserved c = sharing_next _ _ _ _ _ _ _ c.loop-place.invariant _ _ c.loop-place-test.true refl c.award-given.ensures

pub returns : goal.returns
returns c = sharing_end _ _ _ _ _ _ _ c.loop-place.invariant c.loop-place-test.false
