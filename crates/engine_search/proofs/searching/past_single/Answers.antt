-- `past_single` passes a row with one level in each turn, and adds its level.
use Rattle.std.proofs.Common.{arith}
use Rattle.engine_search.proofs.searching.Passing.{passed_first, number, row_inside, level_fits, passed_next}
use Rattle.engine_search.proofs.searching.past_single.Goals as goal

pub loop-place-init : goal.loop-place-init
loop-place-init c = passed_first c.requires.0 c.requires.1

pub start_of-at-requires : goal.start_of-at-requires
start_of-at-requires c = omega (arith, number c.requires.0 c.requires.1 c.loop-place.invariant)

pub offset_bounds-ends-k : goal.offset_bounds-ends-k
offset_bounds-ends-k c = omega (arith, number c.requires.0 c.requires.1 c.loop-place.invariant)

pub bounds-ends-k : goal.bounds-ends-k
bounds-ends-k c = number c.requires.0 c.requires.1 c.loop-place.invariant

pub overflow_add-at : goal.overflow_add-at
overflow_add-at c = omega (arith, c.start_of-at.ensures, row_inside c.requires.0 c.requires.1 c.loop-place.invariant)

pub offset_bounds-levels-at : goal.offset_bounds-levels-at
offset_bounds-levels-at c =
    omega (arith, c.start_of-at.ensures, row_inside c.requires.0 c.requires.1 c.loop-place.invariant)

pub bounds-levels-at : goal.bounds-levels-at
bounds-levels-at c =
    omega (arith, c.start_of-at.ensures, row_inside c.requires.0 c.requires.1 c.loop-place.invariant)

pub overflow_add-base : goal.overflow_add-base
overflow_add-base c =
    rw (c.from-base.ensures, c.start_of-at.ensures)
    (omega (arith, level_fits c.requires.0 c.requires.1 c.loop-place.invariant, c.loop-place.invariant.base_fits, c.loop-place.invariant.place))

pub loop-place-preserved : goal.loop-place-preserved
loop-place-preserved c =
    let s = c.start_of-at.ensures in
    rw (c.from-base.ensures, s) (passed_next c.requires.0 c.requires.1 c.loop-place.invariant (omega (arith, c.loop-place-test.true)) (omega (arith, s, c.if-at-end.false)))
