-- `look_behind` stores the row of the search at each place, from the last place up: each row adds its length, its first and its last level.
use Prim.Native.Nat.{◌≤◌, ◌<◌, ◌+◌, ◌-◌, ◌*◌}
use mathlib.Core.Path.{refl}
use Rattle.std.proofs.Common.{arith}
use lib.ListN.{get_or}
use Rattle.engine_table.specs.table.Places.{start_of}
use Rattle.engine_search.proofs.rows_behind.Looking.{looking_first, looking_down, looking_row, looking_fits, looking_again}
use Rattle.engine_search.proofs.rows_behind.look_behind.Goals as goal
use Rattle.engine_search.proofs.rows_behind.look_behind.Goals.{In-loop-i}

-- the row at place i - 1 in a turn
row :
    (c : In-loop-i) →
    let s = c.args in
    let k = get_or s.order.now (c.loop-i.i - 1) 0 in
    (k < 32) × (start_of s.ends.now k < get_or s.ends.now k 0) × (get_or s.ends.now k 0 ≤ 288)
row c = let s = c in let l = c.loop-i in looking_row s.requires.0 s.requires.1 (l.i - 1) (looking_down l.invariant c.loop-i-test.true)

fits :
    (c : In-loop-i) →
    let s = c.args in
    let l = c.loop-i in
    let k = get_or s.order.now (l.i - 1) 0 in
    let start = start_of s.ends.now k in
    let end = get_or s.ends.now k 0 in
    (l.ways * (end - start) ≤ 65536) × (l.lows + get_or s.levels.now start 0 ≤ 32000000000) × (l.highs + get_or s.levels.now (end - 1) 0 ≤ 32000000000)
fits c = let s = c in let l = c.loop-i in looking_fits s.requires.0 s.requires.1 (l.i - 1) (looking_down l.invariant c.loop-i-test.true)

pub loop-i-init : goal.loop-i-init
loop-i-init c = looking_first c.requires.0 c.requires.1 _ refl

pub start_of-start-requires : goal.start_of-start-requires
start_of-start-requires c = omega (arith, (row (goal.at.start_of-start-requires c).In-loop-i).0)

pub offset_bounds-ends-k : goal.offset_bounds-ends-k
offset_bounds-ends-k c = omega (arith, (row (goal.at.offset_bounds-ends-k c).In-loop-i).0)

pub bounds-ends-k : goal.bounds-ends-k
bounds-ends-k c = (row (goal.at.bounds-ends-k c).In-loop-i).0

pub offset_bounds-strides-k : goal.offset_bounds-strides-k
offset_bounds-strides-k c = omega (arith, (row (goal.at.offset_bounds-strides-k c).In-loop-i).0)

pub bounds-strides-k : goal.bounds-strides-k
bounds-strides-k c = (row (goal.at.bounds-strides-k c).In-loop-i).0

pub overflow_sub-ways : goal.overflow_sub-ways
overflow_sub-ways c = omega (arith, c.start_of-start.ensures, row (goal.at.overflow_sub-ways c).In-loop-i)

pub overflow_mul-ways : goal.overflow_mul-ways
overflow_mul-ways c = rw c.start_of-start.ensures (omega (arith, (fits (goal.at.overflow_mul-ways c).In-loop-i).0))

pub offset_bounds-levels-start : goal.offset_bounds-levels-start
offset_bounds-levels-start c = omega (arith, c.start_of-start.ensures, row (goal.at.offset_bounds-levels-start c).In-loop-i)

pub bounds-levels-start : goal.bounds-levels-start
bounds-levels-start c = omega (arith, c.start_of-start.ensures, row (goal.at.bounds-levels-start c).In-loop-i)

pub overflow_add-lows : goal.overflow_add-lows
overflow_add-lows c = rw (c.from-lows.ensures, c.start_of-start.ensures) (omega (arith, (fits (goal.at.overflow_add-lows c).In-loop-i).1))

pub overflow_sub-end : goal.overflow_sub-end
overflow_sub-end c = omega (arith, row (goal.at.overflow_sub-end c).In-loop-i)

pub offset_bounds-levels-end : goal.offset_bounds-levels-end
offset_bounds-levels-end c = omega (arith, row (goal.at.offset_bounds-levels-end c).In-loop-i)

pub bounds-levels-end : goal.bounds-levels-end
bounds-levels-end c = omega (arith, row (goal.at.bounds-levels-end c).In-loop-i)

pub overflow_add-highs : goal.overflow_add-highs
overflow_add-highs c = omega (arith, c.from-highs.ensures, (fits (goal.at.overflow_add-highs c).In-loop-i).2)

pub loop-i-preserved : goal.loop-i-preserved
loop-i-preserved c =
    let l = c.loop-i in
    rw (c.from-lows.ensures, c.from-highs.ensures, c.start_of-start.ensures) (looking_again c.requires.0 c.requires.1 (l.i - 1) (looking_down l.invariant c.loop-i-test.true))
