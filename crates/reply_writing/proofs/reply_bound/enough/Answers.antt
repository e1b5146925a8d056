-- The bounds of the replies are added as long as they are within the limit.
use Prim.Native.Nat.{◌+◌, ◌≤◌}
use Rattle.std.proofs.Common.{arith}
use lib.ListN.{length}
use Rattle.reply_writing.proofs.reply_bound.Bounding.{bounded_first, bounded_end, bounded_inside, bounded_over, bounded_again}
use Rattle.reply_writing.proofs.reply_bound.enough.Goals as goal
use Rattle.reply_writing.proofs.reply_bound.enough.Goals.{After-most-n}

-- the line is inside the record
inside : (c : After-most-n) → c.loop-start.start + length c.next_line-line.result.now ≤ length
    c.args.bytes.now
inside c =
    bounded_inside _ _ _ _ _ _ _ c.loop-start.invariant c.loop-start-test.true c.next_line-line.ensures c.most-n.ensures

pub loop-start-init : goal.loop-start-init
loop-start-init c = bounded_first _ _ _

pub overflow_sub-limit : goal.overflow_sub-limit
overflow_sub-limit c = omega (arith, c.loop-start.invariant.within)

pub returns-then-limit-sum : goal.returns-then-limit-sum
returns-then-limit-sum c =
    bounded_over _ _ _ _ _ _ _ c.loop-start.invariant c.loop-start-test.true
    c.next_line-line.ensures c.most-n.ensures c.if-limit-sum.true

pub overflow_add-sum : goal.overflow_add-sum
overflow_add-sum c = omega (arith, c.if-limit-sum.false, c.loop-start.invariant.within, c.ranges.limit)

pub overflow_add-start : goal.overflow_add-start
overflow_add-start c = omega (arith, inside (goal.at.overflow_add-start c).After-most-n, c.well_formed)

pub overflow_add-start-in-loop-start : goal.overflow_add-start-in-loop-start
overflow_add-start-in-loop-start c = omega (arith, inside (goal.at.overflow_add-start-in-loop-start c).After-most-n, c.well_formed)

pub loop-start-smaller : goal.loop-start-smaller
loop-start-smaller c = omega (arith, inside (goal.at.loop-start-smaller c).After-most-n, c.loop-start-test.true)

pub loop-start-preserved : goal.loop-start-preserved
loop-start-preserved c =
    bounded_again _ _ _ _ _ _ _ c.loop-start.invariant c.loop-start-test.true
    c.next_line-line.ensures c.most-n.ensures c.if-limit-sum.false

pub returns : goal.returns
returns c = bounded_end _ _ _ _ _ c.loop-start.invariant c.loop-start-test.false
