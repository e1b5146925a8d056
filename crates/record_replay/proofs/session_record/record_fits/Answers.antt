-- The sizes of what the record has of each line are added as long as they are within the room.
use Prim.Native.Nat.{◌+◌, ◌≤◌}
use Rattle.std.proofs.Common.{arith}
use lib.ListN.{length}
use Rattle.record_replay.proofs.session_record.Adding.{line_within, sized_first, sized_end, sized_over, sized_again}
use Rattle.record_replay.proofs.session_record.record_fits.Goals as goal
use Rattle.record_replay.proofs.session_record.record_fits.Goals.{After-kept_size-n}

-- the line is inside the session
inside : (c : After-kept_size-n) → c.loop-at.at + length c.next_line-line.result.now ≤ length
    c.args.session.now
inside c = line_within _ _ _ c.loop-at-test.true c.next_line-line.ensures

pub loop-at-init : goal.loop-at-init
loop-at-init c = sized_first _ _

pub overflow_sub-room : goal.overflow_sub-room
overflow_sub-room c = omega (arith, c.loop-at.invariant.within)

pub returns-then-room-used : goal.returns-then-room-used
returns-then-room-used c =
    sized_over _ _ _ _ c.loop-at.invariant _ _ c.loop-at-test.true c.next_line-line.ensures c.kept_size-n.ensures
    c.if-room-used.true

pub overflow_add-used : goal.overflow_add-used
overflow_add-used c = omega (arith, c.if-room-used.false, c.loop-at.invariant.within, c.ranges.room)

pub overflow_add-at : goal.overflow_add-at
overflow_add-at c = omega (arith, inside (goal.at.overflow_add-at c).After-kept_size-n, c.well_formed)

pub overflow_add-at-in-loop-at : goal.overflow_add-at-in-loop-at
overflow_add-at-in-loop-at c = omega (arith, inside (goal.at.overflow_add-at-in-loop-at c).After-kept_size-n, c.well_formed)

pub loop-at-smaller : goal.loop-at-smaller
loop-at-smaller c = omega (arith, inside (goal.at.loop-at-smaller c).After-kept_size-n, c.loop-at-test.true)

pub loop-at-preserved : goal.loop-at-preserved
loop-at-preserved c =
    sized_again _ _ _ _ c.loop-at.invariant _ _ c.loop-at-test.true c.next_line-line.ensures c.kept_size-n.ensures
    c.if-room-used.false

pub returns : goal.returns
returns c = sized_end _ _ _ _ c.loop-at.invariant c.loop-at-test.false
