-- Each turn writes what the record has of one line behind what stands there; the loop keeps `Written`.
use Prim.Native.Nat.{◌+◌, ◌≤◌}
use mathlib.Core.Path.{◌≡◌}
use Rattle.std.proofs.Common.{arith}
use lib.ListN.{length}
use Rattle.record_replay.specs.session_record.KeptFrames.{kept_text}
use Rattle.record_replay.proofs.session_record.Adding.{line_within, written_first, written_long, written_end, line_room, line_used, written_again}
use Rattle.record_replay.proofs.session_record.put_record.Goals as goal
use Rattle.record_replay.proofs.session_record.put_record.Goals.{After-next_line-line, At-loop-at}

long : (c : At-loop-at) → length c.loop-at.out ≡ length c.args.out.now
long c = written_long _ _ c.requires _ c.loop-at.at _ c.loop-at.invariant

-- the line is inside the session, and what the record has of it inside the buffer
inside : (c : After-next_line-line) → c.loop-at.at + length c.next_line-line.result.now ≤ length c.args.session.now
inside c = line_within _ _ _ c.loop-at-test.true c.next_line-line.ensures

used : (c : After-next_line-line) → c.loop-at.used + length (kept_text c.next_line-line.result.now) ≤ length c.args.out.now
used c = line_used _ _ c.requires _ _ _ c.loop-at.invariant _ c.loop-at-test.true c.next_line-line.ensures

pub loop-at-init : goal.loop-at-init
loop-at-init c = written_first _ _

pub slice_bounds-put_kept-count : goal.slice_bounds-put_kept-count
slice_bounds-put_kept-count c =
    omega (arith, used (goal.at.slice_bounds-put_kept-count c).After-next_line-line, long (goal.at.slice_bounds-put_kept-count c).At-loop-at)

pub slice_bounds-put_kept-start : goal.slice_bounds-put_kept-start
slice_bounds-put_kept-start c =
    omega (arith, used (goal.at.slice_bounds-put_kept-start c).After-next_line-line, long (goal.at.slice_bounds-put_kept-start c).At-loop-at)

pub put_kept-n-requires : goal.put_kept-n-requires
put_kept-n-requires c =
    line_room _ _ c.requires _ _ _ c.loop-at.invariant _ c.loop-at-test.true c.next_line-line.ensures

pub overflow_add-used : goal.overflow_add-used
overflow_add-used c = omega (arith, c.put_kept-n.ensures.0, used (goal.at.overflow_add-used c).After-next_line-line)

pub overflow_add-at : goal.overflow_add-at
overflow_add-at c = omega (arith, inside (goal.at.overflow_add-at c).After-next_line-line)

pub overflow_add-at-in-loop-at : goal.overflow_add-at-in-loop-at
overflow_add-at-in-loop-at c = omega (arith, inside (goal.at.overflow_add-at-in-loop-at c).After-next_line-line)

pub loop-at-smaller : goal.loop-at-smaller
loop-at-smaller c = omega (arith, inside (goal.at.loop-at-smaller c).After-next_line-line, c.loop-at-test.true)

pub loop-at-preserved : goal.loop-at-preserved
loop-at-preserved c =
    written_again _ _ c.requires _ _ _ c.loop-at.invariant _ c.loop-at-test.true c.next_line-line.ensures _ _ c.put_kept-n.ensures

pub shape_of-out : goal.shape_of-out
shape_of-out c = long (goal.at.shape_of-out c).At-loop-at

pub returns : goal.returns
returns c = written_end _ _ c.requires _ _ _ c.loop-at.invariant c.loop-at-test.false
