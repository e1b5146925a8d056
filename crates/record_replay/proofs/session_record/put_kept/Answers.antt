-- Nothing, or the frame and its 0A behind it.
use Prim.Native.Nat.{◌+◌, ◌≤◌}
use mathlib.Core.Path.{◌≡◌}
use Rattle.std.proofs.Common.{arith}
use lib.ListN.{length}
use Rattle.record_replay.proofs.session_record.Keeping.{put_none, frame_room, frame_same, end_room, put_some}
use Rattle.record_replay.proofs.session_record.put_kept.Goals as goal
use Rattle.record_replay.proofs.session_record.put_kept.Goals.{After-copy, In-Some}

pub returns-in_default : goal.returns-in_default
returns-in_default c = put_none _ c.in_default.ensures.left_out _

room : (c : In-Some) → length c.in-Some.frame.now + 1 ≤ length c.args.out.now
room c = frame_room _ _ c.in-Some.ensures.kept.0 c.args.out.now c.requires c.in-Some.ensures.kept.1

same : (c : After-copy) → length c.copy.new.out ≡ length c.args.out.now
same c = frame_same _ _ c.in-Some.ensures.kept.0 c.args.out.now c.requires c.in-Some.ensures.kept.1 _ c.copy.ensures

pub copy-requires : goal.copy-requires
copy-requires c = omega (arith, room (goal.at.copy-requires c).In-Some)

pub slice_bounds-put_byte-count : goal.slice_bounds-put_byte-count
slice_bounds-put_byte-count c =
    omega (arith, same (goal.at.slice_bounds-put_byte-count c).After-copy, room (goal.at.slice_bounds-put_byte-count c).In-Some)

pub slice_bounds-put_byte-start : goal.slice_bounds-put_byte-start
slice_bounds-put_byte-start c =
    omega (arith, same (goal.at.slice_bounds-put_byte-start c).After-copy, room (goal.at.slice_bounds-put_byte-start c).In-Some)

pub put_byte-requires : goal.put_byte-requires
put_byte-requires c = end_room _ _ c.in-Some.ensures.kept.0 _ c.requires c.in-Some.ensures.kept.1 _ c.copy.ensures

pub returns : goal.returns
returns c = put_some _ _ c.in-Some.ensures.kept.0 _ c.requires c.in-Some.ensures.kept.1 _ c.copy.ensures _ c.put_byte.ensures
