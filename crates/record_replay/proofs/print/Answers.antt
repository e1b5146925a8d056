-- FF0B where the record is too long or its replies are; else the replies.
use mathlib.Core.Path.{sym}
use lib.Seq.{length-take-le}
use Rattle.record_replay.proofs.Replaying.{print_long, print_replies, print_over}
use Rattle.record_replay.proofs.print.Goals as goal

pub returns-then-bytes-gt-LONGEST_RECORD : goal.returns-then-bytes-gt-LONGEST_RECORD
returns-then-bytes-gt-LONGEST_RECORD c = print_long _ c.if-bytes-gt-LONGEST_RECORD.true _ _ _ c.put_refusal.ensures

pub slice_bounds-replies_in-end-2 : goal.slice_bounds-replies_in-end-2
slice_bounds-replies_in-end-2 c = sym (length-take-le 65536 c.args.out.now c.requires)

pub returns-in-Ok : goal.returns-in-Ok
returns-in-Ok c = print_replies _ c.if-bytes-gt-LONGEST_RECORD.false _ _ c.requires _ c.in-Ok.ensures

pub returns-in-Err : goal.returns-in-Err
returns-in-Err c = print_over _ c.if-bytes-gt-LONGEST_RECORD.false _ _ c.requires _ c.in-Err.ensures _ _ c.put_refusal-in-Err.ensures
