-- The bounds of the replies are added as long as they are within the limit.
use Prim.Native.Nat.{◌-◌}
use lib.ListN.{length}
use Rattle.reply_writing.proofs.reply_bound.Bounding.{Bounded}
use Rattle.reply_writing.proofs.reply_bound.enough.Given as goal

abbrev pub invariant-loop-start : goal.invariant-loop-start
invariant-loop-start l = Bounded l.place l.bytes l.limit l.start l.sum

abbrev pub decreases-loop-start : goal.decreases-loop-start
decreases-loop-start l = length l.bytes - l.start
