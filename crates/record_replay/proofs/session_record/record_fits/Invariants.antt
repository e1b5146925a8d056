-- The sizes of what the record has of each line are added as long as they are within the room.
use Prim.Native.Nat.{◌-◌}
use lib.ListN.{length}
use Rattle.record_replay.proofs.session_record.Adding.{Sized}
use Rattle.record_replay.proofs.session_record.record_fits.Given as goal

abbrev pub invariant-loop-at : goal.invariant-loop-at
invariant-loop-at l = Sized l.session l.room l.at l.used

abbrev pub decreases-loop-at : goal.decreases-loop-at
decreases-loop-at l = length l.session - l.at
