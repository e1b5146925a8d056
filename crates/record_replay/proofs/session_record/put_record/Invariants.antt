-- Each turn writes what the record has of one line behind what stands there; the loop keeps `Written`.
use Prim.Native.Nat.{◌-◌}
use lib.ListN.{length}
use Rattle.record_replay.proofs.session_record.Adding.{Written}
use Rattle.record_replay.proofs.session_record.put_record.Given as goal

abbrev pub invariant-loop-at : goal.invariant-loop-at
invariant-loop-at l = Written l.session l.initial.out l.out l.at l.used

abbrev pub decreases-loop-at : goal.decreases-loop-at
decreases-loop-at l = length l.session - l.at
