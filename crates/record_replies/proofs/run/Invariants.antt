-- How far the run has come.
use Prim.Native.Nat.{◌-◌}
use lib.ListN.{length}
use Rattle.record_replies.proofs.Running.{Run}
use Rattle.record_replies.proofs.run.Given as goal

abbrev pub invariant-loop-read : goal.invariant-loop-read
invariant-loop-read l =
    Run l.initial.auction l.bytes l.seated l.from l.limit l.end l.initial.out l.out l.auction l.excess l.closings l.settled l.awards l.read l.written

abbrev pub decreases-loop-read : goal.decreases-loop-read
decreases-loop-read l = length l.bytes - l.read
