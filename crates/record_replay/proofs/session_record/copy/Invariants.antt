-- Each turn copies one byte; the loop keeps `Copying`.
use Rattle.record_replay.proofs.session_record.Copying.{Copying}
use Rattle.record_replay.proofs.session_record.copy.Given as goal

abbrev pub invariant-loop-i : goal.invariant-loop-i
invariant-loop-i l = Copying l.bytes l.initial.out l.out l.i
