-- Each turn copies one byte; the loop keeps `Copying`.
use mathlib.Core.Path.{◌≡◌}
use Rattle.std.proofs.Common.{arith}
use lib.ListN.{length}
use Rattle.record_replay.proofs.session_record.Copying.{copying_first, copying_long, copying_next, copying_end}
use Rattle.record_replay.proofs.session_record.copy.Goals as goal
use Rattle.record_replay.proofs.session_record.copy.Goals.{At-loop-i}

long : (c : At-loop-i) → length c.loop-i.out ≡ length c.args.out.now
long c = copying_long _ _ c.requires _ _ c.loop-i.invariant

pub loop-i-init : goal.loop-i-init
loop-i-init c = copying_first _ _

pub bounds-out-i : goal.bounds-out-i
bounds-out-i c = omega (arith, long (goal.at.bounds-out-i c).At-loop-i, c.requires, c.loop-i-test.true)

pub loop-i-preserved : goal.loop-i-preserved
loop-i-preserved c = copying_next _ _ c.requires _ _ c.loop-i.invariant c.loop-i-test.true

pub shape_of-out : goal.shape_of-out
shape_of-out c = long (goal.at.shape_of-out c).At-loop-i

pub returns : goal.returns
returns c = copying_end _ _ c.requires _ _ c.loop-i.invariant c.loop-i-test.false
