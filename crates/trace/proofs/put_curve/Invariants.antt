-- Each point is put where there is room.
use Rattle.std.proofs.Common.{◌≤◌, ◌≡◌, length}
use Rattle.trace.proofs.put_curve.Given as goal

abbrev pub invariant-loop-place : goal.invariant-loop-place
invariant-loop-place g l = (length l.text ≡ length l.initial.text) × (l.end ≤ length l.text)
