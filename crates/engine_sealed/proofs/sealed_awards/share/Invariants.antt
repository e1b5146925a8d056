-- Each turn takes one offer; the loop keeps `Sharing`.
use Rattle.engine_sealed.proofs.sealed_awards.Sharing.{Sharing}
use Rattle.engine_sealed.proofs.sealed_awards.share.Given as goal

abbrev pub invariant-loop-place : goal.invariant-loop-place
invariant-loop-place l = Sharing l.quantities l.minimums l.demand l.place-items l.awards l.left l.place-index
