-- A word within the count is a point.
use Rattle.engine_curve.proofs.kept_curve.Keeping.{past_end, past_all, point_read}
use Rattle.engine_curve.proofs.kept_curve.SupplyCurve.point.Goals as goal
use Rattle.engine_curve.proofs.kept_curve.SupplyCurve.point.Goals.{then-self-place-via-then-self-place, then-self-place-via-else-self-place+then-place-ge-MOST}

pub returns-then-self-place : goal.returns-then-self-place
returns-then-self-place c =
    elim c.then-self-place.branch [
      | then-self-place-via-then-self-place w ↦ past_end _ _ _ w.if-self-place.true
      | then-self-place-via-else-self-place+then-place-ge-MOST w ↦ past_all _ _ _ w.if-place-ge-MOST.true
    ]

pub returns : goal.returns
returns c = point_read _ _ _ _ c.if-self-place.false c.supply_before.ensures
