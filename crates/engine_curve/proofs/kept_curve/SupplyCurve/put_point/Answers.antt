-- The word of the point is stored behind the others.
use Rattle.engine_curve.proofs.kept_curve.Keeping.{no_room, price_too_high, supply_too_high, point_more}
use Rattle.engine_curve.proofs.kept_curve.SupplyCurve.put_point.Goals as goal
use Rattle.engine_curve.proofs.kept_curve.SupplyCurve.put_point.Goals.{then-count-ge-MOST-via-then-count-ge-MOST, then-count-ge-MOST-via-else-count-ge-MOST+then-price-gt-HIGHEST, then-count-ge-MOST-via-else-count-ge-MOST+else-price-gt-HIGHEST+then-after-ge-PRICE}

pub returns-then-count-ge-MOST : goal.returns-then-count-ge-MOST
returns-then-count-ge-MOST c =
    elim c.then-count-ge-MOST.branch [
      | then-count-ge-MOST-via-then-count-ge-MOST w ↦ no_room _ _ _ w.if-count-ge-MOST.true
      | then-count-ge-MOST-via-else-count-ge-MOST+then-price-gt-HIGHEST w ↦ price_too_high _ _ _ w.if-price-gt-HIGHEST.true
      | then-count-ge-MOST-via-else-count-ge-MOST+else-price-gt-HIGHEST+then-after-ge-PRICE w ↦ supply_too_high _ _ _ w.if-after-ge-PRICE.true
    ]

pub returns : goal.returns
returns c = rw c.from.ensures (point_more _ _ _)
