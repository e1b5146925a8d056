-- The supply before a point is what the word before it says of the supply after its own.
use Rattle.std.proofs.Common.{arith}
use Rattle.engine_curve.proofs.kept_curve.Keeping.{before_first, before_later}
use Rattle.engine_curve.proofs.kept_curve.SupplyCurve.supply_before.Goals as goal

pub returns-then-place-eq0 : goal.returns-then-place-eq0
returns-then-place-eq0 c = before_first _ _ _ (omega arith)

pub returns-else-place-eq0 : goal.returns-else-place-eq0
returns-else-place-eq0 c = before_later _ _ _ (omega arith)
