-- No word holds a point.
use mathlib.Core.Path.{refl}
use Rattle.engine_curve.specs.kept_curve.Held.{held_curve}
use Rattle.engine_curve.proofs.kept_curve.SupplyCurve.new.Goals as goal

pub returns : goal.returns
unfolding held_curve
returns c = refl
