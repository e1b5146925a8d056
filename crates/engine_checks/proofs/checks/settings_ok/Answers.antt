-- The settings' bounds hold where the price is doubled.
use mathlib.Core.Path.{sym, ◌∙◌}
use Rattle.std.proofs.Common.{arith}
use Rattle.rules_demand.specs.Range.{in_bounds_lem}
use Rattle.engine_checks.proofs.checks.settings_ok.Goals as goal
use Rattle.engine_checks.proofs.checks.settings_ok.Goals.{then-settings_in_bounds, else-settings_in_bounds}

pub overflow_mul-result : goal.overflow_mul-result
overflow_mul-result c = elim c.if-settings_in_bounds.branch [
  | then-settings_in_bounds w ↦ (let b = in_bounds_lem _ _ _ _ (sym c.settings_in_bounds.ensures ∙ w.if-settings_in_bounds.true) in omega (arith, b.ce_high))
  | else-settings_in_bounds w ↦ cc
]
