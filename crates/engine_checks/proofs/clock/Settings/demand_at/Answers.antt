-- The demand call's value, which is 0 for a refusal and at most M2.
use mathlib.Core.Path.{ap}
use Rattle.rules_demand.specs.Answer.{Answer}
use Rattle.engine_checks.proofs.clock.Bounded.{demand_bounded}
use Rattle.engine_checks.proofs.clock.Settings.demand_at.Goals as goal

pub returns-in-Ok : goal.returns-in-Ok
returns-in-Ok c = demand_bounded _ _ _ _ _ (ap (λ (a : Answer). a.value) c.in-Ok.ensures)

pub returns-in-Err : goal.returns-in-Err
returns-in-Err c = demand_bounded _ _ _ _ _ (ap (λ (a : Answer). a.value) c.in-Err.ensures)
