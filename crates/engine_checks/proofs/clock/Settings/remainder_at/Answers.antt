-- The demand call's remainder, which is 0 for a refusal.
use mathlib.Core.Path.{ap}
use Rattle.rules_demand.specs.Answer.{Answer}
use Rattle.engine_checks.proofs.clock.Settings.remainder_at.Goals as goal

pub returns-in-Ok : goal.returns-in-Ok
returns-in-Ok c = ap (λ (a : Answer). a.remainder) c.in-Ok.ensures

pub returns-in-Err : goal.returns-in-Err
returns-in-Err c = ap (λ (a : Answer). a.remainder) c.in-Err.ensures
