-- `reach` moves the count over the lodged steps that are reached, which stand first.
use Rattle.std.proofs.Common.{arith}
use Rattle.engine_held.proofs.withdrawals.Reaching.{reach_lodged}
use Rattle.engine_held.proofs.withdrawals.reach.Goals as goal

pub returns : goal.returns
returns c = reach_lodged _ _ _ _ _ c.reached_count-k.ensures (λ h. omega arith) c.saturating_sub.ensures
