-- `offer` stores the steps behind the withdrawals.
use Rattle.std.proofs.Common.{arith}
use Rattle.engine_held.proofs.history.Writing.{offer_lem}
use Rattle.engine_held.proofs.history.History.offer.Goals as goal

pub returns-then-steps-start : goal.returns-then-steps-start
returns-then-steps-start c = offer_lem _ _ _ _ _ _ _ (λ h. omega arith) (omega arith) c.copy_from_slice.ensures.after c.copy_from_slice-then-steps-start.ensures.after
