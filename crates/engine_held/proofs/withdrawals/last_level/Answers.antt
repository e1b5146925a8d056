-- `last_level` reads the last place of the withdrawals.
use Rattle.std.proofs.Common.{arith}
use Rattle.engine_held.proofs.withdrawals.Reading.{no_last, last_level_lem}
use Rattle.engine_held.proofs.withdrawals.last_level.Goals as goal

pub returns-then-history-eq0 : goal.returns-then-history-eq0
returns-then-history-eq0 c = no_last _ _ c.if-history-eq0.true

pub returns-else-history-eq0 : goal.returns-else-history-eq0
returns-else-history-eq0 c = last_level_lem _ _ _ (omega arith) (λ h. omega arith)
