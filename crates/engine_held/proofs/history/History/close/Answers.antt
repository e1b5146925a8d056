-- `close` moves the count over the offer's steps, which stand behind the withdrawals, or withdraws all at the opening price.
use Rattle.engine_held.proofs.history.Writing.{close_missing}
use Rattle.engine_held.proofs.history.History.close.Goals as goal

pub returns-then-self-lt-MOST : goal.returns-then-self-lt-MOST
returns-then-self-lt-MOST c = close_missing _ _ _ c.if-self-gt0.false c.if-missing.true c.if-self-lt-MOST.true
