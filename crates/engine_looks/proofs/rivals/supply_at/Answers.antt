-- By the two tests.
use borrow.Author.Tests.{lt-ltb, le-ltb}
use Rattle.engine_looks.specs.rivals.Plain.{supply_at}
use Rattle.engine_looks.proofs.rivals.supply_at.Goals as goal

pub returns-then-p-second : goal.returns-then-p-second
unfolding supply_at
returns-then-p-second c = simp (lt-ltb _ _ c.if-p-first.true, lt-ltb _ _ c.if-p-second.true)

pub returns-then-p-first : goal.returns-then-p-first
unfolding supply_at
returns-then-p-first c = simp (lt-ltb _ _ c.if-p-first.true, le-ltb _ _ c.if-p-second.false)

pub returns-then-p-second-2 : goal.returns-then-p-second-2
unfolding supply_at
returns-then-p-second-2 c = simp (le-ltb _ _ c.if-p-first.false, lt-ltb _ _ c.if-p-second-2.true)

pub returns : goal.returns
unfolding supply_at
returns c = simp (le-ltb _ _ c.if-p-first.false, le-ltb _ _ c.if-p-second-2.false)
