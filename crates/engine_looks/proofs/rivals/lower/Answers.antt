-- Not covered: the price so far. Covered: the lower one.
use Rattle.std.proofs.Common.{arith}
use Rattle.engine_looks.proofs.rivals.lower.Goals as goal

pub returns-then-not-covered : goal.returns-then-not-covered
returns-then-not-covered c = simp c.if-not-covered.true

pub returns-then-p-low : goal.returns-then-p-low
returns-then-p-low c = simp c.if-not-covered.false (omega arith)

pub returns : goal.returns
returns c = simp c.if-not-covered.false (omega arith)
