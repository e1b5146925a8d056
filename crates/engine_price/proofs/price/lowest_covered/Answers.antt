-- Bisection: from lo to hi is the lowest covered price, or A, and the distance shrinks.
use Rattle.std.proofs.Common.{arith}
use Rattle.engine_price.proofs.price.Halving.{halving_first, halving_down, halving_up, halving_end}
use Rattle.engine_price.proofs.price.lowest_covered.Goals as goal

pub loop-lo-init : goal.loop-lo-init
loop-lo-init g c = halving_first _ _ _

pub loop-lo-preserved-then-covered : goal.loop-lo-preserved-then-covered
loop-lo-preserved-then-covered g c =
    halving_down _ _ _ _ _ c.loop-lo.invariant _ (omega arith) (omega arith) (rw c.if-covered.true at c.covered.ensures)

pub loop-lo-preserved : goal.loop-lo-preserved
loop-lo-preserved g c =
    halving_up _ _ _ _ _ c.loop-lo.invariant _ (omega arith) (omega arith) (rw c.if-covered.false at c.covered.ensures)

pub returns : goal.returns
returns g c = halving_end _ _ _ _ _ c.loop-lo.invariant (omega arith)
