-- Bisection: from lo to hi is the lowest covered price, or A, and the distance shrinks.
use Prim.Native.Nat.{◌-◌}
use Rattle.engine_price.proofs.price.Halving.{Halving}
use Rattle.engine_price.proofs.price.lowest_covered.Given as goal

abbrev pub invariant-loop-lo : goal.invariant-loop-lo
invariant-loop-lo g l = Halving l.fn.clock.settings l.fn.clock.closing (goal.F-post g l.fn.covered) l.lo l.hi

abbrev pub decreases-loop-lo : goal.decreases-loop-lo
decreases-loop-lo g l = l.hi - l.lo
