-- `prices_fall` is the test `falling`: what is left falls from the last price read exactly where all fall from the opening price.
use Rattle.engine_checks.proofs.step_checks.PricesThatFall.{StillFalling}
use Rattle.engine_checks.proofs.step_checks.prices_fall.Given as goal

abbrev pub invariant-loop-price : goal.invariant-loop-price
invariant-loop-price g l = StillFalling g.P.Into.converts l.closing l.opening l.prices l.last l.price-index
