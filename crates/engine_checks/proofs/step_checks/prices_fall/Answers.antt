-- `prices_fall` is the test `falling`: what is left falls from the last price read exactly where all fall from the opening price.
use mathlib.Core.Path.{refl}
use Rattle.engine_checks.proofs.step_checks.PricesThatFall.{falls_below, falls_not, falls_on, falls_all}
use Rattle.engine_checks.proofs.step_checks.prices_fall.Goals as goal
use Rattle.engine_checks.proofs.step_checks.prices_fall.Goals.{then-p-closing-via-then-p-closing, then-p-closing-via-else-p-closing+then-last-p}

pub loop-price-init : goal.loop-price-init
loop-price-init g c = record { left = λ n r. refl }

pub returns-then-p-closing : goal.returns-then-p-closing
returns-then-p-closing g c = elim c.then-p-closing.branch [
  | then-p-closing-via-then-p-closing w ↦ falls_below c.loop-price.invariant c.price-item.is c.into-p.ensures c.loop-price-test.true w.if-p-closing.true
  | then-p-closing-via-else-p-closing+then-last-p w ↦
      falls_not c.loop-price.invariant c.price-item.is c.into-p.ensures c.loop-price-test.true w.if-p-closing.false w.if-last-p.true
]

pub loop-price-preserved : goal.loop-price-preserved
loop-price-preserved g c =
    falls_on c.loop-price.invariant c.price-item.is c.into-p.ensures c.loop-price-test.true c.if-p-closing.false c.if-last-p.false

pub returns : goal.returns
returns g c = falls_all c.loop-price.invariant c.loop-price-test.false
