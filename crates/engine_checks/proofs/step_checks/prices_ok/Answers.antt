-- The two lengths, the number of steps, then the prices.
use mathlib.Core.Path.{◌≡◌}
use Rattle.std.proofs.Common.{arith}
use Rattle.std.proofs.lemmas.Grind.{common_steps}
use Rattle.rules_auction.specs.Refusals.{falling, prices_ok}
use Rattle.engine_checks.proofs.step_checks.PricesThatFall.{as_numbers}
use Rattle.engine_checks.proofs.step_checks.prices_ok.Goals as goal

pub returns-then-prices-le-MOST : goal.returns-then-prices-le-MOST
unfolding prices_ok
returns-then-prices-le-MOST c =
    let s = c.args in
    let f : c.prices_fall.result ≡ falling c.from.result c.from-then-prices-le-MOST.result s.prices.now = as_numbers _ _ _ _ c.prices_fall.ensures in
    grind (arith, common_steps)
