-- How many prices there are, then the prices.
use mathlib.Core.Path.{◌≡◌, ap₂, ◌∙◌}
use mathlib.Core.Bool.{true}
use borrow.Author.Tests.{le-leb}
use lib.Dec.{leb}
use lib.ListN.{length}
use Prim.Native.Nat.{ℕ}
use Rattle.std.proofs.Common.{arith}
use Rattle.std.proofs.lemmas.Grind.{common_steps}
use Rattle.rules_auction.specs.Refusals.{falling}
use Rattle.rules_forcing.specs.Forcing.{list_ok}
use Rattle.engine_checks.proofs.step_checks.PricesThatFall.{as_numbers}
use Rattle.engine_looks.proofs.forcing_checks.prices_ok.Goals as goal

pub returns-then-prices-le-MOST_PRICES : goal.returns-then-prices-le-MOST_PRICES
unfolding list_ok
returns-then-prices-le-MOST_PRICES c =
    let ps = c.args.prices.now in
    let some : leb 1 (length ps) ≡ true = grind (arith, common_steps) in
    let few : leb (length ps) 10 ≡ true = le-leb (length ps) 10 c.if-prices-le-MOST_PRICES.true.1 in
    let falls : c.prices_fall.result ≡ falling c.from.result c.from-then-prices-le-MOST_PRICES.result ps = as_numbers _ _ _ _ c.prices_fall.ensures in
    simp (some, few) (falls ∙ ap₂ (λ (a b : ℕ). falling a b ps) c.from.ensures c.from-then-prices-le-MOST_PRICES.ensures)
