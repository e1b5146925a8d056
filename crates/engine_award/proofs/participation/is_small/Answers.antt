-- `is_small` is `is_small`: the quotient's test is that of the products.
use Prim.Native.Nat.{ℕ, ◌*◌}
use mathlib.Core.Path.{ap, ◌∙◌}
use Rattle.std.proofs.Common.{arith}
use lib.Dec.{ltb}
use Rattle.rules_auction.specs.Participation.{existing_plants, is_small}
use Rattle.engine_award.proofs.participation.Tests.{by_quotient}
use Rattle.engine_award.proofs.participation.is_small.Goals as goal

pub returns : goal.returns
unfolding is_small existing_plants
returns c =
    let d = c.args.auction.now.clock.settings.d in
    by_quotient (100 * c.existing_levels.result) 15 d (omega arith) ∙ ap (λ (n : ℕ). ltb (100 * n) (15 * d)) c.existing_levels.ensures.0
