-- `existing_levels`: the loop keeps the sum over the first i developers, each below 2^32.
use mathlib.Core.Path.{sym, ◌∙◌}
use Rattle.std.proofs.Common.{arith, rules}
use Rattle.rules_numbers.specs.Numbered.{at_number}
use Rattle.rules_numbers.specs.Lists.{one_to, last_or}
use Rattle.rules_numbers.specs.Sums.{total_kept}
use Rattle.rules_auction.specs.Participation.{existing_plants}
use Rattle.engine_award.proofs.participation.Summing.{summing_first, summing_next, summing_end}
use Rattle.engine_award.proofs.participation.existing_levels.Invariants.{is_plant}
use Rattle.engine_award.proofs.participation.existing_levels.Goals as goal

pub loop-i-init : goal.loop-i-init
loop-i-init c = summing_first _

pub loop-i-preserved : goal.loop-i-preserved
unfolding at_number
loop-i-preserved c = summing_next _ _ _ c.loop-i.invariant _ (omega arith) (search rules) (c.from-sum.ensures ∙ c.existing_level.ensures)

pub returns : goal.returns
unfolding existing_plants last_or
returns c =
    let a = c.args in
    let e = summing_end _ _ _ c.loop-i.invariant (omega arith) in
    (e.0 ∙ sym (total_kept (at_number a.highest) (is_plant a.auction.now.agents a.auction.now.kinds a.agent) (one_to 32)), e.1)
