-- The loop keeps that the first i prices are in the game, with Dem at each.
use mathlib.Core.Path.{refl}
use Rattle.engine_looks.proofs.forcing.Listing.{price_fits, listing_first, listing_all, listing_again}
use Rattle.engine_looks.proofs.forcing.game_of.Goals as goal

pub loop-i-init : goal.loop-i-init
loop-i-init c = listing_first _ _ _ _ refl

pub overflow_cast-p : goal.overflow_cast-p
overflow_cast-p c = record { fits = price_fits _ _ c.requires c.loop-i-test.true }

pub loop-i-preserved : goal.loop-i-preserved
loop-i-preserved c =
    listing_again _ _ _ _ c.requires c.loop-i.invariant c.loop-i-test.true c.demand_at.ensures.0

pub returns : goal.returns
returns c = listing_all _ _ _ _ c.requires c.loop-i.invariant c.loop-i-test.false
