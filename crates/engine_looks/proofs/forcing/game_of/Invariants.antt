-- The loop keeps that the first i prices are in the game, with Dem at each.
use Rattle.engine_looks.proofs.forcing.Listing.{Listing}
use Rattle.engine_looks.proofs.forcing.game_of.Given as goal

abbrev pub invariant-loop-i : goal.invariant-loop-i
invariant-loop-i l = Listing l.settings l.standing l.initial.game.supplies l.prices l.game l.i
