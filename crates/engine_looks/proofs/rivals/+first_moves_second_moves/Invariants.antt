-- The measure is the number of prices left.
use Prim.Native.Nat.{◌-◌}
use Rattle.engine_looks.proofs.rivals.+first_moves_second_moves.Given as goal

abbrev pub decreases-first_moves : goal.decreases-first_moves
decreases-first_moves l = l.game.count - l.at

abbrev pub decreases-second_moves : goal.decreases-second_moves
decreases-second_moves l = l.game.count - l.at
