-- The low of each developer, place by place.
use Rattle.engine_curve.proofs.highs_and_lows.Reading.{LowTurn}
use Rattle.engine_curve.proofs.highs_and_lows.lows_at.Given as goal

abbrev pub invariant-loop-i : goal.invariant-loop-i
invariant-loop-i l = LowTurn l.histories l.highest l.p l.out l.i
