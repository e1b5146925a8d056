-- `winners` finds the developer of each awarded level: the loop keeps the preferred ones among the first i developers.
use Rattle.engine_award.proofs.awarding.Winning.{Winning}
use Rattle.engine_award.proofs.awarding.winners.Given as goal

abbrev pub invariant-loop-i : goal.invariant-loop-i
invariant-loop-i l = let a = l.auction in Winning a.projects a.studies a.days a.declared l.lows l.highs l.award l.best l.i
