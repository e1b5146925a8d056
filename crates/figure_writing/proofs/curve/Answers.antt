-- The points do not fit, or are written, from the supply of the highest levels on.
use Rattle.figure_writing.proofs.Figuring.{curve_short, curve_written}
use Rattle.figure_writing.proofs.curve.Goals as goal

pub returns-then-points-count : goal.returns-then-points-count
returns-then-points-count c = curve_short _ _ c.if-points-count.true

pub returns : goal.returns
returns c =
    curve_written _ _ _ _ c.highest_levels-highest.ensures c.supply-first.ensures.0 _ c.put_points.ensures c.if-points-count.false
