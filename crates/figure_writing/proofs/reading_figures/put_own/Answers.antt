-- The published values, behind them the levels, behind those the offer.
use mathlib.Core.Path.{◌≡◌, refl}
use Rattle.std.proofs.Common.{arith}
use lib.ListN.{length, length-take}
use Rattle.figure_writing.specs.reading_figures.Read.{published_in, level_figures, own_figures}
use Rattle.figure_writing.proofs.reading_figures.Putting.{parts_laid}
use Rattle.figure_writing.proofs.reading_figures.put_own.Goals as goal
use Rattle.figure_writing.proofs.reading_figures.put_own.Goals.{After-slice_known-4-1, Start}

eight : (c : Start) → length c.args.shown.levels.values ≡ 8
eight c = omega arith

pub returns : goal.returns
unfolding own_figures published_in level_figures
returns c =
    let l : length c.args.shown.levels.values ≡ 8 = eight (goal.at.After-slice_known-4-1 c).Start in
    parts_laid _ _ _ _ _ _ _ _ _ refl (omega (arith, length-take c.args.levels c.args.shown.levels.values))
    c.put_published.ensures c.put_levels.ensures c.put_offer.ensures
