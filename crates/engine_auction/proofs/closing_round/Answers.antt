-- The offers are applied, and the figures are the ledger's; the curve too, extended or, where nobody moved, left alone.
use mir.Facts.{to_z-of_z}
use mir.Syntax.{w64}
use mir.Val.{SFits}
use Rattle.std.proofs.Common.{rules}
use borrow.Author.Tests.{not-true}
use Rattle.engine_auction.specs.Decided.{with_play}
use Rattle.engine_auction.proofs.ClosingRound.{curve_left, curve_extended, close_taken}
use Rattle.engine_auction.proofs.closing_round.Goals as goal

pub returns-then-not-after : goal.returns-then-not-after
returns-then-not-after c = record {
  closes = λ b e.
      let figured = c.figures_at-figures in
      let fits : SFits w64 figured.result.excess = search rules in
      let offers = c.with_offers_applied-after in
      let p = with_play b c.args.auction.now in
      close_taken p offers.result _ figured.result _ (record {
        round = e;
        applied = offers.ensures;
        curve = curve_left p offers.result (offers.ensures.stays (not-true _ c.if-not-after.true));
        figures = figured.ensures;
        excess = to_z-of_z fits;
      });
}

pub returns : goal.returns
returns c = record {
  closes = λ b e.
      let figured = c.figures_at-figures in
      let fits : SFits w64 figured.result.excess = search rules in
      let offers = c.with_offers_applied-after in
      let p = with_play b c.args.auction.now in
      close_taken p offers.result _ figured.result _ (record {
        round = e;
        applied = offers.ensures;
        curve = curve_extended p offers.result _ _ c.highest_levels-highest.ensures c.extend.ensures;
        figures = figured.ensures;
        excess = to_z-of_z fits;
      });
}
