-- The settlement of the auction that is left.
use Rattle.record_replay.specs.record_auction.Leaves.{left_ledger}
use Rattle.record_figures.specs.ToldLaws.{settlement_told}
use Rattle.record_figures.proofs.settlement.Goals as goal

pub returns : goal.returns
returns c =
    let held = left_ledger _ _ _ c.after-closed.ensures in
    let w = c.settlement-settlement.ensures in
    settlement_told _ _ _ _ _ _ _ _ (w.number _ held) (w.lent _ held) (w.awards _ held) c.bare_number.ensures
