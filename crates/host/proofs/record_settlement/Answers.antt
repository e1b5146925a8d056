-- The ledger of the calls that the record asks.
use Rattle.record_figures.specs.ToldLaws.{record_settlement_told}
use Rattle.host.proofs.record_settlement.Goals as goal

pub returns : goal.returns
returns c = record_settlement_told _ _ _ _ _ _ _ c.settlement.ensures
