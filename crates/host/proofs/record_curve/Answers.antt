-- The ledger of the calls that the record asks.
use Rattle.record_figures.specs.ToldLaws.{record_curve_told}
use Rattle.host.proofs.record_curve.Goals as goal

pub returns : goal.returns
returns c = record_curve_told _ _ _ _ c.curve.ensures
