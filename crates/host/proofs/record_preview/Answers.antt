-- The ledger of the calls that the record asks.
use Rattle.record_figures.specs.ToldLaws.{record_preview_told}
use Rattle.host.proofs.record_preview.Goals as goal

pub returns : goal.returns
returns c = record_preview_told _ _ _ _ c.preview.ensures
