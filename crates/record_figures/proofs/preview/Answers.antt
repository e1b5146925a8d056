-- What closing the auction that is left would answer.
use Rattle.record_replay.specs.record_auction.Leaves.{left_ledger}
use Rattle.record_figures.specs.ToldLaws.{gives_tells}
use Rattle.record_figures.proofs.preview.Goals as goal

pub returns : goal.returns
returns c =
    gives_tells _ _ _ _ _ _ (c.previewed-preview.ensures.preview_is _ (left_ledger _ _ _ c.after-open.ensures)) c.bare_number.ensures
