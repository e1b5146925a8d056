-- The points of the curve of the auction that is left.
use mathlib.Core.Path.{ap, ◌∙◌}
use Rattle.record_replay.specs.host_numbers.HostNumbers.{host_number}
use Rattle.record_replay.specs.record_auction.Leaves.{left_ledger}
use Rattle.record_figures.specs.ToldLaws.{counted_answer, counts_tells}
use Rattle.record_figures.proofs.curve.Goals as goal

pub returns : goal.returns
returns c =
    counts_tells _ _ _ _ _ _ (c.curve.ensures.curve_is _ (left_ledger _ _ _ c.after-after.ensures))
    (c.host_number.ensures ∙ ap host_number (counted_answer _))
