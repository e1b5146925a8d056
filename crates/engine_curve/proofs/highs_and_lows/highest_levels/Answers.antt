-- The highest level of each developer, place by place.
use Rattle.std.proofs.Common.{[], rules}
use Rattle.engine_curve.proofs.highs_and_lows.Reading.{highests_read}
use Rattle.engine_curve.proofs.highs_and_lows.highest_levels.Goals as goal

pub returns : goal.returns
returns c =
    let items = c.from_fn.ensures.items in
    highests_read _ _ (record { values = []; count = 0 }) items.long (λ i h. let called = (items.at i 0 h).2 in search rules)
