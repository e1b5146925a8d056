-- `published_alone` has no levels and no offer.
use mir.Facts.{to_z-of_z}
use Rattle.hall.proofs.seat_readings.Readings.{none_read}
use Rattle.hall.proofs.seat_readings.published_alone.Goals as goal

pub returns : goal.returns
returns c =
    none_read c.args.auction (to_z-of_z c.ranges.excess) c.none.ensures c.published.ensures
