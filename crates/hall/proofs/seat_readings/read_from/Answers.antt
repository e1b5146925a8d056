-- `read_from` by each case of the enum.
use mir.Facts.{to_z-of_z}
use Rattle.hall.proofs.seat_readings.Readings.{auctioneer_reads, auditor_reads, same_reads}
use Rattle.hall.proofs.seat_readings.read_from.Goals as goal

pub returns-in-Auctioneer : goal.returns-in-Auctioneer
returns-in-Auctioneer c =
    rw c.in-Auctioneer.is (auctioneer_reads _ (to_z-of_z c.ranges.excess) c.published_alone.ensures)

pub returns-in-Auditor : goal.returns-in-Auditor
returns-in-Auditor c =
    rw c.in-Auditor.is (auditor_reads _ (to_z-of_z c.ranges.excess) c.published_alone-in-Auditor.ensures)

pub returns-in-Developer : goal.returns-in-Developer
returns-in-Developer c =
    rw c.in-Developer.is (same_reads _ (to_z-of_z c.ranges.excess) c.of_developer.ensures)
