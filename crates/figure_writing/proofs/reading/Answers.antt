-- By each case of the seat.
use mir.Facts.{to_z-of_z}
use Rattle.figure_writing.proofs.Figuring.{auctioneer_written, auditor_written, developer_written}
use Rattle.figure_writing.proofs.reading.Goals as goal

pub returns-in-Auctioneer : goal.returns-in-Auctioneer
returns-in-Auctioneer c =
    rw c.in-Auctioneer.is
    (auctioneer_written _ c.args.excess _ _ _ _ (rw (to_z-of_z c.ranges.excess, c.in-Auctioneer.is) at c.read_from-shown.ensures)
    c.published_alone.ensures)

pub returns-in-Auditor : goal.returns-in-Auditor
returns-in-Auditor c =
    rw c.in-Auditor.is
    (auditor_written _ c.args.excess _ _ _ _ (rw (to_z-of_z c.ranges.excess, c.in-Auditor.is) at c.read_from-shown.ensures)
    c.published_alone-in-Auditor.ensures)

pub returns-in-Developer : goal.returns-in-Developer
returns-in-Developer c =
    rw c.in-Developer.is
    (developer_written _ c.args.excess _ _ _ _ _ (rw (to_z-of_z c.ranges.excess, c.in-Developer.is) at c.read_from-shown.ensures)
    c.of_developer.ensures)
