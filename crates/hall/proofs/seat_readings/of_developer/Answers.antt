-- `of_developer` reads the developer's place of the arrays; outside 1 to 32 there is none.
use mir.Facts.{to_z-of_z}
use Rattle.std.proofs.Common.{arith}
use Rattle.hall.proofs.seat_readings.Readings.{nobody_reads, developer_reads}
use Rattle.hall.proofs.seat_readings.of_developer.Goals as goal

pub returns-then-developer-eq0 : goal.returns-then-developer-eq0
returns-then-developer-eq0 c =
    nobody_reads _ (to_z-of_z c.ranges.excess) c.args.developer (λ low high. omega arith) c.published_alone.ensures

pub returns-then-developer-gt-MOST_DEVELOPERS : goal.returns-then-developer-gt-MOST_DEVELOPERS
returns-then-developer-gt-MOST_DEVELOPERS c =
    nobody_reads _ (to_z-of_z c.ranges.excess) c.args.developer (λ low high. omega arith) c.published_alone-then-developer-gt-MOST_DEVELOPERS.ensures

pub returns : goal.returns
returns c =
    developer_reads c.args.auction (to_z-of_z c.ranges.excess) c.args.developer _ _ (omega arith) (omega arith)
    c.standing_offer.ensures c.published.ensures
