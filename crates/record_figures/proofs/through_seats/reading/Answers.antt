-- 20 where no seat is named, else the numbers that the seat reads in the hall that is left.
use mir.Facts.{to_z-of_z}
use mir.Syntax.{w64}
use mir.Val.{SFits}
use mathlib.Core.Path.{sym, ap, ◌∙◌, refl}
use Rattle.std.proofs.Common.{rules}
use Rattle.record_replay.specs.host_numbers.HostNumbers.{host_number}
use Rattle.record_replay.specs.record_auction.Leaves.{hall_ledger_lem}
use Rattle.record_figures.specs.ToldLaws.{counted_answer, reading_barred, reading_seated}
use Rattle.record_figures.proofs.through_seats.reading.Goals as goal

pub returns-then-not-names_seat : goal.returns-then-not-names_seat
returns-then-not-names_seat c = reading_barred _ _ _ _ _ _ (sym c.names_seat.ensures ∙ c.if-not-names_seat.true) c.host_number.ensures refl

pub returns : goal.returns
returns c =
    let left = c.after-after.ensures in
    let fits : SFits w64 c.after-after.result.excess = search rules in
    reading_seated _ _ _ _ _ _ (sym c.names_seat.ensures ∙ c.if-not-names_seat.false) _ _ c.seat_by-seat.ensures
    (c.reading.ensures.reading_is _ _ (hall_ledger_lem _ _) left.auction (to_z-of_z fits ∙ left.excess)) (c.host_number-2.ensures ∙ ap host_number (counted_answer _))
