-- Each refusal by its test, in their order; past both there is room for the digits of both numbers.
use mathlib.Core.Path.{◌≡◌, sym, ◌∙◌}
use mathlib.Core.Bool.{true}
use Rattle.rules_format.specs.SessionLines.{writable_seat}
use Rattle.seats.proofs.seat_numbers.SeatDigits.{no_seat, seat_short, seat_laid}
use Rattle.seats.proofs.seat_numbers.write_seat.Goals as goal
use Rattle.seats.proofs.seat_numbers.write_seat.Goals.{Else-not-is_writable}

pub returns-then-not-is_writable : goal.returns-then-not-is_writable
returns-then-not-is_writable c =
    let tested = c.is_writable in
    let r = no_seat _ _ _ (sym tested.ensures ∙ c.if-not-is_writable.true) in
    record { value = r.0; out_after = r.1 }

writable : (c : Else-not-is_writable) → writable_seat c.args.kind c.args.number ≡ true
writable c = let tested = c.is_writable in sym tested.ensures ∙ c.if-not-is_writable.false

pub returns-then-out-lt-SEAT_WIDTH : goal.returns-then-out-lt-SEAT_WIDTH
returns-then-out-lt-SEAT_WIDTH c =
    let r = seat_short _ _ _ (writable (goal.at.returns-then-out-lt-SEAT_WIDTH c).Else-not-is_writable) c.if-out-lt-SEAT_WIDTH.true in
    record { value = r.0; out_after = r.1 }

pub returns : goal.returns
returns c =
    let r = seat_laid _ _ _ (writable (goal.at.returns c).Else-not-is_writable) c.if-out-lt-SEAT_WIDTH.false _ _ c.put_hex.ensures c.put_hex-2.ensures in
    record { value = r.0; out_after = r.1 }
