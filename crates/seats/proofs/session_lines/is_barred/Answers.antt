-- A line that names no seat is not barred; the number of one that does has two digits, so the seat is that of the line.
use Prim.Native.Nat.{◌≤◌}
use mathlib.Core.Path.{◌≡◌, sym, ap, ap₂, ◌∙◌}
use mathlib.Core.Bool.{true}
use mathlib.Core.List.{[], ◌∷◌}
use Rattle.std.proofs.Common.{arith}
use lib.ListN.{drop, length}
use Rattle.rules_format.specs.HexLaws.{field_fits}
use Rattle.rules_format.specs.SessionLines.{seat_kind, seat_number, names_seat}
use Rattle.rules_seats.specs.Seats.{Seat}
use Rattle.rules_seats.specs.sessions.SeatedLines.{barred_by_kind}
use Rattle.seats.specs.seat_numbers.ByteSeats.{byte_seat}
use Rattle.seats.specs.seat_numbers.ByteSeatLaws.{byte_seat_lem}
use Rattle.seats.specs.session_lines.FramePartLaws.{seat_fits}
use Rattle.seats.proofs.session_lines.is_barred.Goals as goal
use Rattle.seats.proofs.session_lines.is_barred.Goals.{After-bars, Else-not-begins_with_seat}

pub returns-then-not-begins_with_seat : goal.returns-then-not-begins_with_seat
returns-then-not-begins_with_seat c =
    let seat = c.begins_with_seat in
    rw (sym seat.ensures ∙ c.if-not-begins_with_seat.true)

named : (c : Else-not-begins_with_seat) → names_seat c.args.line.now ≡ true
named c = let seat = c.begins_with_seat in sym seat.ensures ∙ c.if-not-begins_with_seat.false

pub field-number-requires : goal.field-number-requires
field-number-requires c = let h : 4 ≤ length c.args.line.now = seat_fits _ (named c) in (omega arith, omega arith)

pub field-requires : goal.field-requires
field-requires c =
    let h : 4 ≤ length c.args.line.now = seat_fits _ (named (goal.at.field-requires c).Else-not-begins_with_seat) in (omega arith, omega arith)

pub returns : goal.returns
unfolding seat_kind seat_number
returns c =
    let numbers = c in
    let tested = numbers in
    let a = tested.args in
    rw (named (goal.at.After-bars tested).Else-not-begins_with_seat)
    (c.bars.ensures
    ∙ ap (λ (s : Seat). barred_by_kind s a.kind (a.first ∷ []))
    (c.seat_by-seat.ensures
    ∙ ap₂ byte_seat numbers.field.ensures numbers.field-number.ensures
    ∙ byte_seat_lem _ _ (omega (arith, field_fits 2 (drop 2 a.line.now)))))
