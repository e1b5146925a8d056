-- A seat by its kind and a number that may have more than two digits, as the engine holds it.
use Rattle.std.specs.Prelude.{ℕ, cond, leb}
use Rattle.rules_seats.specs.Seats.{Seat}
use Rattle.rules_seats.specs.sessions.Sessions.{seat_by}

-- a developer's number, or the largest of two digits
unfoldable pub byte_seat : ℕ → ℕ → Seat
byte_seat kind number = seat_by kind (cond (leb number 255) number 255)
