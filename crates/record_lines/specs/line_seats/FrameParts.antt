-- The frame in a line of a record or, where `seated` says so, of a session, and whether its seat has no right to a frame of this kind and first field.
use Rattle.std.specs.Prelude.{ℕ, Bool, cond, ◌&&◌, List, [], ◌∷◌}
use Rattle.rules_format.specs.SessionLines.{seat_kind, seat_number, names_seat}
use Rattle.rules_seats.specs.sessions.Sessions.{seat_by}
use Rattle.rules_seats.specs.sessions.SeatedLines.{barred_by_kind}
use Rattle.seats.specs.session_lines.FrameParts.{frame_behind}

abbrev pub frame_part : Bool → List ℕ → List ℕ
frame_part seated line = cond seated (frame_behind line) line

abbrev pub barred_by : Bool → List ℕ → ℕ → ℕ → Bool
barred_by seated line kind first = seated && (names_seat line && barred_by_kind (seat_by (seat_kind line) (seat_number line)) kind (first ∷ []))
