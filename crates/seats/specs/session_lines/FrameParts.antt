-- The frame of a session's line, as a loop over the lines takes it.
use Rattle.std.specs.Prelude.{ℕ, cond, List, []}
use Rattle.rules_format.specs.SessionLines.{frame_in, names_seat}

-- nothing where the line names no seat
unfoldable pub frame_behind : List ℕ → List ℕ
frame_behind line = cond (names_seat line) (frame_in line) []
