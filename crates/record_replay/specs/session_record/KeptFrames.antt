-- What the plain record of a session has of each line.
use Rattle.std.specs.Prelude.{ℕ, cond, List, [], ◌∷◌, ◌++◌}
use Rattle.rules_format.specs.SessionLines.{frame_in}
use Rattle.rules_seats.specs.sessions.SessionLaws.{allowed}

-- its frame; nothing of a line that cannot be read, or that 20 refuses
unfoldable pub kept_frame : List ℕ → List ℕ
kept_frame line = cond (allowed line) (frame_in line) []

-- the same with its 0A
unfoldable pub kept_text : List ℕ → List ℕ
kept_text line = cond (allowed line) (frame_in line ++ (10 ∷ [])) []
