-- Bounds on replies by one digit of each line: the second of its kind, which stands at place 1 in a record, and behind the seat in a session.
use Rattle.std.specs.Prelude.{ℕ, List, map, get_or}
use Rattle.rules_numbers.specs.Lists.{total}
use Rattle.rules_format.specs.Hex.{value_of}
use Rattle.rules_format.specs.Lines.{lines}
use Rattle.rules_replies.specs.Lengths.{most_of}

-- the most bytes of a reply of the kind that the digit at this place says; what has no such place adds nothing
unfoldable pub most_by : ℕ → List ℕ → ℕ
most_by place line = most_of (value_of (get_or line place 0))

unfoldable pub most_by_all : ℕ → List ℕ → ℕ
most_by_all place bytes = total (map (most_by place) (lines bytes))
