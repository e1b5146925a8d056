-- How far the fixed fields of a line reach, where they are read one by one.
use Rattle.std.specs.Prelude.{ℕ, ◌+◌, ◌≤◌, ◌<◌, ◌≡◌, List, length, take, drop, Option, Some, None}
use Rattle.rules_numbers.specs.Lists.{total}
use Rattle.rules_format.specs.Fields.{fixed, fields_at}
use Rattle.frame_reading.specs.declared.frames.FixedFields.{FixedFields}

-- the fixed fields of a line of kind k, n of them, were read into an array, and end at a place of the line
pub record FixedRead (k : ℕ) (line out : List ℕ) (n end : ℕ) : Type 0 where
  pub many : n ≡ length (fixed k)
  pub place : end ≡ 2 + total (fixed k)
  pub inside : end ≤ length line
  pub fields : take n out ≡ fields_at (fixed k) (drop 2 line)

-- how far they reach; nothing where the line is too short for them
abbrev pub Reaches : ℕ → List ℕ → List ℕ → Option FixedFields → Type 0
Reaches k line out None = length line < 2 + total (fixed k)
Reaches k line out (Some r) = FixedRead k line out r.count r.end

pub record ReadsFixed (k : ℕ) (line out : List ℕ) (r : Option FixedFields) : Type 0 where
  pub long : length out ≡ 32
  pub reach : Reaches k line out r
