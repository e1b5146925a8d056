-- The table of field widths as the code holds it.
use Rattle.std.specs.Prelude.{ℕ, ◌-◌, ◌≡◌, true, false, ◌++◌, length, replicate, Option, Some, None}
use Rattle.rules_numbers.specs.Lists.{total, padded}
use Rattle.rules_format.specs.Fields.{listed, known, fixed, each}
use Rattle.frame_bytes.specs.declared.field_table.Row.{Row}
use Rattle.frame_bytes.specs.declared.field_table.Shape.{Shape}

-- the row of a kind
pub record Tabled (k : ℕ) (r : Row) : Type 0 where
  pub kind : r.kind ≡ k
  pub widths : r.widths ≡ padded 8 (fixed k)
  pub follow : r.each ≡ each k

-- what the table has of a kind: its row, or nothing
abbrev pub TableHas : ℕ → Option Row → Type 0
TableHas k None = known k ≡ false
TableHas k (Some r) = (known k ≡ true) × Tabled k r

-- its shape
pub record Shaped (k : ℕ) (s : Shape) : Type 0 where
  pub many : s.fixed ≡ length (fixed k)
  pub span : s.span ≡ total (fixed k)
  pub widths : s.widths ≡ fixed k ++ replicate (32 - length (fixed k)) listed
