-- Whether the table has a kind, as the row found for it tells.
use Prim.Native.Nat.{ℕ}
use mathlib.Core.Path.{◌≡◌, sym}
use Rattle.std.specs.Prelude.{Option, Some, None, is_some}
use Rattle.rules_format.specs.Fields.{known}
use Rattle.frame_bytes.specs.declared.field_table.Row.{Row}
use Rattle.frame_bytes.specs.field_table.Shapes.{TableHas}

-- the table has the kind that it has a row of
pub row_tells : (k : ℕ) (o : Option Row) → TableHas k o → is_some o ≡ known k
row_tells k None t = sym t
row_tells k (Some r) t = sym t.0
