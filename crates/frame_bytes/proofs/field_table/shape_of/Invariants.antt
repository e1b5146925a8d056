-- The widths of the row are copied up to the 0 that ends them; the loop keeps `Shaping`.
use Rattle.rules_format.specs.Fields.{fixed}
use Rattle.frame_bytes.proofs.field_table.Shaping.{Shaping}
use Rattle.frame_bytes.proofs.field_table.shape_of.Given as goal

abbrev pub invariant-loop-i : goal.invariant-loop-i
invariant-loop-i l = Shaping (fixed l.fn.row.kind) l.widths l.i l.span
