-- That the lists in the code are what the format's table has of the ten kinds antt computes, and `table_at` says so of each kind.
use mathlib.Core.Path.{refl, ◌∙◌}
use Rattle.std.proofs.Common.{arith}
use Rattle.rules_numbers.specs.Lists.{padded}
use Rattle.rules_format.specs.Fields.{table_rows, table_row_in}
use Rattle.frame_bytes.proofs.field_table.Tables.{table_at, tabled_here, tabled_none, no_kind_0}
use Rattle.frame_bytes.proofs.field_table.row_of.Goals as goal
use Rattle.frame_bytes.proofs.field_table.row_of.Goals.{then-kind-eq0-via-then-kind-eq0, then-kind-eq0-via-else-kind-eq0+then-kind-ge10}

pub returns-then-kind-eq0 : goal.returns-then-kind-eq0
returns-then-kind-eq0 c = elim c.then-kind-eq0.branch [
  | then-kind-eq0-via-then-kind-eq0 w ↦ rw w.if-kind-eq0.true no_kind_0
  | then-kind-eq0-via-else-kind-eq0+then-kind-ge10 w ↦ tabled_none _ w.if-kind-ge10.true
]

pub returns : goal.returns
returns c =
    let k = c.args.kind in
    tabled_here _ c.if-kind-eq0.false (omega arith) _ refl (table_at (λ k. padded 8 (table_row_in table_rows k).widths) _ k _ refl (omega arith))
    (c.from.ensures ∙ table_at (λ k. (table_row_in table_rows k).repeated) _ k _ refl (omega arith))
