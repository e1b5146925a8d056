-- The shape's first widths are those of the call, as a writable call has at most 27 fields.
use Prim.Native.Nat.{◌≤◌}
use mathlib.Core.Path.{◌≡◌, refl, sym}
use Rattle.std.proofs.Common.{arith}
use Rattle.std.proofs.Common.{rules}
use lib.ListN.{length, take, length-take}
use lib.Seq.{length-take-le}
use Rattle.rules_format.specs.Fields.{raw_call}
use Rattle.rules_format.specs.Written.{written_widths}
use Rattle.rules_format.specs.WrittenLaws.{Writable, is_writable}
use Rattle.frame_bytes.specs.field_table.RowLaws.{known_row, row_there, row_own}
use Rattle.frame_bytes.specs.field_table.Shapes.{Tabled}
use Rattle.frame_writing.specs.frame_sizes.FrameSizeLaws.{as_many, few_fields, widths_are}
use Rattle.frame_writing.proofs.Lines.{kind_room, kind_same, fields_room, line_there}
use Rattle.frame_writing.proofs.put_line.Goals as goal
use Rattle.frame_writing.proofs.put_line.Goals.{After-put_hex, After-row_of, After-unwrap, After-shape_of-shape}

can : (c : After-row_of) → Writable (raw_call c.args.kind c.args.fields.now)
can c = is_writable _ c.requires.0

-- so the table has its kind
pub unwrap-requires : goal.unwrap-requires
unwrap-requires c = known_row _ _ (can (goal.at.unwrap-requires c).After-row_of).kind_known c.row_of.ensures

row : (c : After-unwrap) → Tabled c.args.kind c.unwrap.result
row c = row_there _ _ _ c.unwrap.ensures c.row_of.ensures

-- it has few fields, and its widths are the shape's first
few : (c : After-shape_of-shape) → length c.args.fields.now ≤ 27
few c = few_fields _ _ (can (goal.at.After-shape_of-shape c).After-row_of)

widths :
    (c : After-shape_of-shape) →
    let a = c.args in
    take (length a.fields.now) c.shape_of-shape.result.widths ≡ written_widths (raw_call a.kind a.fields.now)
widths c =
    let s = rw (row (goal.at.After-shape_of-shape c).After-unwrap).kind at c.shape_of-shape.ensures in
    widths_are _ _ _ s _ refl (omega (arith, few c)) (as_many _ _ (can (goal.at.After-shape_of-shape c).After-row_of))

same : (c : After-put_hex) → length c.put_hex.new.out ≡ length c.args.out.now
same c = kind_same _ _ _ c.requires.1 _ c.put_hex.ensures

room : (c : After-put_hex) → 2 ≤ length c.put_hex.new.out
room c = omega (arith, same c, kind_room _ _ c.args.out.now c.requires.1)

pub shape_of-shape-requires : goal.shape_of-shape-requires
shape_of-shape-requires c = row_own _ _ (row (goal.at.shape_of-shape-requires c).After-unwrap)

pub put_hex-requires : goal.put_hex-requires
put_hex-requires c = kind_room _ _ c.args.out.now c.requires.1

pub slice_bounds-put_fields-count : goal.slice_bounds-put_fields-count
slice_bounds-put_fields-count c = room (goal.at.slice_bounds-put_fields-count c).After-put_hex

pub slice_bounds-put_fields-start : goal.slice_bounds-put_fields-start
slice_bounds-put_fields-start c = omega (arith, room (goal.at.slice_bounds-put_fields-start c).After-put_hex)

pub slice_bounds-widths-end : goal.slice_bounds-widths-end
slice_bounds-widths-end c =
    let l : length c.shape_of-shape.result.widths ≡ 32 = search rules in
    omega (arith, few (goal.at.slice_bounds-widths-end c).After-shape_of-shape)

pub slice_bounds-put_fields-end-2 : goal.slice_bounds-put_fields-end-2
slice_bounds-put_fields-end-2 c =
    let l : length c.shape_of-shape.result.widths ≡ 32 = search rules in
    sym (length-take-le _ c.shape_of-shape.result.widths (omega (arith, few (goal.at.slice_bounds-put_fields-end-2 c).After-shape_of-shape)))

pub put_fields-requires : goal.put_fields-requires
put_fields-requires c = (
  omega (arith, length-take (length c.args.fields.now) c.shape_of-shape.result.widths),
  fields_room _ _ _ c.requires.1 _ c.put_hex.ensures _ (widths (goal.at.put_fields-requires c).After-shape_of-shape),
)

pub returns : goal.returns
returns c =
    line_there _ _ _ c.requires.1 _ c.put_hex.ensures _ (widths (goal.at.returns c).After-shape_of-shape) _ c.put_fields.ensures.out_after
