-- The widths of the row are copied up to the 0 that ends them, which comes before the row's end; the loop keeps `Shaping`.
use Rattle.std.proofs.Common.{arith}
use Rattle.frame_bytes.specs.field_table.Fitting.{fitting_kind}
use Rattle.frame_bytes.specs.field_table.RowLaws.{width_inside}
use Rattle.frame_bytes.proofs.field_table.Shaping.{shaping_first, shaping_room, shaping_next, shaping_end}
use Rattle.frame_bytes.proofs.field_table.shape_of.Goals as goal

pub loop-i-init : goal.loop-i-init
loop-i-init c = shaping_first _

pub returns-then-width-eq0 : goal.returns-then-width-eq0
returns-then-width-eq0 c =
    let l = c.loop-i in
    let r = shaping_end _ _ c.requires.widths l.widths l.i l.span l.invariant c.if-width-eq0.true in
    record { many = r.0; span = r.1; widths = r.2 }

pub overflow_add-span : goal.overflow_add-span
overflow_add-span c =
    let l = c.loop-i in
    let w = c.requires.widths in
    omega (arith, c.from-span.ensures, shaping_room _ _ w l.widths l.i l.span l.invariant (width_inside _ _ w l.i c.if-width-eq0.false))

pub loop-i-preserved : goal.loop-i-preserved
loop-i-preserved c =
    let l = c.loop-i in
    let w = c.requires.widths in
    rw (c.from.ensures, c.from-span.ensures) (shaping_next _ _ w l.widths l.i l.span l.invariant (width_inside _ _ w l.i c.if-width-eq0.false))

pub returns : goal.returns
returns c = absurd (omega (arith, c.loop-i.invariant.inside, (fitting_kind c.args.row.kind).at_most_seven))
