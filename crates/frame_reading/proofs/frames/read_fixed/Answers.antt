-- Field by field up to the width 0 that ends them, which comes before the row's end; the loop keeps `ReadingFixed`.
use Prim.Native.Nat.{◌+◌, ◌-◌, ◌≤◌, ◌<◌}
use mathlib.Core.Path.{sym, ◌∙◌}
use Rattle.std.proofs.Common.{arith}
use lib.ListN.{length, get_or}
use Rattle.rules_format.specs.Fields.{fixed}
use Rattle.frame_bytes.specs.field_table.Fitting.{fitting_kind}
use Rattle.frame_bytes.specs.field_table.RowLaws.{width_small, width_inside}
use Rattle.frame_reading.proofs.frames.Reading.{fixed_first, fixed_short, fixed_next, fixed_end}
use Rattle.frame_reading.proofs.frames.read_fixed.Goals as goal
use Rattle.frame_reading.proofs.frames.read_fixed.Goals.{Else-width-eq0}

-- before the 0 there is a field more
turn : (c : Else-width-eq0) → c.loop-n.n < length (fixed c.args.row.kind)
turn c = width_inside _ _ c.requires.0.widths c.loop-n.n (λ z. c.if-width-eq0.false (c.from-width.ensures ∙ z))

pub loop-n-init : goal.loop-n-init
loop-n-init c = fixed_first _ _ _ c.requires.2 c.requires.1

pub returns-then-width-eq0 : goal.returns-then-width-eq0
returns-then-width-eq0 c =
    let l = c.loop-n in
    let end = fixed_end _ _ c.requires.0.widths _ l.fields l.at l.n l.invariant (sym c.from-width.ensures ∙ c.if-width-eq0.true) in
    record { long = l.invariant.reading.long; reach = end }

pub returns-then-line-at : goal.returns-then-line-at
returns-then-line-at c =
    let l = c.loop-n in
    let less : length c.args.line.now - l.at < get_or c.args.row.widths l.n 0 = omega (arith, c.from-width.ensures, c.if-line-at.true) in
    let short = fixed_short _ _ c.requires.0.widths _ l.fields l.at l.n l.invariant (turn (goal.at.returns-then-line-at c).Else-width-eq0) less in
    record { long = l.invariant.reading.long; reach = short }

pub field-requires : goal.field-requires
field-requires c =
    let l = c.loop-n in
    let small = width_small _ _ c.requires.0.widths l.n in
    (omega (arith, l.invariant.room, c.if-line-at.false), omega (arith, small, c.from-width.ensures))

pub loop-n-preserved : goal.loop-n-preserved
loop-n-preserved c =
    let l = c.loop-n in
    let room : l.at + get_or c.args.row.widths l.n 0 ≤ length c.args.line.now = omega (arith, l.invariant.room, c.if-line-at.false, c.from-width.ensures) in
    rw c.from-width.ensures (fixed_next _ _ c.requires.0.widths _ l.fields l.at l.n l.invariant (turn (goal.at.loop-n-preserved c).Else-width-eq0) room
    c.field.result (rw c.from-width.ensures at c.field.ensures))

pub returns : goal.returns
returns c = absurd (omega (arith, c.loop-n.invariant.inside, (fitting_kind c.args.row.kind).at_most_seven))
