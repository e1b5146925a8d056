-- Field by field, each 8 digits further; the loop keeps `ReadingListed`.
use Rattle.std.proofs.Common.{arith}
use Rattle.frame_reading.proofs.frames.Reading.{listed_first, listed_next, listed_end}
use Rattle.frame_reading.proofs.frames.read_listed.Goals as goal

pub overflow_add-n-end : goal.overflow_add-n-end
overflow_add-n-end c = omega (arith, c.requires.0)

pub loop-n-init : goal.loop-n-init
loop-n-init c = let s = c in listed_first _ _ s.args.start s.args.first s.args.more s.requires.2 s.requires.0 s.requires.1

pub field-requires : goal.field-requires
field-requires c = (omega (arith, c.loop-n.invariant.room, c.loop-n-test.true), omega arith)

pub offset_bounds-fields-n : goal.offset_bounds-fields-n
offset_bounds-fields-n c = omega (arith, c.requires.0, c.loop-n-test.true)

pub bounds-fields-n : goal.bounds-fields-n
bounds-fields-n c = omega (arith, c.requires.0, c.loop-n-test.true)

pub overflow_add-at : goal.overflow_add-at
overflow_add-at c = let s = c in omega (arith, c.loop-n.invariant.room, c.loop-n-test.true, s.well_formed.0)

pub loop-n-preserved : goal.loop-n-preserved
loop-n-preserved c =
    let l = c.loop-n in
    listed_next _ l.fields _ _ l.at l.n l.invariant c.loop-n-test.true c.field.result c.field.ensures

pub returns : goal.returns
returns c = let l = c.loop-n in listed_end _ l.fields _ _ l.at l.n l.invariant c.loop-n-test.false
