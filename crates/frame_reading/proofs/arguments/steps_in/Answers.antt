-- The developer, the count and the two columns.
use mathlib.Core.Path.{◌≡◌, refl, ◌∙◌}
use Rattle.std.proofs.Common.{arith}
use lib.ListN.{length}
use Rattle.frame_reading.specs.arguments.FrameFields.{fields_in}
use Rattle.frame_reading.specs.arguments.FieldColumns.{every_first, every_second}
use Rattle.frame_reading.specs.arguments.Stepping.{counted, byte_below, word_below}
use Rattle.frame_reading.proofs.arguments.steps_in.Goals as goal
use Rattle.frame_reading.proofs.arguments.steps_in.Goals.{Start}

pub byte-n-requires : goal.byte-n-requires
byte-n-requires c = byte_below _ c.requires 1 refl

-- a frame has 32 places for fields
long : (c : Start) → length c.args.frame.fields ≡ 32
long c = omega arith

pub byte-requires : goal.byte-requires
byte-requires c = byte_below _ c.requires 0 refl

pub column-requires : goal.column-requires
unfolding fields_in
column-requires c =
    let w = c.requires in
    let n = c.byte-n.ensures in
    (long (goal.at.column-requires c).Start, omega arith, omega arith, omega (arith, (counted _ w).1), λ i. word_below _ w _ (omega arith))

pub column-requires-2 : goal.column-requires-2
unfolding fields_in
column-requires-2 c =
    let w = c.requires in
    let n = c.byte-n.ensures in
    (long (goal.at.column-requires-2 c).Start, omega arith, omega arith, omega (arith, (counted _ w).1), λ i. word_below _ w _ (omega arith))

pub returns : goal.returns
unfolding fields_in
returns c =
    let w = c.requires in
    let n = c.byte-n.ensures in
    record {
      developer = c.byte.ensures;
      at_most_nine = omega (arith, (counted _ w).1);
      long_prices = c.column.ensures.1;
      long_levels = c.column-2.ensures.1;
      prices = c.column.ensures.0 ∙ every_first 2 _ _ (omega (arith, (counted _ w).0));
      levels = c.column-2.ensures.0 ∙ every_second 2 _ _ (omega (arith, (counted _ w).0));
    }
