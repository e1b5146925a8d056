-- Project, developer and kind in front, study value, start day and count from the place on, and the column of levels behind them.
use Prim.Native.Nat.{◌+◌}
use mathlib.Core.Path.{◌≡◌, refl, ◌∙◌}
use Rattle.std.proofs.Common.{arith}
use lib.ListN.{length, take, drop}
use Rattle.frame_reading.specs.arguments.FrameFields.{fields_in}
use Rattle.frame_reading.specs.arguments.FieldColumns.{every_one}
use Rattle.frame_reading.specs.arguments.Registering.{counted, front_below, behind_below, level_below}
use Rattle.frame_reading.proofs.arguments.registration_in.Goals as goal
use Rattle.frame_reading.proofs.arguments.registration_in.Goals.{After-byte-n, After-column, Start}

-- the place behind the count, from the one behind the column
abbrev counting : After-column → After-byte-n
counting c = (goal.at.After-column c).After-byte-n

-- the column holds as many levels as were counted
levels :
    (c : After-column) →
    let n = counting c in
    take n.byte-n.result c.column.result ≡ drop (n.args.at + 3) (fields_in n.args.frame)
unfolding fields_in
levels c =
    let n = counting c in
    c.column.ensures.0 ∙ every_one _ _ _ (omega (arith, (counted _ _ n.requires).0, n.byte-n.ensures))

pub byte-n-requires : goal.byte-n-requires
byte-n-requires c = behind_below _ _ c.requires _ _ 256 refl refl

-- a frame has 32 places for fields
long : (c : Start) → length c.args.frame.fields ≡ 32
long c = omega arith

pub byte-requires : goal.byte-requires
byte-requires c = front_below _ _ c.requires _ (omega arith) refl

pub byte-requires-2 : goal.byte-requires-2
byte-requires-2 c = front_below _ _ c.requires _ (omega arith) refl

pub byte-requires-3 : goal.byte-requires-3
byte-requires-3 c = front_below _ _ c.requires _ (omega arith) refl

pub word-requires : goal.word-requires
word-requires c = behind_below _ _ c.requires 0 _ 4294967296 (omega arith) refl

pub word-requires-2 : goal.word-requires-2
word-requires-2 c = behind_below _ _ c.requires _ _ 4294967296 refl refl

pub column-requires : goal.column-requires
unfolding fields_in
column-requires c =
    let w = c.requires in
    let n = c.byte-n.ensures in (
      long (goal.at.column-requires c).Start,
      omega (arith, w.place),
      omega arith,
      omega (arith, (counted _ _ w).1),
      λ i. level_below _ _ w _ (omega arith),
    )

pub returns : goal.returns
returns c =
    let n = counting c in
    record {
      project = c.byte.ensures;
      developer = c.byte-2.ensures;
      kind = c.byte-3.ensures;
      study = c.word.ensures;
      day = c.word-2.ensures;
      at_most_sixteen = omega (arith, (counted _ _ n.requires).1, n.byte-n.ensures);
      long = c.column.ensures.1;
      levels = levels c;
    }
