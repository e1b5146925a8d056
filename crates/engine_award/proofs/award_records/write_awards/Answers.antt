-- `write_awards` lays the records over the buffer's start: the loop keeps which bytes are laid and which are left, so that there is room
-- for each record that is left.
use Prim.Native.Nat.{◌+◌, ◌≤◌}
use mathlib.Core.Path.{ap}
use Rattle.std.proofs.Common.{arith}
use lib.ListN.{length, length-drop}
use Rattle.std.proofs.Common.{rules}
use Rattle.engine_award.proofs.award_records.Writing.{writing_first, writing_passed, writing_room, writing_taken, writing_end}
use Rattle.rules_numbers.specs.Tails.{tail_is}
use Rattle.engine_award.proofs.award_records.write_awards.Goals as goal
use Rattle.engine_award.proofs.award_records.write_awards.Goals.{then-v-gt0, else-v-gt0, Then-v-gt0}

-- a record's room is left
room : (c : Then-v-gt0) → c.loop-i.used + 6 ≤ length c.loop-i.awards
room c = writing_room _ _ _ _ _ _ c.loop-i.invariant c.loop-i-test.true c.if-v-gt0.true

pub loop-i-init : goal.loop-i-init
loop-i-init c = writing_first _ _ _ (search rules) (search rules) c.requires

pub slice_bounds-write_record-start : goal.slice_bounds-write_record-start
slice_bounds-write_record-start c = omega (arith, room c)

pub write_record-requires : goal.write_record-requires
write_record-requires c =
    let l = c.loop-i in
    omega (arith, room (goal.at.write_record-requires c).Then-v-gt0, ap length (tail_is l.used l.awards), length-drop l.used l.awards)

pub overflow_add-used : goal.overflow_add-used
overflow_add-used c = omega (arith, room (goal.at.overflow_add-used c).Then-v-gt0, c.loop-i.invariant.long)

pub loop-i-preserved : goal.loop-i-preserved
loop-i-preserved c =
    let l = c.loop-i in
    elim c.if-v-gt0.branch [
      | then-v-gt0 w ↦
          rw (w.awards-is, w.used-is)
          (writing_taken _ _ _ _ _ _ l.invariant c.loop-i-test.true w.if-v-gt0.true w.write_record.new.out w.write_record.auto.out w.write_record.ensures)
      | else-v-gt0 w ↦ rw (w.awards-is, w.used-is) (writing_passed _ _ _ _ _ _ l.invariant c.loop-i-test.true w.if-v-gt0.false)
    ]

pub shape_of-awards : goal.shape_of-awards
shape_of-awards c = c.loop-i.invariant.long

pub returns : goal.returns
returns c = writing_end _ _ _ _ _ _ c.loop-i.invariant c.loop-i-test.false
