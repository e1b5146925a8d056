-- The offers applied from developer 1 to 32, in place: those that a closing cannot move stay as they are.
use mathlib.Core.Path.{◌≡◌}
use Rattle.std.proofs.Common.{arith}
use Rattle.engine_moves.proofs.closing_entries.ApplyingOffers.{turn_first, turn_moved, turn_passed, turn_last}
use Rattle.engine_moves.proofs.closing_entries.with_offers_applied.Goals as goal
use Rattle.engine_moves.proofs.closing_entries.with_offers_applied.Goals.{then-is_moved, else-is_moved}

pub loop-i-init : goal.loop-i-init
loop-i-init c = turn_first _ _ _ _ _

pub loop-i-preserved : goal.loop-i-preserved
loop-i-preserved c =
    let l = c.loop-i in
    let t = c.loop-i-test.true in
    elim c.if-is_moved.branch [
      | then-is_moved w ↦ rw w.next-is (turn_moved _ _ _ _ _ _ _ _ l.invariant t _ w.with_offer_applied-course.ensures)
      | else-is_moved w ↦ rw w.next-is (turn_passed _ _ _ _ _ _ _ _ l.invariant t _ c.is_moved.ensures w.if-is_moved.false)
    ]

pub returns : goal.returns
returns c =
    let e : c.loop-i.i ≡ 32 = omega arith in
    turn_last _ _ _ _ _ _ (rw e at c.loop-i.invariant)
