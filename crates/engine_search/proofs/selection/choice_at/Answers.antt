-- `choice_at` parts the place row by row: the quotient by the number of choices behind is the level, the remainder the place behind. Below that
-- number the quotient is 0 and the place is its own remainder.
use mathlib.Core.Path.{refl}
use Rattle.std.proofs.Common.{arith}
use Rattle.engine_search.proofs.selection.Choosing.{choosing_first, n_some, level_there, choosing_again, first_there, choosing_low}
use Rattle.engine_search.proofs.selection.Choosing.{choosing_end}
use Rattle.engine_search.proofs.selection.choice_at.Goals as goal
use Rattle.engine_search.proofs.selection.choice_at.Goals.{then-rank-n, else-rank-n}

pub loop-i-init : goal.loop-i-init
loop-i-init c = choosing_first c.requires.0 _ _ c.requires.1 refl

-- ---- the first level
pub offset_bounds-levels-first : goal.offset_bounds-levels-first
offset_bounds-levels-first c =
    omega (arith, c.start_of-first.ensures, first_there c.requires.0 c.loop-i.invariant c.loop-i-test.true c.if-rank-n.true)

pub bounds-levels-first : goal.bounds-levels-first
bounds-levels-first c =
    rw c.start_of-first.ensures (first_there c.requires.0 c.loop-i.invariant c.loop-i-test.true c.if-rank-n.true)

-- ---- a level by the quotient
pub nonzero_div-level : goal.nonzero_div-level
nonzero_div-level c = n_some c.requires.0 c.loop-i.invariant c.loop-i-test.true

pub overflow_add-award : goal.overflow_add-award
overflow_add-award c =
    omega (arith, c.start_of-first.ensures, level_there c.requires.0 c.loop-i.invariant c.loop-i-test.true)

pub offset_bounds-levels-first-else-rank-n : goal.offset_bounds-levels-first-else-rank-n
offset_bounds-levels-first-else-rank-n c =
    omega (arith, c.start_of-first.ensures, level_there c.requires.0 c.loop-i.invariant c.loop-i-test.true)

pub bounds-levels-first-else-rank-n : goal.bounds-levels-first-else-rank-n
bounds-levels-first-else-rank-n c =
    rw c.start_of-first.ensures (level_there c.requires.0 c.loop-i.invariant c.loop-i-test.true)

pub nonzero_rem-rank : goal.nonzero_rem-rank
nonzero_rem-rank c = n_some c.requires.0 c.loop-i.invariant c.loop-i-test.true

pub loop-i-preserved : goal.loop-i-preserved
loop-i-preserved c =
    let i = c.loop-i.invariant in
    let h = c.loop-i-test.true in
    elim c.if-rank-n.branch [
      | then-rank-n w ↦ rw (w.award-is, w.rank-is, c.start_of-first.ensures) (choosing_low c.requires.0 i h w.if-rank-n.true)
      | else-rank-n w ↦ rw (w.award-is, w.rank-is, c.start_of-first.ensures) (choosing_again c.requires.0 i h)
    ]

pub returns : goal.returns
returns c = choosing_end c.requires.0 c.loop-i.invariant c.loop-i-test.false
