-- `strides_of` stores the number of choices of the rows behind each row, from the last row up.
use Prim.Native.Nat.{◌+◌, ◌-◌}
use mathlib.Core.Path.{refl}
use Rattle.std.proofs.Common.{arith}
use Rattle.engine_search.proofs.rows_behind.Numbering.{Numbering, numbering_first, numbering_down, row_inside, number_fits, numbering_again}
use Rattle.engine_search.proofs.rows_behind.strides_of.Goals as goal
use Rattle.engine_search.proofs.rows_behind.strides_of.Goals.{In-loop-i}

-- a turn, at row i - 1
down :
    (c : In-loop-i) →
    let l = c.loop-i in
    Numbering c.args.ends.now l.strides l.n (l.i - 1 + 1)
down c = numbering_down c.loop-i.invariant c.loop-i-test.true

pub loop-i-init : goal.loop-i-init
loop-i-init c = numbering_first _ refl

pub overflow_sub-n : goal.overflow_sub-n
overflow_sub-n c = omega (arith, c.start_of.ensures, (row_inside _ (down (goal.at.overflow_sub-n c).In-loop-i) c.requires).0)

pub overflow_mul-n : goal.overflow_mul-n
overflow_mul-n c = rw c.start_of.ensures (omega (arith, number_fits _ (down (goal.at.overflow_mul-n c).In-loop-i) c.requires))

pub loop-i-preserved : goal.loop-i-preserved
loop-i-preserved c = rw c.start_of.ensures (numbering_again _ (down (goal.at.loop-i-preserved c).In-loop-i))
