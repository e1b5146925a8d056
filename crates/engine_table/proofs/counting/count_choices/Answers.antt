-- `count_choices` multiplies the rows' lengths: no row is empty, so the product is never above the number of choices.
use Rattle.std.proofs.Common.{arith}
use Rattle.engine_table.proofs.counting.Tallying.{tally_row, tally_fits, tally_again, tally_over, tally_end}
use Rattle.engine_table.proofs.counting.count_choices.Goals as goal

pub overflow_sub-n : goal.overflow_sub-n
overflow_sub-n c = omega (arith, (tally_row c.loop-end.invariant c.requires.0 c.loop-end-test.true).0)

pub overflow_mul-n : goal.overflow_mul-n
overflow_mul-n c = omega (arith, tally_fits c.loop-end.invariant c.requires.0 c.loop-end-test.true)

pub returns-then-limit-n : goal.returns-then-limit-n
returns-then-limit-n c = tally_over c.loop-end.invariant c.requires.0 c.loop-end-test.true _ c.if-limit-n.true

pub loop-end-preserved : goal.loop-end-preserved
loop-end-preserved c =
    tally_again c.loop-end.invariant c.requires.0 c.loop-end-test.true (omega (arith, c.if-limit-n.false, c.requires.2))

pub returns : goal.returns
returns c = tally_end c.loop-end.invariant c.requires.0 _ c.loop-end-test.false
