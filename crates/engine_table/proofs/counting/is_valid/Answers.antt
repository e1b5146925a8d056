-- `is_valid` tells whether all rows are valid: from each row on they are exactly if all are.
use Rattle.engine_table.proofs.counting.Checking.{checking_empty, checking_long, checking_bad, checking_again, checking_end}
use Rattle.engine_table.proofs.counting.is_valid.Goals as goal
use Rattle.engine_table.proofs.counting.is_valid.Goals.{then-end-at-via-then-end-at, then-end-at-via-else-end-at+then-end-gt-MOST, then-end-at-via-else-end-at+else-end-gt-MOST+then-not-row_is_valid}

pub returns-then-end-at : goal.returns-then-end-at
returns-then-end-at c =
    let i = c.loop-end.invariant in
    let n = c.requires.1 in
    let h = c.loop-end-test.true in
    elim c.then-end-at.branch [
      | then-end-at-via-then-end-at w ↦ checking_empty i n h w.if-end-at.true
      | then-end-at-via-else-end-at+then-end-gt-MOST w ↦ checking_long i n h w.if-end-gt-MOST.true
      | then-end-at-via-else-end-at+else-end-gt-MOST+then-not-row_is_valid w ↦ checking_bad i n h _ w.row_is_valid.ensures w.if-not-row_is_valid.true
    ]

pub loop-end-preserved : goal.loop-end-preserved
loop-end-preserved c =
    checking_again c.loop-end.invariant c.requires.1 c.loop-end-test.true _ c.row_is_valid.ensures
    c.if-end-at.false c.if-end-gt-MOST.false c.if-not-row_is_valid.false

pub returns : goal.returns
returns c = checking_end c.loop-end.invariant c.requires.1 c.loop-end-test.false
