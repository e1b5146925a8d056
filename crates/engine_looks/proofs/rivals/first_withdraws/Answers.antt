-- No price, or one that may not withdraw: it keeps. Else by the values one place on.
use borrow.Author.Tests.{not-true, not-false}
use Rattle.engine_looks.proofs.rivals.Moving.{none_to_move, cannot_move, moves}
use Rattle.engine_looks.proofs.rivals.first_withdraws.Goals as goal

pub returns-then-count-lt1 : goal.returns-then-count-lt1
returns-then-count-lt1 c = none_to_move _ c.requires _ _ c.if-count-lt1.true

pub returns-then-not-first : goal.returns-then-not-first
returns-then-not-first c =
    cannot_move _ c.requires _ _ c.if-count-lt1.false (not-true c.args.first.able c.if-not-first.true)

pub returns : goal.returns
returns c =
    moves _ c.requires _ _ c.if-count-lt1.false (not-false c.args.first.able c.if-not-first.false) c.second_moves-kept.ensures c.second_moves-withdrawn.ensures
