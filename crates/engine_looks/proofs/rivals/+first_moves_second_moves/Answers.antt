-- Behind the last price the outcome; before it what the mover may do, by what is said of the calls one place on.
use mathlib.Core.Path.{◌∙◌}
use Rattle.std.proofs.Common.{arith}
use borrow.Author.Tests.{not-true, not-false}
use Rattle.rules_forcing.specs.Game.{First, Second}
use Rattle.engine_looks.proofs.rivals.Moving.{ended, first_keeps, first_best, second_keeps, second_best}
use Rattle.engine_looks.proofs.rivals.+first_moves_second_moves.Goals as goal

pub first_moves-returns-then-at-count : goal.first_moves-returns-then-at-count
first_moves-returns-then-at-count t c = c.outcome.ensures ∙ ended _ _ First _ _ c.if-at-count.true

pub first_moves-returns-then-not-first : goal.first_moves-returns-then-not-first
first_moves-returns-then-not-first t c =
    first_keeps _ _ c.requires.held c.requires.at_le_count c.if-at-count.false _ _ (not-true c.args.first.able c.if-not-first.true) c.second_moves-kept.ensures

pub first_moves-returns-then-kept-withdrawn : goal.first_moves-returns-then-kept-withdrawn
first_moves-returns-then-kept-withdrawn t c =
    let e = first_best _ _ c.requires.held c.requires.at_le_count c.if-at-count.false _ _ (not-false c.args.first.able c.if-not-first.false) c.second_moves-kept.ensures c.second_moves-withdrawn.ensures in
    omega arith

pub first_moves-returns : goal.first_moves-returns
first_moves-returns t c =
    let e = first_best _ _ c.requires.held c.requires.at_le_count c.if-at-count.false _ _ (not-false c.args.first.able c.if-not-first.false) c.second_moves-kept.ensures c.second_moves-withdrawn.ensures in
    omega arith

pub second_moves-returns-then-at-count : goal.second_moves-returns-then-at-count
second_moves-returns-then-at-count t c = c.outcome.ensures ∙ ended _ _ Second _ _ c.if-at-count.true

pub second_moves-returns-then-not-second : goal.second_moves-returns-then-not-second
second_moves-returns-then-not-second t c =
    second_keeps _ _ c.requires.held c.requires.at_le_count c.if-at-count.false _ _ (not-true c.args.second.able c.if-not-second.true) c.first_moves-kept.ensures

pub second_moves-returns-then-withdrawn-kept : goal.second_moves-returns-then-withdrawn-kept
second_moves-returns-then-withdrawn-kept t c =
    let e = second_best _ _ c.requires.held c.requires.at_le_count c.if-at-count.false _ _ (not-false c.args.second.able c.if-not-second.false) c.first_moves-kept.ensures c.first_moves-withdrawn.ensures in
    omega arith

pub second_moves-returns : goal.second_moves-returns
second_moves-returns t c =
    let e = second_best _ _ c.requires.held c.requires.at_le_count c.if-at-count.false _ _ (not-false c.args.second.able c.if-not-second.false) c.first_moves-kept.ensures c.first_moves-withdrawn.ensures in
    omega arith
