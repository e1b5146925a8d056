-- The settling into own bytes is refused, a lent buffer is too short, or both are written.
use mathlib.Core.Path.{◌≡◌, refl, sym}
use Rattle.std.proofs.Common.{arith, rules}
use Rattle.std.proofs.lemmas.Result.{err_from_is_err_and}
use lib.ListN.{length}
use lib.Seq.{length-take-le}
use Rattle.engine_refusals.specs.NumberLaws.{number_not_0}
use Rattle.figure_writing.specs.lent_numbers.LentLaws.{laid_over}
use Rattle.figure_writing.proofs.Settling.{settlement_refused, awards_short, figures_short, settlement_written}
use Rattle.figure_writing.proofs.settlement.Goals as goal

pub returns-in_err-settled : goal.returns-in_err-settled
returns-in_err-settled c =
    let p = err_from_is_err_and c.from_residual.result c.from_residual.ensures.1 in
    rw (p.1, p.2) (settlement_refused _ _ _ _ _ _ c.in_err-settled.ensures c.capped.ensures refl _ _ (number_not_0 _))

pub returns-then-awards-filled : goal.returns-then-awards-filled
returns-then-awards-filled c =
    awards_short _ _ _ _ _ _ c.in_ok-settled.ensures c.capped.ensures refl _ _ refl _ c.award_bytes-filled.ensures
    c.if-awards-filled.true

pub returns-then-figures-lt-COUNT : goal.returns-then-figures-lt-COUNT
returns-then-figures-lt-COUNT c =
    figures_short _ _ _ _ _ _ c.in_ok-settled.ensures c.capped.ensures refl _ _ refl _ c.award_bytes-filled.ensures
    c.if-awards-filled.false c.if-figures-lt-COUNT.true

pub returns : goal.returns
returns c =
    let own = c.settle.new.awards in
    let n : length c.numbers_of-numbers.result ≡ 12 = search rules in
    let filled = length-take-le c.award_bytes-filled.result own (omega (arith, c.award_bytes-filled.ensures, c.in_ok-settled.ensures.behind.0)) in
    settlement_written _ _ _ _ _ _ c.in_ok-settled.ensures c.capped.ensures refl _ _ refl _ c.award_bytes-filled.ensures
    c.if-awards-filled.false _ _ _ c.if-figures-lt-COUNT.false c.numbers_of-numbers.ensures
    (laid_over 12 _ _ (sym n) c.copy_from_slice-2.ensures.after) (laid_over _ _ _ (sym filled) c.copy_from_slice.ensures.after)
