-- Closing a round: barred, or the auction's.
use mathlib.Core.Path.{refl}
use mir.Facts.{to_z-of_z}
use mir.Syntax.{w64}
use mir.Val.{SFits}
use Rattle.std.proofs.Common.{rules}
use Rattle.std.proofs.lemmas.Result.{err_from_is_err_and}
use Rattle.engine_refusals.specs.NumberLaws.{number_not_0}
use Rattle.rules_seats.specs.Seats.{may_make, latest_excess}
use Rattle.hall.proofs.Calls.{barred_call, made_call}
use Rattle.hall.proofs.Closing.{refused_closing}
use Rattle.hall.proofs.Hall.close.Goals as goal

pub returns-then-not-conducts : goal.returns-then-not-conducts
unfolding may_make
returns-then-not-conducts c = barred_call _ _ _ _ c.conducts.ensures c.if-not-conducts.true

pub returns-in_err-closing : goal.returns-in_err-closing
unfolding may_make
returns-in_err-closing c =
    let p = err_from_is_err_and c.from_residual.result c.from_residual.ensures.1 in
    rw (p.1, p.2) (refused_closing _ _ _ _ c.conducts.ensures c.if-not-conducts.false (number_not_0 _) c.in_err-closing.ensures)

pub returns : goal.returns
unfolding may_make latest_excess
returns c =
    let fits : SFits w64 c.in_ok-closing.closing.excess = search rules in
    rw (c.with_auction-hall.ensures, to_z-of_z fits) (made_call _ _ _ _ c.conducts.ensures _ _ c.if-not-conducts.false c.in_ok-closing.ensures refl)
