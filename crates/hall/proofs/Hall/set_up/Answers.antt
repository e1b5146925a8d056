-- Set-up: barred, or the auction's.
use mathlib.Core.Path.{refl}
use Rattle.std.proofs.lemmas.Result.{err_from_is_err_and}
use Rattle.rules_seats.specs.Seats.{may_make, latest_excess}
use Rattle.hall.proofs.Calls.{barred_call, made_call}
use Rattle.hall.proofs.Hall.set_up.Goals as goal

pub returns-then-not-conducts : goal.returns-then-not-conducts
unfolding may_make
returns-then-not-conducts c = barred_call _ _ _ _ c.conducts.ensures c.if-not-conducts.true

pub returns-in_err-auction : goal.returns-in_err-auction
unfolding may_make latest_excess
returns-in_err-auction c =
    let p = err_from_is_err_and c.from_residual.result c.from_residual.ensures.1 in
    rw (p.1, p.2) (made_call _ _ _ _ c.conducts.ensures _ _ c.if-not-conducts.false c.in_err-auction.ensures refl)

pub returns : goal.returns
unfolding may_make latest_excess
returns c =
    rw c.with_auction.ensures (made_call _ _ _ _ c.conducts.ensures _ _ c.if-not-conducts.false c.in_ok-auction.ensures refl)
