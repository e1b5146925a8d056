-- The refusals, and the awards of an accepted book.
use mathlib.Core.Path.{sym}
use Rattle.std.proofs.lemmas.Result.{err_from_is_err_and}
use Rattle.engine_refusals.specs.NumberLaws.{number_not_0}
use Rattle.engine_sealed.specs.sealed_checks.AcceptedBook.{accepted}
use Rattle.engine_sealed.proofs.sealed_auction.Clearing.{cleared_refused, in_order_within, cleared_given}
use Rattle.engine_sealed.proofs.sealed_auction.clear.Goals as goal

pub returns-in_err-check_sealed : goal.returns-in_err-check_sealed
returns-in_err-check_sealed c =
    let p = err_from_is_err_and c.from_residual.result c.from_residual.ensures.1 in
    rw (p.1, p.2) (cleared_refused _ _ _ _ c.in_err-check_sealed.ensures (number_not_0 _))

pub taking_order-order-requires : goal.taking_order-order-requires
taking_order-order-requires c =
    let a = accepted _ _ _ (sym c.in_ok-check_sealed.ensures) in
    record { at_most_sixteen = a.at_most_sixteen; long = a.ages; prices = a.prices_low; ages = a.ages_low }

pub share-requires : goal.share-requires
share-requires c =
    let a = accepted _ _ _ (sym c.in_ok-check_sealed.ensures) in
    (a.at_most_sixteen, a.quantities, a.minimums, in_order_within _ _ _ c.taking_order-order.ensures)

pub returns : goal.returns
returns c =
    let z = sym c.in_ok-check_sealed.ensures in
    cleared_given _ _ _ _ _ _ z (accepted _ _ _ z).at_most_sixteen _ (c.taking_order-order.ensures _ _) _ _ c.share.ensures
