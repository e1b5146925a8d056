-- The tests in their order: what the book is refused by, no room for the awards, and the awards.
use mathlib.Core.Path.{refl}
use Rattle.std.proofs.Common.{arith}
use Rattle.std.proofs.lemmas.Result.{err_from_is_err_and}
use Rattle.engine_refusals.specs.NumberLaws.{number_not_0}
use Rattle.engine_sealed.specs.sealed_checks.AcceptedBook.{accepted}
use Rattle.engine_sealed.proofs.sealed_auction.Clearing.{book_accepted, lends_refused, lends_no_room, lends_given}
use Rattle.engine_sealed.proofs.sealed_auction.sealed_auction.Goals as goal

pub returns-in_err-sealed : goal.returns-in_err-sealed
returns-in_err-sealed c =
    let p = err_from_is_err_and c.from_residual.result c.from_residual.ensures.1 in
    rw (p.1, p.2) (lends_refused _ _ _ _ c.in_err-sealed.ensures _ (number_not_0 _))

pub returns-then-awards-prices : goal.returns-then-awards-prices
returns-then-awards-prices c = lends_no_room _ _ _ _ c.in_ok-sealed.ensures _ refl c.if-awards-prices.true

pub put_awards-requires : goal.put_awards-requires
put_awards-requires c =
    let z = book_accepted _ _ _ _ c.in_ok-sealed.ensures refl in
    ((accepted _ _ _ z).at_most_sixteen, omega (arith, c.if-awards-prices.false))

pub returns : goal.returns
returns c =
    lends_given _ _ _ _ c.in_ok-sealed.ensures _ refl (omega (arith, c.if-awards-prices.false)) _ c.put_awards.ensures
