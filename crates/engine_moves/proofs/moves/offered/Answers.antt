-- Refused by its number; else the steps behind the withdrawals.
use mathlib.Core.Path.{refl}
use Rattle.std.proofs.lemmas.Result.{err_from_is_err_and}
use Rattle.engine_refusals.specs.NumberLaws.{number_not_0}
use Rattle.engine_moves.specs.moves.Entries.{entry_of, with_prices}
use Rattle.engine_moves.proofs.moves.Offering.{offer_refused, offer_taken}
use Rattle.engine_moves.proofs.moves.offered.Goals as goal

pub returns-in_err-check_offer : goal.returns-in_err-check_offer
returns-in_err-check_offer c =
    let p = err_from_is_err_and c.from_residual.result c.from_residual.ensures.1 in
    let x = c.args in
    rw (p.1, p.2) (λ t n e. offer_refused (with_prices t x.clock.now) (entry_of x.entry) n _ e x.prices.now x.levels.now _ (c.in_err-check_offer.ensures t) (number_not_0 _))

pub returns : goal.returns
returns c = λ t n e.
    let x = c.args in
    offer_taken (with_prices t x.clock.now) (entry_of x.entry) n _ e x.prices.now x.levels.now _ (c.in_ok-check_offer.ensures t) refl _ c.offer.ensures
