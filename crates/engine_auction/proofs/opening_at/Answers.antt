-- Opening: refused by its number; else the clock of an open round.
use mathlib.Core.Path.{refl}
use Rattle.std.proofs.lemmas.Result.{err_from_is_err_and}
use Rattle.engine_refusals.specs.NumberLaws.{number_not_0}
use Rattle.engine_auction.specs.Decided.{with_round}
use Rattle.engine_auction.proofs.Opening.{open_refused, open_taken}
use Rattle.engine_auction.proofs.opening_at.Goals as goal

pub returns-in_err-check_opening : goal.returns-in_err-check_opening
returns-in_err-check_opening c =
    let p = err_from_is_err_and c.from_residual.result c.from_residual.ensures.1 in
    rw (p.1, p.2) (λ a. open_refused c.args.c (with_round a c.args.auction.now) _ c.in_err-check_opening.ensures (number_not_0 _))

pub returns : goal.returns
returns c = λ a. open_taken c.args.c (with_round a c.args.auction.now) 0 _ c.in_ok-check_opening.ensures refl c.opening_price.ensures
