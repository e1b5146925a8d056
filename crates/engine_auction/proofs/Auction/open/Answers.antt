-- Opening: the clock that was decided.
use Rattle.std.proofs.lemmas.Result.{err_from_is_err_and}
use Rattle.engine_auction.proofs.Auction.open.Goals as goal

pub returns-in_err-clock : goal.returns-in_err-clock
returns-in_err-clock c =
    let p = err_from_is_err_and c.from_residual.result c.from_residual.ensures.1 in
    rw (p.1, p.2) (c.in_err-clock.ensures c.args.self)

pub returns : goal.returns
returns c = rw c.with_clock.ensures (c.in_ok-clock.ensures c.args.self)
