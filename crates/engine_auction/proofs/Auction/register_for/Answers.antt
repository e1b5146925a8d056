-- A registration that names its agent, decided over the books.
use mathlib.Core.Path.{refl}
use Rattle.std.proofs.lemmas.Result.{err_from_is_err_and}
use Rattle.rules_auction.specs.Ledger.{Named}
use Rattle.engine_auction.proofs.Auction.register_for.Goals as goal

pub returns-in_err-newcomer : goal.returns-in_err-newcomer
returns-in_err-newcomer c =
    let p = err_from_is_err_and c.from_residual.result c.from_residual.ensures.1 in
    rw (p.1, p.2) (c.in_err-newcomer.ensures.entered (Named c.args.agent) refl c.args.self)

pub with_newcomer-requires : goal.with_newcomer-requires
with_newcomer-requires c = c.in_ok-newcomer.ensures.inside

pub returns : goal.returns
returns c = rw c.with_newcomer.ensures (c.in_ok-newcomer.ensures.entered (Named c.args.agent) refl c.args.self)
