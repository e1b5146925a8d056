-- A lodged list, decided over its developer's entry.
use mathlib.Core.Path.{refl}
use Rattle.std.proofs.lemmas.Result.{err_from_is_err_and}
use Rattle.rules_auction.specs.Ledger.{Lodge}
use Rattle.engine_refusals.specs.NumberLaws.{number_not_0}
use Rattle.engine_moves.specs.moves.Entries.{entry_of}
use Rattle.engine_auction.proofs.Moving.{move_refused, move_taken}
use Rattle.engine_auction.proofs.Auction.lodge.Goals as goal

pub returns-in_err-history : goal.returns-in_err-history
returns-in_err-history c =
    let p = err_from_is_err_and c.from_residual.result c.from_residual.ensures.1 in
    let s = c.args in
    rw (p.1, p.2) (move_refused s.developer (Lodge s.prices.now s.levels.now) s.self c.place-i.result _ _ c.place-i.ensures.0
    c.entry.ensures (c.in_err-history.ensures s.self.clock (entry_of c.entry.result) _ c.is_number-numbered.ensures) (number_not_0 _))

pub returns : goal.returns
returns c =
    let s = c.args in
    rw c.with_history.ensures
    (move_taken s.developer (Lodge s.prices.now s.levels.now) s.self c.place-i.result _ _ c.place-i.ensures.0
    c.entry.ensures (c.in_ok-history.ensures s.self.clock (entry_of c.entry.result) _ c.is_number-numbered.ensures) refl)
