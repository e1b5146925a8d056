-- Refused by its number; else the list alone.
use mathlib.Core.Path.{refl}
use Rattle.std.proofs.lemmas.Result.{err_from_is_err_and}
use Rattle.engine_refusals.specs.NumberLaws.{number_not_0}
use Rattle.engine_moves.specs.moves.Entries.{entry_of, with_settings, with_declared}
use Rattle.engine_moves.proofs.moves.Lodging.{lodge_refused, lodge_taken}
use Rattle.engine_moves.proofs.moves.lodged.Goals as goal

pub returns-in_err-check_lodging : goal.returns-in_err-check_lodging
returns-in_err-check_lodging c =
    let p = err_from_is_err_and c.from_residual.result c.from_residual.ensures.1 in
    let x = c.args in
    rw (p.1, p.2) (λ t y n e. lodge_refused (with_settings t x.clock.now) (with_declared y (entry_of x.entry)) n _ e x.prices.now x.levels.now _ (c.in_err-check_lodging.ensures t y) (number_not_0 _))

pub returns : goal.returns
returns c = λ t y n e.
    let x = c.args in
    lodge_taken (with_settings t x.clock.now) (with_declared y (entry_of x.entry)) n _ e x.prices.now x.levels.now _ (c.in_ok-check_lodging.ensures t y) refl _ c.lodge.ensures
