-- Refused by its number; else the withdrawals alone.
use mathlib.Core.Path.{refl}
use Rattle.std.proofs.lemmas.Result.{err_from_is_err_and}
use Rattle.engine_refusals.specs.NumberLaws.{number_not_0}
use Rattle.engine_moves.specs.moves.Entries.{entry_of, with_phase, with_history}
use Rattle.engine_moves.proofs.moves.Cancelling.{cancel_refused, cancel_taken}
use Rattle.engine_moves.proofs.moves.cancelled.Goals as goal

pub returns-in_err-check_cancellation : goal.returns-in_err-check_cancellation
returns-in_err-check_cancellation c =
    let p = err_from_is_err_and c.from_residual.result c.from_residual.ensures.1 in
    let x = c.args in
    rw (p.1, p.2) (λ t y n e. cancel_refused (with_phase t x.clock.now) (with_history y (entry_of x.entry)) n _ e _ (c.in_err-check_cancellation.ensures t y) (number_not_0 _))

pub returns : goal.returns
returns c = λ t y n e.
    let x = c.args in
    cancel_taken (with_phase t x.clock.now) (with_history y (entry_of x.entry)) n _ e _ (c.in_ok-check_cancellation.ensures t y) refl _ c.cancel.ensures
