-- The tests in their order: what the game refuses, no byte for the move, and the outcome.
use mathlib.Core.Path.{refl, sym, ◌∙◌}
use mathlib.Core.Bool.{false≢true}
use borrow.Author.Tests.{eq-eqb, eqb-true}
use Rattle.std.proofs.lemmas.Result.{err_from_is_err_and}
use Rattle.engine_refusals.specs.NumberLaws.{number_not_0}
use Rattle.record_replay.specs.record_auction.Leaves.{left_ledger}
use Rattle.record_replay.proofs.record_forcing.Telling.{tells_refused, tells_no_room, tells_forced}
use Rattle.record_replay.proofs.record_forcing.who_can_force.Goals as goal

pub returns-in_err-forced : goal.returns-in_err-forced
returns-in_err-forced c =
    let p = err_from_is_err_and c.from_residual.result c.from_residual.ensures.1 in
    rw (p.1, p.2) (tells_refused _ _ _ _ _ _ _ (left_ledger _ _ _ c.after-left.ensures) c.in_err-forced.ensures (number_not_0 _))

pub returns-then-is_empty : goal.returns-then-is_empty
returns-then-is_empty c =
    tells_no_room _ _ _ _ _ _ _ (left_ledger _ _ _ c.after-left.ensures) c.in_ok-forced.ensures refl
    (eqb-true _ _ (sym c.is_empty.ensures ∙ c.if-is_empty.true))

pub returns : goal.returns
returns c =
    tells_forced _ _ _ _ _ _ _ (left_ledger _ _ _ c.after-left.ensures) c.in_ok-forced.ensures refl _
    (λ z. false≢true (sym c.if-is_empty.false ∙ c.is_empty.ensures ∙ eq-eqb _ _ z)) c.from.ensures
