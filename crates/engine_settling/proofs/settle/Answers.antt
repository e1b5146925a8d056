-- Settling: each refusal in its order, then the records of the award. What the parts ensure up to the selection is gathered once, in `computed`.
use mathlib.Core.Path.{refl, sym, ◌∙◌}
use Rattle.std.proofs.Common.{arith, Ok}
use Rattle.std.proofs.lemmas.Result.{err_from_is_err_and}
use Rattle.engine_refusals.specs.NumberLaws.{number_not_0}
use Rattle.engine_search.specs.selection.Selection.{selection_in}
use Rattle.engine_settling.proofs.Settling.{Computed, Given, settle_phase, settle_over, settle_no_room, settle_accepted}
use Rattle.engine_settling.proofs.settle.Goals as goal
use Rattle.engine_settling.proofs.settle.Goals.{After-select, After-price_paid-paid}

pub returns-then-not-is_closed : goal.returns-then-not-is_closed
returns-then-not-is_closed c = settle_phase _ _ _ (sym c.is_closed.ensures ∙ c.if-not-is_closed.true)

pub select-requires : goal.select-requires
select-requires c = omega (arith, c.capped_limit.ensures)

computed : (c : After-select) →
    Computed c.args.auction c.args.limit c.clear-cleared.result c.table_of-table.result (selection_in c.select.result)
computed c = record {
  phase = sym c.is_closed.ensures ∙ c.if-not-is_closed.false;
  clears = c.clear-cleared.ensures;
  tabled = c.table_of-table.ensures;
  selects = rw c.capped_limit.ensures at c.select.ensures;
}

pub returns-in_err-selected : goal.returns-in_err-selected
returns-in_err-selected c =
    let p = err_from_is_err_and c.from_residual.result c.from_residual.ensures.1 in
    rw (p.1, p.2)
    (settle_over _ _ _ _ _ (rw c.in_err-selected.was at (computed (goal.at.returns-in_err-selected c).After-select)) _ (number_not_0 _))

pub returns-then-awards-records : goal.returns-then-awards-records
returns-then-awards-records c =
    settle_no_room _ _ _ _ _ (rw c.in_ok-selected.was at (computed (goal.at.returns-then-awards-records c).After-select)) _ refl _
    c.count_awards-records.ensures.0 c.if-awards-records.true

-- what was computed of the award and the records
given : (c : After-price_paid-paid) →
    Given c.args.auction c.clear-cleared.result (selection_in (Ok c.in_ok-selected.selected)) c.winners-winners.result c.insufficient-insufficient.result
    c.price_paid-paid.result
given c = record {
  won = c.winners-winners.ensures;
  judged = c.insufficient-insufficient.ensures;
  to_pay = c.price_paid-paid.ensures;
}

pub returns : goal.returns
returns c =
    settle_accepted _ _ _ _ _ (rw c.in_ok-selected.was at (computed (goal.at.returns c).After-select)) _ refl _
    c.count_awards-records.ensures.0
    c.if-awards-records.false _ _ _ _
    (given (goal.at.returns c).After-price_paid-paid) c.write_awards.ensures
