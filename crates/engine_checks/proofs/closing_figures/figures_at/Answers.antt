-- Each figure by the function that gives it; the excess is read back from its 64 bits.
use Prim.Native.Nat.{◌/◌}
use mathlib.Core.Path.{◌≡◌, ap, ◌∙◌}
use mathlib.Core.Bool.{Bool, cond}
use Rattle.std.proofs.Common.{arith}
use Rattle.engine_checks.specs.closing_checks.Signed.{difference_back}
use Rattle.engine_checks.specs.clock.Held.{held_phase}
use Rattle.engine_checks.specs.clock.Reading.{demanded_at}
use Rattle.rules_auction.specs.Ledger.{Between, Closed}
use Rattle.rules_auction.specs.Rounds.{clears}
use Rattle.engine_checks.proofs.closing_figures.Joined.{figures_are}
use Rattle.engine_checks.proofs.closing_figures.figures_at.Goals as goal
use Rattle.engine_checks.proofs.closing_figures.figures_at.Goals.{After-phase_after, After-remainder_at-remainder}

remainder_at_closing : (c : After-remainder_at-remainder) →
    let s = c.args in
    c.remainder_at-remainder.result ≡ (demanded_at s.settings s.closing).remainder
remainder_at_closing c = c.remainder_at-remainder.ensures

phase_by_test : (c : After-phase_after) →
    let s = c.args in
    c.phase_after.result ≡ held_phase (cond (clears c.supply-supply.result c.demand_at-demand.result s.closing
    (s.settings.ce / 2)) Closed Between)
phase_by_test c = c.phase_after.ensures ∙ ap (λ (b : Bool). held_phase (cond b Closed Between)) c.clears-cleared.ensures

pub returns : goal.returns
returns c =
    let excess = c.excess_of-excess in
    let demand = c.demand_at-demand in
    let supply = c.supply-supply in
    let s = c.args in
    figures_are s.settings s.closing s.projects s.quantities
    (omega arith) (omega arith)
    supply.ensures.0 demand.ensures.0
    (difference_back supply.result demand.result (omega arith) (omega arith) excess.result excess.ensures)
    (remainder_at_closing (goal.at.After-phase_after c).After-remainder_at-remainder)
    (phase_by_test c)
