-- True past the first opening; else the supply of the quantities against Dem(A).
use Rattle.std.proofs.Common.{arith}
use mathlib.Core.Path.{sym, ◌∙◌}
use Rattle.rules_auction.specs.Refusals.{start_covered}
use Rattle.engine_checks.proofs.clock.Covering.{first_covered}
use Rattle.engine_checks.proofs.clock.Clock.start_covered.Goals as goal

pub returns-then-not-is_ready : goal.returns-then-not-is_ready
unfolding start_covered
returns-then-not-is_ready c = record { as_ruled = λ w. simp (sym c.is_ready.ensures ∙ c.if-not-is_ready.true) }

pub returns : goal.returns
returns c = record {
  as_ruled = λ w.
      let s = c.args in
      first_covered s.self s.projects s.quantities (sym c.is_ready.ensures ∙ c.if-not-is_ready.false) w
      (omega arith) (omega arith)
      c.demand_at.ensures.0 c.supply.ensures.0;
}
