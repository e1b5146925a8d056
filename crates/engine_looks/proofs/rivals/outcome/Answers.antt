-- From the last listed price up; what is found is the lowest covered one of those passed.
use Rattle.engine_looks.proofs.rivals.Outcomes.{passed_none, passed_all, passed_more}
use Rattle.engine_looks.proofs.rivals.outcome.Goals as goal

pub loop-i-init : goal.loop-i-init
loop-i-init c = passed_none _ _ _

pub loop-i-preserved : goal.loop-i-preserved
loop-i-preserved c =
    passed_more _ _ _ c.requires _ _ c.loop-i.invariant c.loop-i-test.true
    c.supply_at-supply.ensures c.lower-low.ensures

pub returns : goal.returns
returns c = passed_all _ _ _ c.loop-i.invariant c.loop-i-test.false
