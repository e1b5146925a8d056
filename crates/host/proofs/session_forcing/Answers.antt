-- 20 without the right, else as behind the session.
use mathlib.Core.Path.{sym, ◌∙◌}
use Rattle.host.specs.Forcing.{forcing_barred, forcing_seated}
use Rattle.host.proofs.session_forcing.Goals as goal

pub returns-then-not-conducts_by : goal.returns-then-not-conducts_by
returns-then-not-conducts_by c = forcing_barred _ _ _ _ _ _ _ _ (sym c.conducts_by.ensures ∙ c.if-not-conducts_by.true) c.host_number.ensures

pub returns : goal.returns
returns c =
    forcing_seated _ _ _ _ _ _ _ _ _ _ (sym c.conducts_by.ensures ∙ c.if-not-conducts_by.false) c.who_can_force.ensures
    c.host_outcome.ensures
