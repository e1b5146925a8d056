-- 20 without the right, else as behind the session.
use mathlib.Core.Path.{sym, ◌∙◌, refl}
use Rattle.record_figures.specs.ToldLaws.{settlement_barred, settlement_seated}
use Rattle.record_figures.proofs.through_seats.settlement.Goals as goal

pub returns-then-not-settles_by : goal.returns-then-not-settles_by
returns-then-not-settles_by c = settlement_barred _ _ _ _ _ _ _ _ _ (sym c.settles_by.ensures ∙ c.if-not-settles_by.true) c.host_number.ensures refl refl

pub returns : goal.returns
returns c = settlement_seated _ _ _ _ _ _ _ _ _ (sym c.settles_by.ensures ∙ c.if-not-settles_by.false) c.settlement.ensures
