-- 20 without the right, else as behind the session.
use mathlib.Core.Path.{sym, ◌∙◌, refl}
use Rattle.record_figures.specs.ToldLaws.{curve_barred, curve_seated}
use Rattle.record_figures.proofs.through_seats.curve.Goals as goal

pub returns-then-not-conducts_by : goal.returns-then-not-conducts_by
returns-then-not-conducts_by c = curve_barred _ _ _ _ _ _ (sym c.conducts_by.ensures ∙ c.if-not-conducts_by.true) c.host_number.ensures refl

pub returns : goal.returns
returns c = curve_seated _ _ _ _ _ _ (sym c.conducts_by.ensures ∙ c.if-not-conducts_by.false) c.curve.ensures
