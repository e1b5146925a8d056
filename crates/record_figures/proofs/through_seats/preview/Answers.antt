-- 20 without the right, else as behind the session.
use mathlib.Core.Path.{sym, ◌∙◌, refl}
use Rattle.record_figures.specs.ToldLaws.{preview_barred, preview_seated}
use Rattle.record_figures.proofs.through_seats.preview.Goals as goal

pub returns-then-not-conducts_by : goal.returns-then-not-conducts_by
returns-then-not-conducts_by c = preview_barred _ _ _ _ _ _ (sym c.conducts_by.ensures ∙ c.if-not-conducts_by.true) c.host_number.ensures refl

pub returns : goal.returns
returns c = preview_seated _ _ _ _ _ _ (sym c.conducts_by.ensures ∙ c.if-not-conducts_by.false) c.preview.ensures
