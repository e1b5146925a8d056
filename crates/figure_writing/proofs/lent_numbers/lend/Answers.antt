-- The figures do not fit, or are copied.
use Rattle.std.proofs.Common.{refl}
use Rattle.figure_writing.specs.lent_numbers.LentLaws.{gives_short, gives_all, laid_over}
use Rattle.figure_writing.proofs.lent_numbers.lend.Goals as goal

pub returns-then-lent-figures : goal.returns-then-lent-figures
returns-then-lent-figures c = gives_short _ _ c.if-lent-figures.true

pub returns : goal.returns
returns c = gives_all _ _ _ c.if-lent-figures.false (laid_over _ _ _ refl c.copy_from_slice.ensures.after)
