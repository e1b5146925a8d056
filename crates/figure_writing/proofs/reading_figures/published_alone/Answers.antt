-- The four numbers do not fit, or are written.
use Rattle.figure_writing.specs.lent_numbers.LentLaws.{counts_short, counts_all}
use Rattle.figure_writing.specs.reading_figures.Read.{published_in}
use Rattle.figure_writing.proofs.reading_figures.published_alone.Goals as goal

pub returns-then-figures-lt4 : goal.returns-then-figures-lt4
unfolding published_in
returns-then-figures-lt4 c = counts_short _ _ 4 c.if-figures-lt4.true

pub returns : goal.returns
unfolding published_in
returns c = counts_all _ _ 4 _ c.if-figures-lt4.false c.put_published.ensures
