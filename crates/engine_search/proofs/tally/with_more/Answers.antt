-- `with_more` is `more`, whose tests it follows.
use mathlib.Core.Path.{sym}
use borrow.Author.Tests.{le-ltb, eq-eqb, ne_eqb}
use Rattle.engine_search.specs.tally.Tally.{more}
use Rattle.engine_search.specs.tally.TallyLaws.{more_above}
use Rattle.engine_search.proofs.tally.with_more.Goals as goal
use Rattle.engine_search.proofs.tally.with_more.Goals.{then-total-best, else-total-best}

pub returns-then-best-total : goal.returns-then-best-total
returns-then-best-total c = sym (more_above c.args.n c.args.total c.args.index c.args.found c.if-best-total.true)

pub returns : goal.returns
unfolding more
returns c =
    let t = c.args.total in
    let best = c.args.found.total in
    elim c.if-total-best.branch [
      | then-total-best w ↦ rw (w.last-is, w.max-last.ensures, le-ltb best t c.if-best-total.false, eq-eqb t best w.if-total-best.true)
      | else-total-best w ↦ rw (w.last-is, le-ltb best t c.if-best-total.false, ne_eqb t best w.if-total-best.false)
    ]
