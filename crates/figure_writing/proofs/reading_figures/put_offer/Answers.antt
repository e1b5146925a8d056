-- None: two zeros. Else 1, the number of steps, and behind them the steps.
use Prim.Native.Nat.{◌+◌}
use mathlib.Core.List.{[]}
use Rattle.std.proofs.Common.{arith}
use lib.ListN.{take, length-set, length-take}
use Rattle.figure_writing.specs.reading_figures.Read.{steps_in, offer_figures_in}
use Rattle.figure_writing.specs.reading_figures.ReadLaws.{steps_few}
use Rattle.figure_writing.proofs.reading_figures.Putting.{two_then, none_then}
use Rattle.figure_writing.proofs.reading_figures.put_offer.Goals as goal

pub returns-in-None : goal.returns-in-None
unfolding offer_figures_in
returns-in-None c =
    rw c.in-None.is
    (two_then c.args.at 0 0 [] c.args.figures.now _ (omega (arith, c.requires))
    (none_then (c.args.at + 2) _ (simp length-set (omega (arith, c.requires)))))

pub returns-in-Some : goal.returns-in-Some
unfolding offer_figures_in
returns-in-Some c =
    let n = c.args.count in
    let ps = take n c.in-Some.offer.prices in
    let qs = take n c.in-Some.offer.levels in
    rw c.in-Some.is
    (two_then c.args.at 1 n (steps_in ps qs) c.args.figures.now _ (omega (arith, steps_few ps qs, length-take n c.in-Some.offer.prices, c.requires))
    c.put_steps.ensures)
