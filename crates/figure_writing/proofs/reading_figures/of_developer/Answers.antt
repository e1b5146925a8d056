-- All its numbers do not fit, or are written.
use Prim.Native.Nat.{ℕ, ◌+◌, ◌*◌}
use mathlib.Core.Path.{◌≡◌, ap₂, sym, ◌∙◌}
use Rattle.std.proofs.Common.{arith}
use lib.ListN.{length}
use Rattle.rules_numbers.specs.Tails.{laid}
use Rattle.figure_writing.specs.lent_numbers.LentLaws.{counts_short, counts_all}
use Rattle.figure_writing.specs.reading_figures.Read.{own_figures, own_in}
use Rattle.figure_writing.specs.reading_figures.ReadLaws.{own_length}
use Rattle.figure_writing.proofs.reading_figures.of_developer.Goals as goal
use Rattle.figure_writing.proofs.reading_figures.of_developer.Goals.{After-step_count-steps}

-- how many numbers
counted_all : (c : After-step_count-steps) → length (own_in c.args.shown) ≡ 7 + c.min-levels.result + 2 * c.step_count-steps.result
unfolding own_in
counted_all c =
    let s = c.step_count-steps.ensures in
    let l : length c.args.shown.levels.values ≡ 8 = omega arith in
    rw (sym s.0, sym c.min-levels.ensures) (own_length c.args.shown c.min-levels.result c.step_count-steps.result (omega (arith, c.min-levels.ensures)) s.2)

pub returns-then-figures-count : goal.returns-then-figures-count
returns-then-figures-count c =
    counts_short _ _ _ (omega (arith, counted_all (goal.at.returns-then-figures-count c).After-step_count-steps, c.if-figures-count.true))

pub returns : goal.returns
unfolding own_in
returns c =
    let x = c.args.shown in
    let n : 7 + c.min-levels.result + 2 * c.step_count-steps.result ≡ length (own_in x) =
    omega (arith, counted_all (goal.at.returns c).After-step_count-steps) in
    let written = c.put_own.ensures ∙ ap₂ (λ (u v : ℕ). laid (own_figures x u v) c.args.figures.now) c.min-levels.ensures c.step_count-steps.ensures.0 in
    rw n
    (counts_all _ _ _ _ (omega (arith, n, c.if-figures-count.false)) written)
