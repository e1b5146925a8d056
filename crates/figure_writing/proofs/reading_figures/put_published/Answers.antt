-- Four numbers, copied; the excess in two's complement.
use Prim.Native.Nat.{ℕ}
use mathlib.Core.Path.{refl, ap, ◌∙◌}
use mathlib.Core.List.{[], ◌∷◌}
use mir.Facts.{to_z-of_z}
use mir.Syntax.{w64}
use mir.Val.{SFits}
use Rattle.std.proofs.Common.{rules}
use Rattle.rules_numbers.specs.Tails.{laid}
use Rattle.rules_replies.specs.Replies.{twos_complement}
use Rattle.engine_checks.specs.clock.Held.{phase_number}
use Rattle.figure_writing.specs.lent_numbers.LentLaws.{laid_over}
use Rattle.figure_writing.specs.reading_figures.Read.{published_in}
use Rattle.figure_writing.proofs.reading_figures.put_published.Goals as goal

pub returns : goal.returns
unfolding published_in
returns c =
    let b = c.bits_of in
    let a = c.args in
    let x = a.shown in
    let fits : SFits w64 x.excess = search rules in
    laid_over 4 _ a.figures.now refl (rw (c.from.ensures, c.from-2.ensures, c.from-4.ensures, c.from-3.ensures) at c.copy_from_slice.ensures.after)
    ∙ ap (λ (v : ℕ). laid (x.opening ∷ x.closing ∷ v ∷ phase_number x.phase ∷ []) a.figures.now) (b.ensures ∙ ap twos_complement (to_z-of_z fits))
