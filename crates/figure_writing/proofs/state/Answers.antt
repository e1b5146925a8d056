-- Five numbers, lent; the excess in two's complement.
use mathlib.Core.Path.{ap, ◌∙◌}
use mir.Facts.{to_z-of_z}
use Rattle.rules_replies.specs.Replies.{twos_complement}
use Rattle.figure_writing.proofs.Figuring.{state_written}
use Rattle.figure_writing.proofs.state.Goals as goal

pub returns : goal.returns
returns c =
    state_written c.args.auction c.args.excess _ _ _ _ _ (c.bits_of.ensures ∙ ap twos_complement (to_z-of_z c.ranges.excess))
    (rw (c.from-2.ensures, c.from.ensures, c.from-3.ensures, c.from-4.ensures) at c.lend.ensures)
