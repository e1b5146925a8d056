-- The excess, and the remainder behind it.
use mathlib.Core.Path.{◌∙◌, refl, ap}
use mir.Facts.{to_z-of_z}
use mir.Syntax.{w64}
use mir.Val.{SFits}
use Rattle.std.proofs.Common.{rules, arith}
use Rattle.rules_replies.specs.Replies.{twos_complement}
use Rattle.trace_text.specs.Words.{closing_lines}
use Rattle.trace_text.specs.decimal_text.PutsLaws.{puts_as, puts_then}
use Rattle.trace_text.proofs.put_closing.Goals as goal

pub returns : goal.returns
unfolding closing_lines
returns c =
    let s : SFits w64 c.args.closing.excess = search rules in
    let bits = c.bits_of-excess.ensures ∙ ap twos_complement (to_z-of_z s) in
    puts_as (puts_then (rw bits at c.put_signed_item-next.ensures) c.put_item.ensures) _ _ refl (omega arith)
