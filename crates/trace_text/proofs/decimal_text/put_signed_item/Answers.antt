-- A name, and a signed number behind it.
use mathlib.Core.Path.{refl}
use Rattle.std.proofs.Common.{arith}
use Rattle.trace_text.specs.decimal_text.Items.{signed_item}
use Rattle.trace_text.specs.decimal_text.PutsLaws.{puts_as, puts_then}
use Rattle.trace_text.proofs.decimal_text.put_signed_item.Goals as goal

pub returns : goal.returns
unfolding signed_item
returns c =
    puts_as (puts_then c.put_name-next.ensures c.put_signed.ensures) _ _ refl (omega arith)
