-- A name, and a number behind it.
use mathlib.Core.Path.{refl}
use Rattle.std.proofs.Common.{arith}
use Rattle.trace_text.specs.decimal_text.Items.{item}
use Rattle.trace_text.specs.decimal_text.PutsLaws.{puts_as, puts_then}
use Rattle.trace_text.proofs.decimal_text.put_item.Goals as goal

pub returns : goal.returns
unfolding item
returns c =
    puts_as (puts_then c.put_name-next.ensures c.put_number.ensures) _ _ refl (omega arith)
