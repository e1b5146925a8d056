-- Items one behind the other.
use mathlib.Core.Path.{refl}
use Rattle.std.proofs.Common.{arith}
use Rattle.trace_text.specs.settling_text.SettledLines.{items_behind}
use Rattle.trace_text.specs.decimal_text.PutsLaws.{puts_as, puts_then}
use Rattle.trace_text.proofs.settling_text.put_items_behind.Goals as goal

pub returns : goal.returns
unfolding items_behind
returns c =
    let p3 = puts_then (puts_then c.put_item-kept.ensures c.put_item-remainder.ensures) c.put_item-second.ensures in
    puts_as (puts_then p3 (rw c.mark.ensures at c.put_item.ensures)) _ _ refl (omega arith)
