-- Items one behind the other.
use mathlib.Core.Path.{refl}
use Rattle.std.proofs.Common.{arith}
use Rattle.trace_text.specs.settling_text.SettledLines.{items}
use Rattle.trace_text.specs.decimal_text.PutsLaws.{puts_as, puts_then}
use Rattle.trace_text.proofs.settling_text.put_items.Goals as goal

pub returns : goal.returns
unfolding items
returns c =
    let p2 = puts_then c.put_item-price.ensures c.put_item-demand.ensures in
    let p4 = puts_then (puts_then p2 c.put_item-total.ensures) c.put_item-choices.ensures in
    puts_as (puts_then p4 c.put_item.ensures) _ _ refl (omega arith)
