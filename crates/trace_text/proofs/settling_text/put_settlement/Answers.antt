-- The items, the awards behind them, then the other items.
use mathlib.Core.Path.{refl}
use Rattle.std.proofs.Common.{arith}
use Rattle.trace_text.specs.settling_text.SettledLines.{settlement_lines}
use Rattle.trace_text.specs.decimal_text.PutsLaws.{puts_as, puts_then}
use Rattle.trace_text.proofs.settling_text.put_settlement.Goals as goal

pub put_awards-behind-requires : goal.put_awards-behind-requires
put_awards-behind-requires c = (omega arith, omega arith)

pub returns : goal.returns
unfolding settlement_lines
returns c =
    let n = c.min in
    let p2 = puts_then c.put_items-next.ensures (rw n.ensures at c.put_awards-behind.ensures) in
    let all = puts_then (puts_then p2 c.put_items_behind-last.ensures) c.put_paid.ensures in
    puts_as all _ _ refl (omega (arith, n.ensures))
