-- The digits, and the byte behind them.
use mathlib.Core.Path.{refl}
use Rattle.std.proofs.Common.{arith}
use Rattle.trace_text.specs.decimal_text.DecimalLaws.{decimal_short}
use Rattle.trace_text.specs.decimal_text.Items.{number_item}
use Rattle.trace_text.specs.decimal_text.PutsLaws.{puts_byte, puts_as, puts_then}
use Rattle.trace_text.proofs.decimal_text.put_number.Goals as goal

pub put_decimal-next-requires : goal.put_decimal-next-requires
put_decimal-next-requires c = omega (arith, decimal_short c.args.n c.ranges.n.fits)

pub bounds-out-next : goal.bounds-out-next
bounds-out-next c = omega (arith, decimal_short c.args.n c.ranges.n.fits)

pub returns : goal.returns
unfolding number_item
returns c =
    let d = c.put_decimal-next in
    let short = decimal_short c.args.n c.ranges.n.fits in
    puts_as (puts_then d.ensures (puts_byte _ d.result c.args.behind (omega arith))) _ _ refl (omega arith)
