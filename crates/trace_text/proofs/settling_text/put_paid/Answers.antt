-- Items one behind the other.
use mathlib.Core.Path.{refl}
use mathlib.Core.Bool.{cond}
use Rattle.std.proofs.Common.{arith}
use Rattle.trace_text.specs.settling_text.SettledLines.{items_paid}
use Rattle.trace_text.specs.decimal_text.Decimal.{bytes_of}
use Rattle.trace_text.specs.decimal_text.Items.{item}
use Rattle.trace_text.specs.decimal_text.Puts.{Puts}
use Rattle.trace_text.specs.decimal_text.PutsLaws.{puts_as, puts_then}
use Rattle.trace_text.proofs.settling_text.put_paid.Goals as goal
use Rattle.trace_text.proofs.settling_text.put_paid.Goals.{After-put_item, After-put_item-insufficient}

-- the first item is the mark, the second the price; a number has at most 21 bytes with its 0A
insufficient :
    (c : After-put_item-insufficient) →
    let a = c.args in
    Puts (item (bytes_of "insufficient ") (cond a.s.insufficient 1 0)) 34 a.out.now c.put_item-insufficient.new.out a.at c.put_item-insufficient.result
insufficient c = rw c.mark-mark.ensures at c.put_item-insufficient.ensures

paid :
    (c : After-put_item) →
    Puts (item (bytes_of "paid ") c.args.s.paid) 26 c.put_item-insufficient.new.out c.put_item.new.out c.put_item-insufficient.result c.put_item.result
paid c = c.put_item.ensures

pub returns : goal.returns
unfolding items_paid
returns c = puts_as (puts_then (insufficient (goal.at.returns c).After-put_item-insufficient) (paid (goal.at.returns c).After-put_item)) _ _ refl (omega arith)
