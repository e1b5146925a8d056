-- The digits of a tenth of the number, and the last one behind them.
use Prim.Native.Nat.{◌+◌, ◌%◌}
use mathlib.Core.Path.{sym}
use Rattle.std.proofs.Common.{arith}
use Rattle.trace_text.specs.decimal_text.DecimalLaws.{decimal_one, decimal_more, length_one, length_more}
use Rattle.trace_text.specs.decimal_text.PutsLaws.{puts_byte, puts_as, puts_then}
use Rattle.trace_text.proofs.decimal_text.+put_decimal.Goals as goal

pub bounds-out-at : goal.bounds-out-at
bounds-out-at t c = omega (arith, length_one c.args.n c.if-n-lt10.true)

pub returns-then-n-lt10 : goal.returns-then-n-lt10
returns-then-n-lt10 t c =
    let n = c.args.n in
    let h = c.if-n-lt10.true in
    let k = length_one n h in
    puts_as (puts_byte _ c.args.at (48 + n) (omega arith)) _ _ (sym (decimal_one n h)) (omega arith)

pub put_decimal-last-requires : goal.put_decimal-last-requires
put_decimal-last-requires t c = let h = length_more c.args.n c.if-n-lt10.false in (omega arith, omega arith)

-- one digit more than a tenth of the number has
pub bounds-out-last : goal.bounds-out-last
bounds-out-last t c = let h = length_more c.args.n c.if-n-lt10.false in omega arith

pub returns : goal.returns
returns t c =
    let n = c.args.n in
    let h = length_more n c.if-n-lt10.false in
    let tenth = c.put_decimal-last in
    puts_as (puts_then tenth.ensures (puts_byte _ tenth.result (48 + n % 10) (omega arith))) _ _ (sym (decimal_more n c.if-n-lt10.false)) (omega arith)
