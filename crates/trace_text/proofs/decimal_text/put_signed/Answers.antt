-- A number below 2^63 is its own; any other is 2^64 less it, behind a sign.
use Prim.Native.Nat.{ℕ, ◌+◌, ◌-◌, ◌^◌}
use mathlib.Core.Path.{◌≡◌}
use Rattle.std.proofs.Common.{arith}
use borrow.Author.Tests.{lt-ltb, le-ltb}
use lib.ListN.{length-set}
use Rattle.trace_text.specs.decimal_text.Items.{signed}
use Rattle.trace_text.specs.decimal_text.PutsLaws.{puts_byte, puts_as, puts_then}
use Rattle.trace_text.proofs.decimal_text.put_signed.Goals as goal

pub returns-then-bits-lt9223372036854775808 : goal.returns-then-bits-lt9223372036854775808
unfolding signed
returns-then-bits-lt9223372036854775808 c =
    puts_as c.put_number.ensures _ _ (rw (lt-ltb _ (2 ^ 63) c.if-bits-lt9223372036854775808.true)) (omega arith)

pub put_number-requires-2 : goal.put_number-requires-2
put_number-requires-2 c = let a = c.args in omega (arith, length-set a.out.now a.at 45)

pub shape_of-out : goal.shape_of-out
shape_of-out c = let a = c.args in
    omega (arith, length-set a.out.now a.at 45, c.put_number-2.auto.out)

pub returns : goal.returns
unfolding signed
returns c =
    let a = c.args in
    let b : ℕ = a.bits in
    let e : 18446744073709551615 - b + 1 ≡ 2 ^ 64 - b = omega arith in
    puts_as (puts_then (puts_byte a.out.now a.at 45 (omega arith)) c.put_number-2.ensures) _ _
    (rw (le-ltb b (2 ^ 63) c.if-bits-lt9223372036854775808.false, e)) (omega arith)
