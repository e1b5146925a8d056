-- A column is copied number by number: the loop keeps that the first i are the column's.
use Prim.Native.Nat.{◌+◌, ◌*◌, ◌≤◌}
use mathlib.Core.Path.{refl}
use native.Mathlib.Nat.{mul-le-mul}
use Rattle.std.proofs.Common.{arith}
use Rattle.frame_reading.specs.arguments.FieldColumns.{filling_first, filling_again, filling_end}
use Rattle.frame_reading.proofs.arguments.column.Goals as goal
use Rattle.frame_reading.proofs.arguments.column.Goals.{In-loop-i}

small : (c : In-loop-i) → c.args.from + c.args.apart * c.loop-i.i ≤ 40
small c =
    let step : c.args.apart * c.loop-i.i ≤ 2 * 16 = mul-le-mul {n₂ = 2} {m₂ = 16} c.requires.2 (omega (arith, c.loop-i-test.true, c.requires.3)) in
    omega (arith, step, c.requires.1)

pub loop-i-init : goal.loop-i-init
loop-i-init c = filling_first _ _ _ _ _ refl

pub overflow_mul-apart : goal.overflow_mul-apart
overflow_mul-apart c = omega (arith, small (goal.at.overflow_mul-apart c).In-loop-i)

pub overflow_add-from : goal.overflow_add-from
overflow_add-from c = omega (arith, small (goal.at.overflow_add-from c).In-loop-i)

pub overflow_cast-values : goal.overflow_cast-values
overflow_cast-values c = omega (arith, c.field_at.ensures, c.requires.4 c.loop-i.i)

pub loop-i-preserved : goal.loop-i-preserved
loop-i-preserved c =
    filling_again _ _ _ _ _ _ _ c.loop-i.invariant c.loop-i-test.true c.requires.3 c.field_at.ensures

pub returns : goal.returns
returns c = filling_end _ _ _ _ _ _ c.loop-i.invariant c.loop-i-test.false
