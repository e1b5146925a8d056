-- The digits are written from the low end; the loop keeps `Writing`.
use Prim.Native.Nat.{◌+◌, ◌-◌, ◌<◌}
use mathlib.Core.Path.{◌≡◌}
use Rattle.std.proofs.Common.{arith}
use Rattle.frame_bytes.proofs.field_writing.Writing.{writing_first, writing_next, writing_end}
use Rattle.frame_bytes.proofs.field_writing.put_hex.Goals as goal

pub loop-i-init : goal.loop-i-init
loop-i-init c =
    let e : c.args.width - c.args.width ≡ 0 = omega arith in
    rw e (writing_first _ _ _)

pub loop-i-preserved : goal.loop-i-preserved
loop-i-preserved c =
    let a = c.args in
    let l = c.loop-i in
    let done = a.width - l.i in
    let few : done < a.width = omega arith in
    let here : a.width - 1 - done ≡ l.i - 1 = omega arith in
    let more : done + 1 ≡ a.width - (l.i - 1) = omega arith in
    rw c.digit_of.ensures (rw (here, more) at (writing_next a.out.now a.value a.width l.out l.left done l.invariant few c.requires))

pub returns : goal.returns
returns c = let l = c.loop-i in writing_end _ _ _ l.out l.left _ l.invariant (omega arith)
