-- Each turn writes two digits into the tail behind those of the bytes passed.
use mathlib.Core.Path.{◌≡◌}
use Rattle.std.proofs.Common.{◌<◌, arith}
use lib.ListN.{length}
use lib.Seq.{get_or-take, length-take-le}
use Rattle.std.proofs.Common.{rules}
use Rattle.reply_writing.proofs.Laws.{passed_none, passed_one, passed_all}
use Rattle.reply_writing.proofs.put_bytes.Goals as goal

pub loop-i-init : goal.loop-i-init
loop-i-init c = passed_none _ _ _

pub loop-i-preserved : goal.loop-i-preserved
loop-i-preserved c =
    let a = c.args in
    let l : length a.bytes ≡ 192 = search rules in
    let h : c.loop-i.i < a.n = omega (arith, c.loop-i-test.true, length-take-le a.n a.bytes (omega arith)) in
    passed_one a.out.now a.n a.bytes (omega arith) (omega arith) c.loop-i.out c.put_hex.new.out c.loop-i.i
    c.loop-i.invariant h (rw (c.from.ensures, get_or-take a.n a.bytes c.loop-i.i 0 h) at c.put_hex.ensures)

pub shape_of-out : goal.shape_of-out
shape_of-out c = c.loop-i.invariant.same

pub returns : goal.returns
returns c =
    let a = c.args in
    let l : length a.bytes ≡ 192 = search rules in
    passed_all a.out.now a.n a.bytes (omega arith) (omega arith) c.loop-i.out c.loop-i.i c.loop-i.invariant
    (omega (arith, c.loop-i-test.false, length-take-le a.n a.bytes (omega arith)))
