-- From a position inside, the run of the rest; from one past it, nothing.
use Prim.Native.Nat.{◌+◌, ◌-◌}
use mathlib.Core.Path.{◌≡◌, ap, ◌∙◌}
use Rattle.std.proofs.Common.{arith}
use lib.ListN.{length, take, drop, length-drop}
use lib.Seq.{take_all}
use Rattle.rules_format.specs.Lines.{run, line_start, line_end}
use Rattle.frame_bytes.proofs.lines.next_line.Goals as goal

pub returns : goal.returns
unfolding line_start line_end
returns c =
    let s = c.args.bytes.now in
    let at = c.min.result in
    let i : at ≡ line_start s c.args.at = c.min.ensures in
    let whole : take (length s - at) (drop at s) ≡ drop at s = take_all (length s - at) (drop at s) (omega (arith, length-drop at s)) in
    let r : c.run_of.result ≡ run (drop at s) = c.run_of.ensures.0 ∙ ap run whole in
    let e : at + run (drop at s) - at ≡ run (drop at s) = omega arith in
    rw (whole, r, ← i, e)
