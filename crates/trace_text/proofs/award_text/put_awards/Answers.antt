-- Each turn writes the line of one award behind those passed.
use Prim.Native.Nat.{◌+◌, ◌*◌}
use mathlib.Core.Path.{◌≡◌, refl}
use native.Mathlib.Numerals.{add-one}
use Rattle.std.proofs.Common.{arith}
use Rattle.trace_text.specs.award_text.AwardLines.{award_lines}
use Rattle.trace_text.specs.decimal_text.PutsLaws.{puts_none, puts_then, puts_as}
use Rattle.trace_text.proofs.award_text.put_awards.Goals as goal

pub loop-i-init : goal.loop-i-init
unfolding award_lines
loop-i-init c = puts_none _ _ _ (omega arith)

pub put_award-next-requires : goal.put_award-next-requires
put_award-next-requires c = (omega arith, omega arith)

pub loop-i-preserved : goal.loop-i-preserved
unfolding award_lines
loop-i-preserved c =
    let i = c.loop-i.i in
    puts_as (puts_then c.loop-i.invariant c.put_award-next.ensures) (award_lines c.args.awards (i + 1)) (69 * (i + 1)) (rw add-one refl) (omega arith)

pub returns : goal.returns
returns c = let e : c.loop-i.i ≡ c.args.n = omega arith in rw e at c.loop-i.invariant
