-- A name and three numbers behind it.
use mathlib.Core.Path.{refl}
use Rattle.std.proofs.Common.{arith}
use Rattle.trace_text.specs.award_text.AwardLines.{award_line}
use Rattle.trace_text.specs.decimal_text.PutsLaws.{puts_as, puts_then}
use Rattle.trace_text.proofs.award_text.put_award.Goals as goal

pub returns : goal.returns
unfolding award_line
returns c =
    let p2 = puts_then c.put_name-named.ensures (rw c.byte_at.ensures.0 at c.put_number-project.ensures) in
    let p3 = puts_then p2 (rw c.byte_at-2.ensures.0 at c.put_number-developer.ensures) in
    let p4 = puts_then p3 (rw c.quantity_at.ensures at c.put_number.ensures) in
    puts_as p4 _ _ refl (omega arith)
