-- Each turn writes the line of one award behind those passed.
use Prim.Native.Nat.{◌*◌}
use Rattle.trace_text.specs.award_text.AwardLines.{award_lines}
use Rattle.trace_text.specs.decimal_text.Puts.{Puts}
use Rattle.trace_text.proofs.award_text.put_awards.Given as goal

abbrev pub invariant-loop-i : goal.invariant-loop-i
invariant-loop-i l = Puts (award_lines l.awards l.i) (69 * l.i) l.initial.out l.out l.at l.next
