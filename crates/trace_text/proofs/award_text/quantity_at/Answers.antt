-- Four bytes, high first.
use Rattle.std.proofs.Common.{arith}
use Rattle.trace_text.specs.award_text.AwardLines.{quantity_at}
use Rattle.trace_text.proofs.award_text.quantity_at.Goals as goal

pub returns : goal.returns
unfolding quantity_at
returns c = omega arith
