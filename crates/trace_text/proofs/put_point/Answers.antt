-- A name and three numbers behind it.
use mathlib.Core.Path.{refl}
use Rattle.std.proofs.Common.{arith}
use Rattle.trace_text.specs.Words.{point_line}
use Rattle.trace_text.specs.decimal_text.PutsLaws.{puts_as, puts_then}
use Rattle.trace_text.proofs.put_point.Goals as goal

pub returns : goal.returns
unfolding point_line
returns c =
    puts_as (puts_then (puts_then (puts_then c.put_name-named.ensures c.put_number-priced.ensures) c.put_number-supplied.ensures) c.put_number.ensures) _ _ refl (omega arith)
