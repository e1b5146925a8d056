-- By the answer and the kind: nothing, what a closing says, or what a settling says.
use mathlib.Core.Path.{sym}
use Rattle.std.proofs.Common.{arith}
use Rattle.trace_text.specs.decimal_text.PutsLaws.{puts_none, puts_as}
use Rattle.trace_text.specs.WordsLaws.{below_refused, below_closing, below_settling, below_other}
use Rattle.trace_text.proofs.put_below.Goals as goal

pub returns-then-not-accepted : goal.returns-then-not-accepted
returns-then-not-accepted c = puts_as (puts_none _ 0 _ (omega arith)) _ 3000 (sym (below_refused _ _ _ _ _ (c.if-not-accepted.true))) (omega arith)

pub returns-then-kind-eq5 : goal.returns-then-kind-eq5
returns-then-kind-eq5 c =
    puts_as c.put_closed.ensures _ 3000 (sym (below_closing _ _ _ _ _ (c.if-not-accepted.false) c.if-kind-eq5.true)) (omega arith)

pub returns-then-kind-eq6 : goal.returns-then-kind-eq6
returns-then-kind-eq6 c =
    puts_as c.put_settled.ensures _ 3000 (sym (below_settling _ _ _ _ _ (c.if-not-accepted.false) c.if-kind-eq6.true)) (omega arith)

pub returns : goal.returns
returns c = puts_as (puts_none _ 0 _ (omega arith)) _ 3000 (sym (below_other _ _ _ _ _ c.if-kind-eq5.false c.if-kind-eq6.false)) (omega arith)
