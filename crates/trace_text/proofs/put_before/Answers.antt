-- Nothing before a reply of another kind.
use mathlib.Core.Path.{sym}
use Rattle.std.proofs.Common.{arith}
use Rattle.trace_text.specs.decimal_text.PutsLaws.{puts_none, puts_as}
use Rattle.trace_text.specs.WordsLaws.{before_closing, before_other}
use Rattle.trace_text.proofs.put_before.Goals as goal

pub returns-then-kind-ne5 : goal.returns-then-kind-ne5
returns-then-kind-ne5 c = puts_as (puts_none _ 0 _ (omega arith)) _ 100 (sym (before_other _ _ c.if-kind-ne5.true)) (omega arith)

pub returns : goal.returns
returns c =
    puts_as c.put_preview.ensures _ 100 (sym (before_closing _ _ c.if-kind-ne5.false)) (omega arith)
