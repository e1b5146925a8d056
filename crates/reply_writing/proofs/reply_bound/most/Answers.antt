-- The digit at the place decides.
use mathlib.Core.Path.{ap, ◌∙◌}
use Rattle.std.proofs.Common.{arith}
use lib.ListN.{get_or}
use Rattle.rules_format.specs.HexLaws.{value_lt}
use Rattle.rules_replies.specs.Lengths.{most_of}
use Rattle.reply_writing.specs.reply_bound.Bounds.{most_by}
use Rattle.reply_writing.proofs.reply_bound.Bounding.{most_short}
use Rattle.reply_writing.proofs.reply_bound.most.Goals as goal

pub returns-then-line-place : goal.returns-then-line-place
returns-then-line-place c = c.most.ensures ∙ most_short _ _ c.if-line-place.true

pub overflow_cast-value_of : goal.overflow_cast-value_of
overflow_cast-value_of c = omega (arith, c.value_of.ensures, value_lt (get_or c.args.line.now c.args.place 0))

pub returns : goal.returns
unfolding most_by
returns c = c.most-2.ensures ∙ ap most_of c.value_of.ensures
