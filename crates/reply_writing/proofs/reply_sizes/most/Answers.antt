-- The most bytes of award records are 192.
use mathlib.Core.Path.{◌∙◌}
use Rattle.reply_writing.specs.reply_sizes.TextLaws.{most_size}
use Rattle.reply_writing.proofs.reply_sizes.most.Goals as goal

pub returns : goal.returns
returns c = c.size_of.ensures ∙ most_size _
