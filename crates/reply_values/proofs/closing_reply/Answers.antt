-- The excess in two's complement and the remainder are the values of a closing's fields.
use mathlib.Core.Path.{ap, ◌∙◌}
use mir.Facts.{to_z-of_z}
use mir.Syntax.{w64}
use mir.Val.{SFits}
use Rattle.std.proofs.Common.{rules}
use Rattle.rules_replies.specs.Replies.{twos_complement, closing_text}
use Rattle.reply_writing.specs.reply_sizes.TextLaws.{text_of_lem, closing_added}
use Rattle.reply_values.proofs.closing_reply.Goals as goal

pub returns : goal.returns
returns c = record {
  text = λ x e f.
      let s : SFits w64 c.args.excess = search rules in
      let b = c.blank.ensures.kind_value in
      let bits = c.bits_of.ensures ∙ ap twos_complement (to_z-of_z s ∙ e) in
      text_of_lem _ 5 _ (closing_text x) b.0 b.1 (λ z. closing_added _ x b.0 (c.closing_values-values.ensures x bits f));
}
