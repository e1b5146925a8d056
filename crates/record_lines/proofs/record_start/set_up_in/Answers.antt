-- The length, the digits and the kind are a set-up's; the fields stand at the places of the table.
use mathlib.Core.Path.{sym, ◌∙◌}
use Rattle.rules_format.specs.Fields.{kind_of}
use Rattle.record_lines.proofs.record_start.Asking.{set_up_read}
use Rattle.record_lines.proofs.record_start.set_up_in.Goals as goal

pub returns : goal.returns
unfolding kind_of
returns c =
    set_up_read _ c.if-line-ne-SET_UP_LINE.false (sym c.all_hex.ensures ∙ c.if-not-all_hex.false)
    (sym c.field.ensures ∙ c.if-field-ne1.false) _ _ _ _ _
    c.field-2.ensures c.field-3.ensures c.field-4.ensures
    c.field-5.ensures c.field-6.ensures
