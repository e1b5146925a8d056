-- Five bytes, and as many as what is added has.
use mathlib.Core.Path.{◌≡◌, ap, ◌∙◌}
use Rattle.std.proofs.Common.{arith}
use Rattle.rules_numbers.specs.Lists.{total}
use Rattle.rules_format.specs.WidthLaws.{total_padded}
use Rattle.rules_replies.specs.Lengths.{head_widths, tail_widths}
use Rattle.reply_writing.specs.reply_sizes.Texts.{size_of}
use Rattle.reply_writing.specs.reply_sizes.TextLaws.{small}
use Rattle.reply_writing.proofs.reply_sizes.size_of.Goals as goal
use Rattle.reply_writing.proofs.reply_sizes.size_of.Goals.{After-form_of-form, After-span_of-arg-2-1, After-min, After-span_of, After-span_of-2, After-span_of-arg-4-1}

-- the widths of the form, added
spans :
    (c : After-form_of-form) →
    let f = c.form_of-form.result in
    let k = c.args.kind in
    (total f.head ≡ total (head_widths k)) × (total f.tail ≡ total (tail_widths k))
spans c =
    let f = c.form_of-form.ensures in
    let k = c.args.kind in
    (ap total f.head ∙ total_padded 8 (head_widths k), ap total f.tail ∙ total_padded 8 (tail_widths k))

pub span_of-requires : goal.span_of-requires
span_of-requires c = omega (arith, (spans (goal.at.After-span_of-arg-2-1 c).After-form_of-form).0, (small c.args.kind).head)

pub overflow_add-result : goal.overflow_add-result
overflow_add-result c =
    omega (arith, c.span_of.ensures, (spans (goal.at.After-span_of c).After-form_of-form).0, (small c.args.kind).head)

pub overflow_mul-result : goal.overflow_mul-result
overflow_mul-result c =
    omega (arith, c.min.ensures, c.form_of-form.ensures.room, (small c.args.kind).room)

pub overflow_add-result-2 : goal.overflow_add-result-2
overflow_add-result-2 c =
    let s = small c.args.kind in
    omega (arith, c.min.ensures, c.form_of-form.ensures.room, c.span_of.ensures, (spans (goal.at.After-min c).After-form_of-form).0, s)

pub span_of-requires-2 : goal.span_of-requires-2
span_of-requires-2 c =
    omega (arith, (spans (goal.at.After-span_of-arg-4-1 c).After-form_of-form).1, (small c.args.kind).tail)

pub overflow_add-result-3 : goal.overflow_add-result-3
overflow_add-result-3 c =
    let s = small c.args.kind in
    omega (arith, c.min.ensures, c.form_of-form.ensures.room, c.span_of.ensures, c.span_of-2.ensures, spans (goal.at.After-span_of-2 c).After-form_of-form)

pub returns : goal.returns
unfolding size_of
returns c =
    omega (arith, c.min.ensures, c.form_of-form.ensures.room, c.span_of.ensures, c.span_of-2.ensures, spans (goal.at.After-span_of-2 c).After-form_of-form)
