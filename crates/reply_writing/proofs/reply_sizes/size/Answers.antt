-- Five bytes in a refusal, else as many as an accepted reply of the kind has.
use mathlib.Core.Path.{◌≡◌, ap}
use Rattle.std.proofs.Common.{arith}
use lib.ListN.{length}
use Rattle.std.proofs.Common.{rules}
use Rattle.reply_writing.specs.reply_sizes.TextLaws.{text_length, shown_refused, shown_accepted, added_length}
use Rattle.reply_writing.proofs.reply_sizes.size.Goals as goal

pub returns-then-reply-ne0 : goal.returns-then-reply-ne0
returns-then-reply-ne0 c =
    let r = c.args.reply in
    omega (arith, text_length r, ap length (shown_refused r c.if-reply-ne0.true))

pub returns : goal.returns
returns c =
    let r = c.args.reply in
    let l : length r.awards ≡ 192 = search rules in
    omega (arith, text_length r, ap length (shown_accepted r c.if-reply-ne0.false), added_length r l, c.size_of.ensures)
