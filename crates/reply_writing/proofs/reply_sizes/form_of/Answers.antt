-- The widths in the code are those of the definitions: at each kind that adds something antt compares them.
use mathlib.Core.Path.{refl}
use borrow.Author.Tests.{ne_eqb}
use Rattle.rules_replies.specs.Lengths.{head_widths, room_of, tail_widths}
use Rattle.reply_writing.proofs.reply_sizes.form_of.Goals as goal

pub returns-then-kind-eq5 : goal.returns-then-kind-eq5
unfolding head_widths room_of tail_widths
returns-then-kind-eq5 c = rw c.if-kind-eq5.true record { head = refl; room = refl; tail = refl }

pub returns-then-kind-eq6 : goal.returns-then-kind-eq6
unfolding head_widths room_of tail_widths
returns-then-kind-eq6 c = rw c.if-kind-eq6.true record { head = refl; room = refl; tail = refl }

pub returns : goal.returns
unfolding head_widths room_of tail_widths
returns c =
    let k = c.args.kind in
    let h5 = ne_eqb k 5 c.if-kind-eq5.false in
    let h6 = ne_eqb k 6 c.if-kind-eq6.false in
    record { head = rw (h5, h6); room = rw h6; tail = rw h6 }
