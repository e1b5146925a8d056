-- Nothing in a refusal; else the fields before the records, the records and the fields behind them, each into the tail behind the part before.
use Prim.Native.Nat.{ℕ, ◌+◌, ◌-◌, ◌*◌, ◌≤◌}
use mathlib.Core.Path.{◌≡◌, sym, ap, ◌∙◌}
use mathlib.Core.List.{List, ◌++◌}
use Rattle.std.proofs.Common.{arith}
use Rattle.std.proofs.Common.{rules}
use borrow.Rule.Slice.PartMut.{put_mid}
use lib.ListN.{length, take}
use lib.Seq.{length-take-le}
use Rattle.rules_numbers.specs.Lists.{total}
use Rattle.rules_numbers.specs.Tails.{laid}
use Rattle.rules_format.specs.Fields.{text_at}
use Rattle.rules_format.specs.WidthLaws.{length_text}
use Rattle.rules_replies.specs.Replies.{record_digits}
use Rattle.rules_replies.specs.Lengths.{bytes_length}
use Rattle.reply_writing.specs.declared.reply_sizes.Form.{Form}
use Rattle.reply_writing.specs.declared.reply_sizes.Reply.{Reply}
use Rattle.reply_writing.specs.reply_sizes.TextLaws.{shown_refused, Parts, parts}
use Rattle.reply_writing.proofs.Laws.{Held, held_first, held_room, held_next}
use Rattle.reply_writing.proofs.put_added.Goals as goal
use Rattle.reply_writing.proofs.put_added.Goals.{After-min-n, After-put_bytes-arg-2-1, After-put_values-arg-3-1, After-put_values-arg-6-1, After-slice_known-2-1, After-slice_known-3-1, After-slice_known-4-1, Start}

-- the places behind the fields before the records and behind the records, each from the next, and what is known at the form
abbrev formed : After-slice_known-2-1 → After-min-n
formed c = (goal.at.After-slice_known-2-1 c).After-min-n

abbrev start : After-min-n → Start
start c = (goal.at.After-min-n c).Start

abbrev reply : After-min-n → Reply
reply c = (start c).args.reply

abbrev form : After-min-n → Form
form c = c.form_of-form.result

full : (c : After-min-n) → length (reply c).awards ≡ 192
full c = search rules

-- what the reply adds, part by part
added : (c : After-min-n) → Parts (reply c) (form c) c.min-n.result
added c = parts (reply c) (form c) c.min-n.result c.form_of-form.ensures c.min-n.ensures c.if-reply-ne0.false (full c)

-- behind the fields before the records: the buffer, and that the records and the fields behind them have room
headed : (c : After-slice_known-2-1) →
    let f = formed c in
    let head = c.put_values-records in
    Held (text_at (form f).head (reply f).values.head) (start f).args.out.now head.new.out head.result
headed c =
    let v = c.put_values-records.ensures in
    held_first _ _ _ _ v.out_after (v.value ∙ sym (length_text _ _)) (omega (arith, v.value, (added (formed c)).size, (start (formed c)).requires))

room : (c : After-slice_known-2-1) →
    let f = formed c in
    c.put_values-records.result + 2 * f.min-n.result + total (form f).tail ≤ length (start f).args.out.now
room c = omega (arith, c.put_values-records.ensures.value, (added (formed c)).size, (start (formed c)).requires)

-- behind the records
abbrev first : After-slice_known-3-1 → After-slice_known-2-1
first c = (goal.at.After-slice_known-3-1 c).After-slice_known-2-1

recorded : (c : After-slice_known-3-1) →
    let f = formed (first c) in
    let n = f.min-n.result in
    let head = (first c).put_values-records in
    let out = put_mid head.result (length head.new.out - head.result) head.new.out c.put_bytes.new.out in
    Held (text_at (form f).head (reply f).values.head ++ record_digits (take n (reply f).awards)) (start f).args.out.now out (head.result + 2 * n)
recorded c =
    let f = formed (first c) in
    let n = f.min-n.result in
    let few = length-take-le n (reply f).awards (omega (arith, (added f).within_room, full f)) in
    let m : 2 * n ≡ length (record_digits (take n (reply f).awards)) = omega (arith, bytes_length (take n (reply f).awards)) in
    held_next (headed (first c)) _ (2 * n) m (omega (arith, room (first c))) c.put_bytes.ensures

pub returns-then-reply-ne0 : goal.returns-then-reply-ne0
unfolding laid
returns-then-reply-ne0 c =
    let e = shown_refused c.args.reply c.if-reply-ne0.true in
    record { value = sym (ap length e); out_after = rw e }

pub put_values-records-requires : goal.put_values-records-requires
put_values-records-requires c = omega (arith, (added (goal.at.After-put_values-arg-3-1 c).After-min-n).size, (start (goal.at.After-put_values-arg-3-1 c).After-min-n).requires)

pub slice_bounds-put_bytes-count : goal.slice_bounds-put_bytes-count
slice_bounds-put_bytes-count c = omega (arith, room (goal.at.slice_bounds-put_bytes-count c).After-slice_known-2-1, (headed (goal.at.slice_bounds-put_bytes-count c).After-slice_known-2-1).same)

pub slice_bounds-put_bytes-start : goal.slice_bounds-put_bytes-start
slice_bounds-put_bytes-start c = omega (arith, room (goal.at.slice_bounds-put_bytes-start c).After-slice_known-2-1, (headed (goal.at.slice_bounds-put_bytes-start c).After-slice_known-2-1).same)

pub put_bytes-requires : goal.put_bytes-requires
put_bytes-requires c =
    ((added (formed (goal.at.After-put_bytes-arg-2-1 c).After-slice_known-2-1)).within_room, held_room (headed (goal.at.After-put_bytes-arg-2-1 c).After-slice_known-2-1) _ (omega (arith, room (goal.at.After-put_bytes-arg-2-1 c).After-slice_known-2-1)))

pub overflow_mul-behind : goal.overflow_mul-behind
overflow_mul-behind c = omega (arith, (added (formed (first c))).within_room)

pub overflow_add-behind : goal.overflow_add-behind
overflow_add-behind c = omega (arith, room (first c), (start (formed (first c))).well_formed)

pub slice_bounds-put_values-count : goal.slice_bounds-put_values-count
slice_bounds-put_values-count c = omega (arith, room (first c), (recorded c).same)

pub slice_bounds-put_values-start : goal.slice_bounds-put_values-start
slice_bounds-put_values-start c = omega (arith, room (first c), (recorded c).same)

pub put_values-requires : goal.put_values-requires
put_values-requires c = held_room (recorded (goal.at.After-put_values-arg-6-1 c).After-slice_known-3-1) _ (room (first (goal.at.After-put_values-arg-6-1 c).After-slice_known-3-1))

pub overflow_add-result : goal.overflow_add-result
overflow_add-result c =
    omega (arith, room (first (goal.at.After-slice_known-4-1 c).After-slice_known-3-1), c.put_values.ensures.value, (start (formed (first (goal.at.After-slice_known-4-1 c).After-slice_known-3-1))).well_formed)

pub returns : goal.returns
returns c =
    let f = formed (first (goal.at.After-slice_known-4-1 c).After-slice_known-3-1) in
    let v = c.put_values.ensures in
    let h = held_next (recorded (goal.at.After-slice_known-4-1 c).After-slice_known-3-1) _ _ (v.value ∙ sym (length_text _ _)) (omega (arith, room (first (goal.at.After-slice_known-4-1 c).After-slice_known-3-1), v.value)) v.out_after in
    record {
      value = h.start ∙ sym (ap length (added f).text);
      out_after = h.holds ∙ ap (λ (t : List ℕ). laid t (start f).args.out.now) (sym (added f).text);
    }
