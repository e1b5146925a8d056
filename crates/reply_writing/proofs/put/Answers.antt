-- Kind, answer, what is added and 0A, each into the tail behind the part before.
use Prim.Native.Nat.{ℕ, ◌+◌, ◌-◌, ◌≤◌}
use mathlib.Core.Path.{refl, sym}
use mathlib.Core.List.{List, [], ◌∷◌, ◌++◌}
use Rattle.std.proofs.Common.{arith}
use borrow.Rule.Slice.PartMut.{put_mid}
use lib.ListN.{length}
use Rattle.rules_format.specs.Hex.{digits}
use Rattle.rules_format.specs.HexLaws.{length_digits}
use Rattle.rules_replies.specs.Replies.{answer_line}
use Rattle.reply_writing.specs.declared.reply_sizes.Reply.{Reply}
use Rattle.reply_writing.specs.reply_sizes.Texts.{shown_text, text_of}
use Rattle.reply_writing.specs.reply_sizes.TextLaws.{text_length}
use Rattle.reply_writing.proofs.Laws.{Held, held_first, held_room, held_next}
use Rattle.reply_writing.proofs.put.Goals as goal
use Rattle.reply_writing.proofs.put.Goals.{After-put_added-arg-1, After-slice_known-2-1, After-slice_known-3-1, After-slice_known-4-1, After-slice_known-5-1, After-struct_known-2-1, Start}

-- the places behind the kind, the answer and what is added, each from the next
abbrev start : After-slice_known-2-1 → Start
start c = (goal.at.After-slice_known-2-1 c).Start

abbrev kinded : After-slice_known-3-1 → After-slice_known-2-1
kinded c = (goal.at.After-slice_known-3-1 c).After-slice_known-2-1

abbrev answered : After-slice_known-4-1 → After-slice_known-3-1
answered c = (goal.at.After-slice_known-4-1 c).After-slice_known-3-1

abbrev reply : After-slice_known-2-1 → Reply
reply c = (start c).args.reply

abbrev old : After-slice_known-2-1 → List ℕ
old c = (start c).args.out.now

room : (c : Start) → 5 + length (shown_text c.args.reply) ≤ length c.args.out.now
room c = omega (arith, text_length c.args.reply, c.requires)

held_kind : (c : After-slice_known-2-1) → Held (digits 2 (reply c).kind) (old c) c.put_hex.new.out 2
held_kind c = held_first _ _ _ 2 c.put_hex.ensures (sym (length_digits 2 (reply c).kind)) (omega (arith, room (start c)))

-- the buffer behind the answer
abbrev out_answered : After-slice_known-3-1 → List ℕ
out_answered c =
    let k = (kinded c).put_hex.new.out in
    put_mid 2 (length k - 2) k c.put_hex-2.new.out

held_answer : (c : After-slice_known-3-1)
    → Held (digits 2 (reply (kinded c)).kind ++ digits 2 (reply (kinded c)).number) (old (kinded c)) (out_answered c) 4
held_answer c =
    let n = length_digits 2 (reply (kinded c)).number in
    held_next (held_kind (kinded c)) _ 2 (sym n) (omega (arith, room (start (kinded c)))) c.put_hex-2.ensures

-- the buffer behind what is added
abbrev out_added : After-slice_known-4-1 → List ℕ
out_added c = put_mid 4 (length (out_answered (answered c)) - 4) (out_answered (answered c)) c.put_added-end.new.out

held_added : (c : After-slice_known-4-1) →
    let k = kinded (answered c) in
    Held (digits 2 (reply k).kind ++ digits 2 (reply k).number ++ shown_text (reply k)) (old k) (out_added c) (4 + c.put_added-end.result)
held_added c =
    let p = c.put_added-end.ensures in
    held_next (held_answer (answered c)) _ _ p.value (omega (arith, room (start (kinded (answered c))), p.value)) p.out_after

-- 0A has room
last_room : (c : After-slice_known-4-1) → 4 + c.put_added-end.result + 1 ≤ length (old (kinded (answered c)))
last_room c = omega (arith, room (start (kinded (answered c))), c.put_added-end.ensures.value)

pub put_hex-requires : goal.put_hex-requires
put_hex-requires c = omega (arith, room (goal.at.put_hex-requires c).Start)

pub slice_bounds-put_hex-count : goal.slice_bounds-put_hex-count
slice_bounds-put_hex-count c = omega (arith, room (start c), (held_kind c).same)

pub slice_bounds-put_hex-start : goal.slice_bounds-put_hex-start
slice_bounds-put_hex-start c = omega (arith, room (start c), (held_kind c).same)

pub put_hex-requires-2 : goal.put_hex-requires-2
put_hex-requires-2 c = held_room (held_kind (goal.at.After-struct_known-2-1 c).After-slice_known-2-1) 2 (omega (arith, room (start (goal.at.After-struct_known-2-1 c).After-slice_known-2-1)))

pub slice_bounds-put_added-count : goal.slice_bounds-put_added-count
slice_bounds-put_added-count c = omega (arith, room (start (kinded c)), (held_answer c).same)

pub slice_bounds-put_added-start : goal.slice_bounds-put_added-start
slice_bounds-put_added-start c = omega (arith, room (start (kinded c)), (held_answer c).same)

pub put_added-end-requires : goal.put_added-end-requires
put_added-end-requires c = held_room (held_answer (goal.at.After-put_added-arg-1 c).After-slice_known-3-1) _ (omega (arith, room (start (kinded (goal.at.After-put_added-arg-1 c).After-slice_known-3-1))))

pub overflow_add-end : goal.overflow_add-end
overflow_add-end c = omega (arith, last_room c, (start (kinded (answered c))).well_formed)

pub slice_bounds-put_byte-count : goal.slice_bounds-put_byte-count
slice_bounds-put_byte-count c = omega (arith, last_room c, (held_added c).same)

pub slice_bounds-put_byte-start : goal.slice_bounds-put_byte-start
slice_bounds-put_byte-start c = omega (arith, last_room c, (held_added c).same)

pub put_byte-requires : goal.put_byte-requires
put_byte-requires c = held_room (held_added (goal.at.put_byte-requires c).After-slice_known-4-1) 1 (last_room (goal.at.put_byte-requires c).After-slice_known-4-1)

pub overflow_add-result : goal.overflow_add-result
overflow_add-result c = omega (arith, last_room (goal.at.After-slice_known-5-1 c).After-slice_known-4-1, (start (kinded (answered (goal.at.After-slice_known-5-1 c).After-slice_known-4-1))).well_formed)

pub returns : goal.returns
unfolding text_of answer_line shown_text
returns c =
    let h = held_next (held_added (goal.at.After-slice_known-5-1 c).After-slice_known-4-1) (10 ∷ []) 1 refl (last_room (goal.at.After-slice_known-5-1 c).After-slice_known-4-1) c.put_byte.ensures in
    record { value = h.start; out_after = h.holds }
