-- Kind, answer and 0A, each into the tail behind the part before.
use Prim.Native.Nat.{ℕ, ◌-◌}
use mathlib.Core.Path.{refl, sym, ap, ◌∙◌}
use mathlib.Core.List.{List, [], ◌∷◌, ◌++◌}
use Rattle.std.proofs.Common.{arith}
use borrow.Rule.Slice.PartMut.{put_mid}
use lib.ListN.{length}
use Rattle.rules_numbers.specs.Tails.{laid}
use Rattle.rules_format.specs.Hex.{digits}
use Rattle.rules_format.specs.HexLaws.{length_digits}
use Rattle.reply_writing.proofs.Laws.{Held, held_first, held_room, held_next}
use Rattle.reply_writing.proofs.Placing.{bare_line}
use Rattle.reply_writing.proofs.put_plain.Goals as goal
use Rattle.reply_writing.proofs.put_plain.Goals.{After-slice_known-2-1, After-slice_known-3-1, After-slice_known-4-1, Start}

abbrev start : After-slice_known-2-1 → Start
start c = (goal.at.After-slice_known-2-1 c).Start

abbrev kinded : After-slice_known-3-1 → After-slice_known-2-1
kinded c = (goal.at.After-slice_known-3-1 c).After-slice_known-2-1

held_kind : (c : After-slice_known-2-1) → Held (digits 2 (start c).args.kind) (start c).args.out.now c.put_hex.new.out 2
held_kind c = held_first _ _ _ 2 c.put_hex.ensures (sym (length_digits 2 (start c).args.kind)) (omega (arith, (start c).requires))

abbrev out_answered : After-slice_known-3-1 → List ℕ
out_answered c =
    let k = (kinded c).put_hex.new.out in
    put_mid 2 (length k - 2) k c.put_hex-2.new.out

held_answer : (c : After-slice_known-3-1) → let s = start (kinded c) in
    Held (digits 2 s.args.kind ++ digits 2 s.args.number) s.args.out.now (out_answered c) 4
held_answer c =
    let s = start (kinded c) in
    held_next (held_kind (kinded c)) _ 2 (sym (length_digits 2 s.args.number)) (omega (arith, s.requires)) c.put_hex-2.ensures

last_held : (c : After-slice_known-4-1) → let x = c in let s = start (kinded (goal.at.After-slice_known-4-1 x).After-slice_known-3-1) in
    Held ((digits 2 s.args.kind ++ digits 2 s.args.number) ++ (10 ∷ [])) s.args.out.now
    (put_mid 4 (length (out_answered (goal.at.After-slice_known-4-1 x).After-slice_known-3-1) - 4) (out_answered (goal.at.After-slice_known-4-1 x).After-slice_known-3-1) c.put_byte.new.out) 5
last_held c =
    let x = c in
    held_next (held_answer (goal.at.After-slice_known-4-1 x).After-slice_known-3-1) (10 ∷ []) 1 refl (omega (arith, (start (kinded (goal.at.After-slice_known-4-1 x).After-slice_known-3-1)).requires)) c.put_byte.ensures

pub put_hex-requires : goal.put_hex-requires
put_hex-requires c = omega (arith, c.requires)

pub slice_bounds-put_hex-count : goal.slice_bounds-put_hex-count
slice_bounds-put_hex-count c = omega (arith, (start c).requires, (held_kind c).same)

pub slice_bounds-put_hex-start : goal.slice_bounds-put_hex-start
slice_bounds-put_hex-start c = omega (arith, (start c).requires, (held_kind c).same)

pub slice_bounds-put_hex-end : goal.slice_bounds-put_hex-end
slice_bounds-put_hex-end c = omega (arith, (start c).requires, (held_kind c).same)

pub put_hex-requires-2 : goal.put_hex-requires-2
put_hex-requires-2 c = held_room (held_kind (goal.at.put_hex-requires-2 c).After-slice_known-2-1) 2 (omega (arith, (start (goal.at.put_hex-requires-2 c).After-slice_known-2-1).requires))

pub slice_bounds-put_byte-count : goal.slice_bounds-put_byte-count
slice_bounds-put_byte-count c = omega (arith, (start (kinded c)).requires, (held_answer c).same)

pub slice_bounds-put_byte-start : goal.slice_bounds-put_byte-start
slice_bounds-put_byte-start c = omega (arith, (start (kinded c)).requires, (held_answer c).same)

pub slice_bounds-put_byte-end : goal.slice_bounds-put_byte-end
slice_bounds-put_byte-end c = omega (arith, (start (kinded c)).requires, (held_answer c).same)

pub put_byte-requires : goal.put_byte-requires
put_byte-requires c = held_room (held_answer (goal.at.put_byte-requires c).After-slice_known-3-1) 1 (omega (arith, (start (kinded (goal.at.put_byte-requires c).After-slice_known-3-1)).requires))

pub shape_of-out : goal.shape_of-out
shape_of-out c = (last_held c).same

pub returns : goal.returns
returns c = let s = start (kinded (goal.at.returns c).After-slice_known-3-1) in (last_held c).holds ∙ ap (λ (t : List ℕ). laid t s.args.out.now) (bare_line _ _)
