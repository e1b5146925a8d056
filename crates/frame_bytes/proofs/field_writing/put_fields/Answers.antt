-- Each turn writes one field into the tail behind those before; the loop keeps `Putting`.
use Prim.Native.Nat.{ℕ, ◌+◌, ◌-◌, ◌≤◌, ◌<◌}
use mathlib.Core.Path.{◌≡◌, ap₂, ◌∙◌}
use mathlib.Core.List.{[], ◌∷◌, ◌++◌}
use Rattle.std.proofs.Common.{arith, rules}
use Rattle.std.proofs.lemmas.Slice.Zip.{zip_turn, zip_end}
use borrow.Rule.Slice.PartMut.{mid_of}
use lib.ListN.{length, get_or, length-append}
use Rattle.rules_numbers.specs.Tails.{laid}
use Rattle.rules_format.specs.Hex.{digits}
use Rattle.frame_bytes.proofs.field_writing.Putting.{putting_first, putting_room, putting_tail, putting_next, putting_end}
use Rattle.frame_bytes.proofs.field_writing.put_fields.Goals as goal
use Rattle.frame_bytes.proofs.field_writing.put_fields.Goals.{In-Some}

-- the width and the value of this turn
turn :
    (c : In-Some) →
    let j = length c.loop-width.yielded in
    (j < length c.args.widths.now) × (c.in-Some.width.now ≡ get_or c.args.widths.now j 0) × (c.in-Some.value.now ≡ get_or c.args.values.now j 0)
turn c =
    let l = c.loop-width in
    let t = zip_turn c.args.widths.now c.args.values.now l.yielded c.into_iter-width-iterator.result l.width-iterator c.next.new.self c.next.result
    (search rules) (search rules) l.yielded_by (c.in-Some.width, c.in-Some.value) c.in-Some.is c.next.ensures.steps in
    (t.0, t.2 0, t.3 0)

-- room for its field
room : (c : In-Some) → c.loop-width.at + c.in-Some.width.now ≤ length c.loop-width.out
room c =
    let l = c.loop-width in
    let t = turn c in
    omega (arith, t.1, putting_room _ _ _ _ l.at (length l.yielded) c.requires.1 l.invariant t.0)

pub loop-width-init : goal.loop-width-init
loop-width-init c = putting_first _ _ _

pub slice_bounds-put_hex-count : goal.slice_bounds-put_hex-count
slice_bounds-put_hex-count c = omega (arith, room c)

pub slice_bounds-put_hex-start : goal.slice_bounds-put_hex-start
slice_bounds-put_hex-start c = omega (arith, room (goal.at.slice_bounds-put_hex-start c).In-Some)

pub put_hex-requires : goal.put_hex-requires
put_hex-requires c =
    let l = c.loop-width in
    let t = turn (goal.at.put_hex-requires c).In-Some in
    rw t.1 (putting_tail _ _ _ _ l.at (length l.yielded) c.requires.1 l.invariant t.0)

pub overflow_add-at : goal.overflow_add-at
overflow_add-at c = omega (arith, room (goal.at.overflow_add-at c).In-Some, c.loop-width.invariant.same)

pub loop-width-preserved : goal.loop-width-preserved
loop-width-preserved c =
    let l = c.loop-width in
    let t = turn (goal.at.loop-width-preserved c).In-Some in
    let more : length (l.yielded ++ ((c.in-Some.width, c.in-Some.value) ∷ [])) ≡ length l.yielded + 1 = length-append _ _ in
    let e = c.put_hex.ensures ∙ ap₂ (λ (w v : ℕ). laid (digits w v) (mid_of l.at (length l.out - l.at) l.out)) t.1 t.2 in
    rw (more, t.1) (putting_next _ _ _ _ l.at (length l.yielded) c.requires.1 l.invariant t.0 _ e)

pub returns : goal.returns
returns c =
    let l = c.loop-width in
    let n = zip_end c.args.widths.now c.args.values.now l.yielded c.into_iter-width-iterator.result l.width-iterator c.next.new.self c.next.result
    (search rules) (search rules) l.yielded_by c.in-None.is c.next.ensures.steps in
    let e = putting_end _ _ _ _ l.at (length l.yielded) c.requires.1 l.invariant (omega (arith, n, c.requires.0)) in
    record { value = e.0; out_after = e.1 }
