-- The size of the frame decides the refusal; else line and 0A stand one behind the other.
use Prim.Native.Nat.{ℕ, ◌+◌, ◌-◌}
use mathlib.Core.Path.{◌≡◌, refl, sym, ap, ◌∙◌}
use mathlib.Core.Bool.{true}
use Rattle.std.specs.Prelude.{ok_or, Ok, Err, Option, Some, None}
use Rattle.std.proofs.Common.{arith}
use Rattle.std.proofs.lemmas.Result.{err_from_is_err_and}
use lib.ListN.{length}
use Rattle.rules_numbers.specs.Tails.{length_laid}
use Rattle.rules_format.specs.Fields.{raw_call}
use Rattle.rules_format.specs.Written.{line_of, frame_of, writable}
use Rattle.engine_refusals.specs.declared.Refusal.{Refusal}
use Rattle.frame_writing.specs.EncodesLaws.{encode_none, encode_short, encode_size, encode_written}
use Rattle.frame_writing.specs.frame_sizes.FrameSizes.{frame_size}
use Rattle.frame_writing.proofs.Lines.{tail_room, frame_there}
use Rattle.frame_writing.proofs.encode.Goals as goal
use Rattle.frame_writing.proofs.encode.Goals.{After-put_line, In_ok-size, Else-out-size}

-- a size there is none of is the refusal that is named, and one that there is stands
none_there : (o : Option ℕ) (x e : Refusal) → Err e ≡ ok_or o x → (o ≡ None) × (e ≡ x)
none_there None x e h = (refl, cc)
none_there (Some n) x e h = cc

some_there : (o : Option ℕ) (x : Refusal) (n : ℕ) → Ok n ≡ ok_or o x → o ≡ Some n
some_there None x n h = cc
some_there (Some m) x n h = cc

-- not refused: the call has a frame of this size, its line and one byte more
sized : (c : In_ok-size) → frame_size (raw_call c.args.kind c.args.fields.now) ≡ Some c.in_ok-size.size
sized c = sym c.frame_size.ensures ∙ some_there _ _ _ c.in_ok-size.ensures.value

size :
    (c : In_ok-size) →
    let k = raw_call c.args.kind c.args.fields.now in
    let n = c.in_ok-size.size in
    (writable k ≡ true) × (n ≡ length (frame_of k)) × (n ≡ length (line_of k) + 1)
size c = encode_size _ _ c.args.out.now _ (sized c)

-- the line leaves the buffer's length
same : (c : After-put_line) → length c.put_line.new.out ≡ length c.args.out.now
same c =
    let a = c.args in
    let r = size (goal.at.After-put_line c).In_ok-size in
    ap length c.put_line.ensures ∙ length_laid (line_of (raw_call a.kind a.fields.now)) a.out.now (omega (arith, r.2, c.if-out-size.false))

pub returns-in_err-size : goal.returns-in_err-size
returns-in_err-size c =
    let p = err_from_is_err_and c.from_residual.result c.from_residual.ensures.1 in
    let q = none_there _ _ _ c.in_err-size.ensures.value in
    rw (p.1, p.2, q.1) (encode_none _ _ _ (sym c.frame_size.ensures ∙ q.0))

pub returns-then-out-size : goal.returns-then-out-size
returns-then-out-size c = encode_short _ _ _ _ (sized (goal.at.returns-then-out-size c).In_ok-size) c.if-out-size.true

pub put_line-requires : goal.put_line-requires
put_line-requires c = let r = size (goal.at.put_line-requires c).In_ok-size in (r.0, omega (arith, r.2, c.if-out-size.false))

pub overflow_sub-end : goal.overflow_sub-end
overflow_sub-end c = omega (arith, (size (goal.at.overflow_sub-end c).In_ok-size).2)

pub slice_bounds-put_byte-count : goal.slice_bounds-put_byte-count
slice_bounds-put_byte-count c = omega (arith, same (goal.at.slice_bounds-put_byte-count c).After-put_line, c.if-out-size.false)

pub slice_bounds-put_byte-start : goal.slice_bounds-put_byte-start
slice_bounds-put_byte-start c = omega (arith, same (goal.at.slice_bounds-put_byte-start c).After-put_line, c.if-out-size.false)

pub put_byte-requires : goal.put_byte-requires
put_byte-requires c =
    let r = size (goal.at.put_byte-requires c).In_ok-size in
    tail_room c.put_line.new.out _ (omega (arith, same (goal.at.put_byte-requires c).After-put_line, r.2, c.if-out-size.false))

pub returns : goal.returns
returns c =
    let at = goal.at.returns c in
    let a = c.args in
    let e : c.in_ok-size.size - 1 ≡ length (line_of (raw_call a.kind a.fields.now)) = omega (arith, (size at.In_ok-size).2) in
    rw (frame_there _ _ _ _ _ _ e c.put_line.ensures c.put_byte.ensures) (encode_written _ _ _ _ (sized at.In_ok-size) (omega (arith, c.if-out-size.false)))
