-- The fields gathered are the few, then the list; where they do not fit the array, the line would be too long.
use Prim.Native.Nat.{ℕ, ◌+◌}
use mathlib.Core.Path.{◌≡◌, sym, ap, ◌∙◌}
use mathlib.Core.List.{List, ◌++◌}
use Rattle.std.proofs.Common.{arith}
use lib.ListN.{length, take, length-append}
use Rattle.frame_writing.specs.frame_sizes.FrameSizeLaws.{too_many}
use Rattle.frame_writing.specs.EncodesLaws.{not_writable}
use Rattle.frame_writing.proofs.each_call.Gathering.{same_fields}
use Rattle.frame_writing.proofs.each_call.write_list.Goals as goal
use Rattle.frame_writing.proofs.each_call.write_list.Goals.{After-with_list-fields}

gathered :
    (c : After-with_list-fields) →
    let a = c.args in
    take (length a.head.now + length a.list.now) c.with_list-fields.result ≡ a.head.now ++ a.list.now
gathered c =
    let a = c.args in
    let z : length a.head.now ≡ 0 + length a.head.now = omega arith in
    let h : take (length a.head.now) c.with_list-first.result ≡ a.head.now =
    ap (λ (n : ℕ). take n c.with_list-first.result) z ∙ c.with_list-first.ensures in
    c.with_list-fields.ensures ∙ ap (λ (l : List ℕ). l ++ a.list.now) h

pub returns-then-few-list : goal.returns-then-few-list
returns-then-few-list c =
    let a = c.args in
    let n = length-append a.head.now a.list.now in
    not_writable _ _ _ (too_many _ (a.head.now ++ a.list.now) (omega (arith, n, c.if-few-list.true)))

pub slice_bounds-encode-end : goal.slice_bounds-encode-end
slice_bounds-encode-end c =
    let a = c.args in
    sym (ap length (gathered (goal.at.slice_bounds-encode-end c).After-with_list-fields) ∙ length-append a.head.now a.list.now)

pub returns : goal.returns
returns c = same_fields _ _ _ _ _ _ (gathered (goal.at.returns c).After-with_list-fields) c.encode.ensures
