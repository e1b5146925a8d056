-- Steps that were gathered are the paired lists; of unequal lists, and of more steps than the array holds, the answer is 14.
use Prim.Native.Nat.{ℕ}
use mathlib.Core.Path.{◌≡◌, sym, ap, ◌∙◌}
use mathlib.Core.List.{List, ◌∷◌}
use Rattle.std.proofs.Common.{arith}
use lib.ListN.{length}
use Rattle.rules_replies.specs.WrittenOrders.{paired}
use Rattle.frame_writing.specs.frame_sizes.FrameSizeLaws.{too_many}
use Rattle.frame_writing.specs.EncodesLaws.{not_writable}
use Rattle.frame_writing.proofs.each_call.Gathering.{length_paired, same_fields, equal_lists, unequal_lists}
use Rattle.frame_writing.proofs.each_call.write_steps.Goals as goal
use Rattle.frame_writing.proofs.each_call.write_steps.Goals.{Else-n-levels}
use Rattle.frame_writing.proofs.each_call.write_steps.Goals.{then-n-levels-via-then-n-levels, then-n-levels-via-else-n-levels+then-n-gt16}

-- past the first test the lists are equally long
same : (c : Else-n-levels) → let a = c.args in length a.prices.now ≡ length a.levels.now
same c = omega arith

pub returns-then-n-levels : goal.returns-then-n-levels
returns-then-n-levels c =
    let ps = c.args.prices.now in
    let qs = c.args.levels.now in
    elim c.then-n-levels.branch [
      | then-n-levels-via-then-n-levels w ↦ unequal_lists _ _ ps qs _ (λ e. omega arith)
      | then-n-levels-via-else-n-levels+then-n-gt16 w ↦
          let e : length ps ≡ length qs = omega (arith, w.if-n-levels.false) in
          let n = length_paired ps qs e in
          equal_lists _ _ _ _ _ ps qs e (not_writable _ _ _ (too_many c.args.kind (c.args.developer ∷ (length ps ∷ paired ps qs)) (omega (arith, n, w.if-n-gt16.true))))
    ]

pub slice_bounds-write_list-end-2 : goal.slice_bounds-write_list-end-2
slice_bounds-write_list-end-2 c =
    let a = c.args in
    sym (ap length c.steps_of-steps.ensures ∙ length_paired a.prices.now a.levels.now (same (goal.at.slice_bounds-write_list-end-2 c).Else-n-levels))

pub returns : goal.returns
returns c =
    let a = c.args in
    let e = ap (λ (l : List ℕ). a.developer ∷ (length a.prices.now ∷ l)) c.steps_of-steps.ensures in
    equal_lists _ _ _ _ _ a.prices.now a.levels.now (same (goal.at.returns c).Else-n-levels) (same_fields _ _ _ _ _ _ e c.write_list.ensures)
