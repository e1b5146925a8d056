-- What was tried says whether the replies fit: then they are copied, or written again.
use Prim.Native.Nat.{ℕ}
use mathlib.Core.Path.{◌≡◌, sym, ap₂}
use mathlib.Core.List.{List, ◌++◌}
use Rattle.std.proofs.Common.{arith}
use lib.ListN.{length, take, drop}
use lib.Seq.{length-take-le}
use Rattle.rules_numbers.specs.Tails.{laid}
use Rattle.record_replay.proofs.Replaying.{tried_over, tried_copied, tried_again}
use Rattle.record_replay.proofs.replies_by_scratch.Goals as goal

pub returns-then-room-n : goal.returns-then-room-n
returns-then-room-n c = tried_over _ _ _ _ _ c.run_fresh-n.ensures c.if-room-n.true

pub returns-then-n-scratch : goal.returns-then-n-scratch
unfolding laid
returns-then-n-scratch c =
    let x = c.run_fresh-n.new.out in
    let n = c.run_fresh-n.result in
    let m : n ≡ length (take n x) = sym (length-take-le n x (omega (arith, c.if-n-scratch.true))) in
    tried_copied _ _ _ _ _ c.run_fresh-n.ensures c.if-room-n.false (omega (arith, c.if-n-scratch.true)) _
    (ap₂ (λ (l : List ℕ) (k : ℕ). l ++ drop k c.args.out.now) c.copy_from_slice.ensures.after m)

pub run_fresh-requires : goal.run_fresh-requires
run_fresh-requires c = omega (arith, c.if-room-n.false, c.well_formed)

pub returns : goal.returns
returns c =
    tried_again _ _ _ _ _ c.run_fresh-n.ensures c.if-room-n.false _ _ c.run_fresh.ensures
