-- `insufficient`: the loop keeps what of the first i levels is new, and what of that is given to small agents.
use Prim.Native.Nat.{ℕ, ◌*◌}
use mathlib.Core.Path.{◌≡◌, ap₂, ◌∙◌}
use Rattle.std.proofs.Common.{arith}
use lib.Dec.{ltb}
use lib.ListN.{length, get_or}
use Rattle.std.proofs.Common.{rules}
use Rattle.rules_numbers.specs.Numbered.{at_number}
use Rattle.rules_auction.specs.Participation.{is_small, new_award, new_to_small, sufficient}
use Rattle.engine_award.specs.participation.Judged.{judged_in, grants_in}
use Rattle.engine_award.proofs.participation.Granting.{granted_to}
use Rattle.engine_award.proofs.participation.Summing.{summing_first, summing_next, summing_none, summing_end}
use Rattle.engine_award.proofs.participation.Tests.{both, neither, not_leb}
use Rattle.engine_award.proofs.participation.insufficient.Invariants.{is_new_one, is_new_small}
use Rattle.engine_award.proofs.participation.insufficient.Goals as goal
use Rattle.engine_award.proofs.participation.insufficient.Goals.{then-level-gt0, else-level-gt0}

pub loop-i-init : goal.loop-i-init
loop-i-init c = (summing_first _, summing_first _)

pub loop-i-preserved : goal.loop-i-preserved
unfolding at_number
loop-i-preserved c =
    let a = c.args in
    let x = a.auction.now in
    let l = c.loop-i in
    let new = c.new_level-level.ensures in
    let winner = get_or a.winners l.i 0 in
    let is_new = is_new_one x.kinds winner in
    let to_small = is_small (judged_in x.clock.settings.d x.agents x.kinds a.highest) (at_number x.agents winner) in
    elim c.if-level-gt0.branch [
      | then-level-gt0 w ↦ rw (w.new_award-is, w.to_small-is) (
        summing_next _ _ _ l.invariant.0 _ (omega arith) (search rules) (w.from-new_award.ensures ∙ new),
        summing_next _ _ _ l.invariant.1 _ (omega arith) (search rules) (w.from-to_small.ensures ∙ both is_new to_small _ new w.small_level-small.ensures),
      )
      | else-level-gt0 w ↦
          let none : 0 ≡ c.new_level-level.result = omega (arith, w.if-level-gt0.false) in
          rw (w.new_award-is, w.to_small-is) (
            summing_none _ _ _ l.invariant.0 (omega arith) (none ∙ new),
            summing_none _ _ _ l.invariant.1 (omega arith) (neither is_new to_small _ (none ∙ new)),
          )
    ]

pub returns : goal.returns
unfolding sufficient new_award new_to_small
returns c =
    let a = c.args in
    let x = a.auction.now in
    let l = c.loop-i in
    let j = judged_in x.clock.settings.d x.agents x.kinds a.highest in
    let gs = grants_in a.award a.winners in
    let e : length a.award ≡ 32 = search rules in
    let f : length a.winners ≡ 32 = search rules in
    ap₂ (λ (s n : ℕ). ltb (2 * s) n)
    ((summing_end _ _ _ l.invariant.1 (omega arith)).0 ∙ granted_to (is_new_small x.clock.settings.d x.agents x.kinds a.highest) a.award a.winners e f)
    ((summing_end _ _ _ l.invariant.0 (omega arith)).0 ∙ granted_to (is_new_one x.kinds) a.award a.winners e f)
    ∙ not_leb (new_award j gs) (2 * new_to_small j gs)
