-- `winners` finds the developer of each awarded level: the loop keeps the preferred ones among the first i developers.
use Prim.Native.Nat.{◌≤◌}
use mathlib.Core.Path.{◌≡◌, sym, ap, ◌∙◌}
use mathlib.Core.Bool.{true}
use lib.ListN.{get_or}
use Rattle.std.proofs.Common.{arith, rules}
use Rattle.rules_numbers.specs.Numbered.{at_number}
use Rattle.engine_award.specs.awarding.Choosing.{may_get}
use Rattle.engine_award.proofs.awarding.Winning.{winning_first, gets, gets_place, winning_kept, winning_stored, winning_end}
use Rattle.engine_award.proofs.awarding.winners.Goals as goal
use Rattle.engine_award.proofs.awarding.winners.Goals.{After-may_get, then-may_get, else-may_get}

-- the test of the branch
tested :
    (c : After-may_get) →
    let a = c.args in
    c.may_get.result ≡ gets a.auction.now.projects a.auction.now.declared a.lows a.highs a.award c.loop-i.i
unfolding at_number
tested c = c.may_get.ensures ∙ ap (may_get _ _ _) c.of_number-v.ensures

-- the project of a developer that passes
place :
    (c : After-may_get) → c.may_get.result ≡ true →
    let k = get_or c.args.auction.now.projects c.loop-i.i 0 in
    (1 ≤ k) × (k ≤ 32)
place c passes =
    let a = c.args in
    gets_place a.auction.now.projects a.auction.now.declared a.lows a.highs a.award c.loop-i.i c.loop-i.invariant.levels (sym (tested c) ∙ passes)

pub loop-i-init : goal.loop-i-init
loop-i-init c = winning_first _ _ _ _ _ _ _ (search rules)

pub overflow_sub-place : goal.overflow_sub-place
overflow_sub-place c = omega (arith, place (goal.at.overflow_sub-place c).After-may_get c.if-may_get.true)

pub bounds-best-place : goal.bounds-best-place
bounds-best-place c = omega (arith, place (goal.at.bounds-best-place c).After-may_get c.if-may_get.true)

pub preferred-requires : goal.preferred-requires
preferred-requires c = (c.loop-i.invariant.small _ (omega (arith, place (goal.at.preferred-requires c).After-may_get c.if-may_get.true)), omega arith)

pub bounds-best-place-then-may_get : goal.bounds-best-place-then-may_get
bounds-best-place-then-may_get c = omega (arith, place (goal.at.bounds-best-place-then-may_get c).After-may_get c.if-may_get.true)

pub loop-i-preserved : goal.loop-i-preserved
unfolding at_number
loop-i-preserved c =
    let l = c.loop-i in
    let test = sym (c.may_get.ensures ∙ ap (may_get _ _ _) c.of_number-v.ensures) in
    elim c.if-may_get.branch [
      | then-may_get w ↦
          rw (w.best-is, w.from-place.ensures)
          (winning_stored _ _ _ _ _ _ _ _ _ l.invariant (omega arith) w.preferred.result (test ∙ w.if-may_get.true)
          (rw w.from-place.ensures at w.preferred.ensures))
      | else-may_get w ↦ rw w.best-is (winning_kept _ _ _ _ _ _ _ _ _ l.invariant (omega arith) (test ∙ w.if-may_get.false))
    ]

pub returns : goal.returns
returns c = winning_end _ _ _ _ _ _ _ _ _ c.loop-i.invariant (omega arith)
