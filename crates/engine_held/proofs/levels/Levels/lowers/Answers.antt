-- `lowers` is the test `lowering`: the loop keeps that what is left lowers the level before exactly if all lower the quantity.
use Rattle.std.proofs.Common.{◌≡◌, sym, ◌∙◌, true, false, inl, inr, get_or}
use Rattle.rules_auction.specs.Refusals.{lowering}
use Rattle.engine_held.specs.levels.Held.{levels_in}
use Rattle.engine_held.proofs.levels.Reading.{read_first, read_again, read_stop, read_end, lowers, lowering_in_turn, lowers_passes}
use Rattle.engine_held.proofs.levels.Reading.{lowers_undeclared, lowers_not}
use Rattle.engine_held.proofs.levels.Levels.lowers.Goals as goal
use Rattle.engine_held.proofs.levels.Levels.lowers.Goals.{In-loop-level, else-level-ne0-via-then-level-ne0+else-not-declares, else-level-ne0-via-else-level-ne0}

stop :
    (c : In-loop-level) →
    let a = c.args in
    lowers (levels_in a.self) c.loop-level.last (get_or a.levels.now c.loop-level.level-index 0) ≡ false →
    false ≡ lowering (levels_in a.self) a.quantity a.levels.now
stop c e =
    let l = c.loop-level in
    read_stop (lowering_in_turn (levels_in c.args.self)) _ _ l.last _ l.invariant c.loop-level-test.true e

pub loop-level-init : goal.loop-level-init
loop-level-init c = read_first _ _

pub returns-then-not-declares : goal.returns-then-not-declares
returns-then-not-declares c =
    stop (goal.at.returns-then-not-declares c).In-loop-level (lowers_undeclared _ _ _ c.if-level-ne0.true
    (sym c.declares.ensures ∙ c.if-not-declares.true))

pub returns-then-last-level : goal.returns-then-last-level
returns-then-last-level c = stop (goal.at.returns-then-last-level c).In-loop-level (lowers_not _ _ _ c.if-last-level.true)

pub loop-level-preserved : goal.loop-level-preserved
loop-level-preserved c =
    let l = c.loop-level in
    let declared = levels_in c.args.self in
    let level = get_or c.args.levels.now l.level-index 0 in
    let e : lowers declared l.last level ≡ true =
    elim c.else-level-ne0.branch [
      | else-level-ne0-via-then-level-ne0+else-not-declares w ↦
          lowers_passes _ _ _ (inr (sym w.declares.ensures ∙ w.if-not-declares.false)) c.if-last-level.false
      | else-level-ne0-via-else-level-ne0 w ↦ lowers_passes _ _ _ (inl w.if-level-ne0.false) c.if-last-level.false
    ] in
    read_again (lowering_in_turn declared) _ _ l.last _ l.invariant c.loop-level-test.true e

pub returns : goal.returns
returns c =
    let l = c.loop-level in
    read_end (lowering_in_turn (levels_in c.args.self)) _ _ l.last _ l.invariant c.loop-level-test.false
