-- `levels_ok` is the test `levels_ok`: the loop keeps that what is left rises from the level before exactly if all rise from 0.
use Rattle.std.proofs.Common.{arith, ◌≡◌, ◌∙◌, get_or, false}
use Rattle.std.proofs.lemmas.Bool.Decides.{nat_tests}
use Rattle.rules_auction.specs.Refusals.{levels_ok}
use Rattle.engine_held.proofs.levels.Reading.{read_first, read_again, read_stop, read_end, rises, rising_in_turn, rises_passes, rises_not}
use Rattle.engine_held.proofs.levels.Reading.{rises_too_far, levels_none, levels_many, levels_counted}
use Rattle.engine_held.proofs.levels.levels_ok.Goals as goal
use Rattle.engine_held.proofs.levels.levels_ok.Goals.{In-loop-level, then-is_empty-via-then-is_empty, then-is_empty-via-else-is_empty+then-levels-gt-MOST, then-level-last-via-then-level-last, then-level-last-via-else-level-last+then-level-gt-LARGEST}

stop :
    (c : In-loop-level) →
    let ls = c.args.levels.now in
    rises c.loop-level.last (get_or ls c.loop-level.level-index 0) ≡ false →
    false ≡ levels_ok ls
stop c e =
    let l = c.loop-level in
    read_stop rising_in_turn 0 _ l.last _ l.invariant c.loop-level-test.true e ∙ levels_counted _ (omega arith) (omega arith)

pub returns-then-is_empty : goal.returns-then-is_empty
returns-then-is_empty c =
    elim c.then-is_empty.branch [
      | then-is_empty-via-then-is_empty w ↦ levels_none _ (grind (arith, nat_tests))
      | then-is_empty-via-else-is_empty+then-levels-gt-MOST w ↦ levels_many _ w.if-levels-gt-MOST.true
    ]

pub loop-level-init : goal.loop-level-init
loop-level-init c = read_first 0 _

pub returns-then-level-last : goal.returns-then-level-last
returns-then-level-last c = stop (goal.at.returns-then-level-last c).In-loop-level
    (elim c.then-level-last.branch [
      | then-level-last-via-then-level-last w ↦ rises_not _ _ w.if-level-last.true
      | then-level-last-via-else-level-last+then-level-gt-LARGEST w ↦ rises_too_far _ _ w.if-level-gt-LARGEST.true
    ])

pub loop-level-preserved : goal.loop-level-preserved
loop-level-preserved c =
    let l = c.loop-level in
    read_again rising_in_turn 0 _ l.last _ l.invariant c.loop-level-test.true (rises_passes _ _ c.if-level-last.false c.if-level-gt-LARGEST.false)

pub returns : goal.returns
returns c =
    let l = c.loop-level in
    read_end rising_in_turn 0 _ l.last _ l.invariant c.loop-level-test.false ∙ levels_counted _ (grind (arith, nat_tests)) (omega arith)
