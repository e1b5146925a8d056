-- Step by step; the loop keeps `Stepping`.
use Rattle.std.proofs.Common.{rules}
use Rattle.frame_writing.proofs.each_call.Gathering.{stepping_first, stepping_next, stepping_end}
use Rattle.frame_writing.proofs.each_call.steps_of.Goals as goal

pub loop-i-init : goal.loop-i-init
loop-i-init c = stepping_first _ _ _ (search rules)

pub loop-i-preserved : goal.loop-i-preserved
loop-i-preserved c =
    let turn = c in
    let l = turn.loop-i in
    let p = turn.requires in
    stepping_next _ _ p.0 p.1 l.steps l.i l.invariant turn.loop-i-test.true

pub returns : goal.returns
returns c =
    let l = c.loop-i in
    let p = c.requires in
    stepping_end _ _ p.0 p.1 l.steps l.i l.invariant c.loop-i-test.false
