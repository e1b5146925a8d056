-- From the first word on while its price is above p.
use Rattle.std.proofs.Common.{◌<◌, arith}
use Rattle.std.proofs.lemmas.List.{length-take, get_or-take}
use Rattle.engine_curve.proofs.kept_curve.Keeping.{looking_first, looking_end, looking_stop, looking_next}
use Rattle.engine_curve.proofs.kept_curve.supplied_at.Goals as goal

pub loop-word-init : goal.loop-word-init
loop-word-init c = looking_first _ _ _ _

pub returns-then-word-from : goal.returns-then-word-from
returns-then-word-from c =
    let i = c.loop-word.word-index in
    let a = c.args in
    let long = length-take c.min.result a.words.now in
    let within : i < c.min.result = omega arith in
    let read = get_or-take c.min.result a.words.now i 0 within in
    looking_stop _ _ _ _ _ _ c.loop-word.invariant (omega arith) (rw (read, c.from.ensures) at c.if-word-from.true)

pub loop-word-preserved : goal.loop-word-preserved
loop-word-preserved c =
    let i = c.loop-word.word-index in
    let a = c.args in
    let long = length-take c.min.result a.words.now in
    let within : i < c.min.result = omega arith in
    let read = get_or-take c.min.result a.words.now i 0 within in
    rw read (looking_next _ _ _ _ _ _ c.loop-word.invariant (omega arith) (omega arith) (rw (read, c.from.ensures) at c.if-word-from.false))

pub returns : goal.returns
returns c =
    let long = length-take c.min.result c.args.words.now in
    looking_end _ _ _ _ _ _ c.loop-word.invariant (omega arith)
