-- `greatest_by_project` is `greatest_by_project`: the loop keeps that of the first developers.
use Rattle.std.proofs.Common.{arith, ◌∙◌, ap, refl, length-append}
use Rattle.std.proofs.lemmas.Slice.Zip.{zip_turn, zip_end}
use Rattle.engine_held.specs.supply.ByProject.{place_of}
use Rattle.engine_held.proofs.supply.Greatest.{raising_first, raising_again, raising_end}
use Rattle.engine_held.proofs.supply.greatest_by_project.Goals as goal

pub loop-k-init : goal.loop-k-init
loop-k-init c = raising_first _ _ (omega arith) (omega arith)

pub loop-k-preserved : goal.loop-k-preserved
loop-k-preserved c =
    let turn = zip_turn c.args.projects c.args.quantities c.loop-k.yielded _ _ c.next.new.self _ (cc) (cc) c.loop-k.yielded_by (c.in-Some.k, c.in-Some.quantity) refl c.in-Some.ensures.steps in
    let k = turn.2 0 in
    let q = turn.3 0 in
    rw length-append
    (raising_again _ _ _ _ c.loop-k.invariant _ _ _ (omega (arith, turn.0)) (c.place-at.ensures.0 ∙ ap place_of k) (rw (k, q) at c.counted.ensures) c.max.ensures)

pub returns : goal.returns
returns c =
    let end = zip_end c.args.projects c.args.quantities c.loop-k.yielded _ _ c.next.new.self _ (cc) (cc) c.loop-k.yielded_by refl c.in-None.ensures.steps in
    raising_end _ _ _ _ c.loop-k.invariant (omega (arith, end))
