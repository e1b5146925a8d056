-- `level_at` goes through the withdrawals: the quantity read so far and those left give the level.
use Rattle.std.proofs.Common.{rules, arith, ◌≡◌, ◌<◌, ◌∙◌, ℕ, refl, get_or, length, length-append, length-take, take, get_or-take}
use Rattle.std.proofs.lemmas.Slice.Zip.{zip_turn, zip_end}
use Rattle.engine_held.proofs.withdrawals.Reading.{level_first, level_taken, level_passed, level_end}
use Rattle.engine_held.proofs.withdrawals.level_at.Goals as goal
use Rattle.engine_held.proofs.withdrawals.level_at.Goals.{In-Some}

-- this turn's withdrawal
turn :
    (c : In-Some) → let i = length c.loop-price.yielded in let h = c.args.history in
    (i < 8) × (i < h.count) × (c.in-Some.price.now ≡ get_or h.prices i 0) × (c.in-Some.level.now ≡ get_or h.levels i 0)
turn c =
    let h = c.args.history in
    let n = c.min-n.result in
    let i = length c.loop-price.yielded in
    let z = zip_turn (take n h.prices) (take n h.levels) c.loop-price.yielded _ _ c.next.new.self _ (search rules) (search rules) c.loop-price.yielded_by (c.in-Some.price, c.in-Some.level) refl c.in-Some.ensures.steps in
    let w : i < n = omega (arith, z.0, length-take {A = ℕ}) in
    (omega (arith, c.min-n.ensures), omega (arith, c.min-n.ensures), z.2 0 ∙ get_or-take n h.prices i 0 w, z.3 0 ∙ get_or-take n h.levels i 0 w)

pub loop-price-init : goal.loop-price-init
loop-price-init c = level_first _ _ _

pub loop-price-preserved : goal.loop-price-preserved
loop-price-preserved c =
    let t = turn (goal.at.loop-price-preserved c).In-Some in
    rw length-append (level_passed _ _ _ _ _ c.loop-price.invariant t.0 t.1 (rw t.2 at c.if-p-price.false))

pub loop-price-preserved-then-p-price : goal.loop-price-preserved-then-p-price
loop-price-preserved-then-p-price c =
    let t = turn (goal.at.loop-price-preserved-then-p-price c).In-Some in
    rw (length-append, t.3) (level_taken _ _ _ _ _ c.loop-price.invariant t.0 t.1 (rw t.2 at c.if-p-price.true))

pub returns : goal.returns
returns c =
    let h = c.args.history in
    let n = c.min-n.result in
    let end = zip_end (take n h.prices) (take n h.levels) c.loop-price.yielded _ _ c.next.new.self _ (search rules) (search rules) c.loop-price.yielded_by refl c.in-None.ensures.steps in
    level_end _ _ _ _ _ c.loop-price.invariant (λ k. omega (arith, end, length-take {A = ℕ}))
