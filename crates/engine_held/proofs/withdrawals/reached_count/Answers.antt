-- `reached_count` goes through the lodged steps: the first whose price is below c ends those that are reached.
use Rattle.std.proofs.Common.{arith, ◌≡◌, ◌<◌, ◌+◌, ◌-◌, ◌∙◌, ℕ, List, get_or, take, drop, inr, ⊎_elim, length-take, length-drop, get_or-take}
use Rattle.std.proofs.lemmas.Bool.{cases_lt}
use Rattle.std.proofs.lemmas.List.{get_or-drop}
use Rattle.engine_held.proofs.withdrawals.Reaching.{reached_none, reached_more, reached_stop, reached_room, reached_all}
use Rattle.engine_held.proofs.withdrawals.reached_count.Goals as goal
use Rattle.engine_held.proofs.withdrawals.reached_count.Goals.{In-loop-i}

part_place : (xs : List ℕ) (start steps i : ℕ) → i < steps → get_or (take (start + steps - start) (drop start xs)) i 0 ≡ get_or xs (start + i) 0
part_place xs start steps i h = get_or-take (start + steps - start) (drop start xs) i 0 (omega arith) ∙ get_or-drop start xs i 0

pub loop-i-init : goal.loop-i-init
loop-i-init c = reached_none _ _

-- this turn's step is there
turn : (c : In-loop-i) → let i = c.loop-i.i in (i < c.min-steps.result) × (i < c.args.history.lodged) × (c.min-start.result ≡ c.args.history.count)
turn c = let n = c.min-steps.ensures in let i : c.loop-i.i < c.min-steps.result = omega (arith, length-take {A = ℕ}, length-drop {A = ℕ}) in (i, omega arith, omega arith)

pub returns-then-price-c : goal.returns-then-price-c
returns-then-price-c c =
    let t = turn (goal.at.returns-then-price-c c).In-loop-i in
    let h = c.args.history in
    reached_stop _ _ _ c.loop-i.invariant t.1 (rw (part_place h.prices c.min-start.result c.min-steps.result c.loop-i.i t.0, t.2) at c.if-price-c.true)

pub loop-i-preserved : goal.loop-i-preserved
loop-i-preserved c =
    let t = turn (goal.at.loop-i-preserved c).In-loop-i in
    let h = c.args.history in
    reached_more _ _ _ c.loop-i.invariant t.1 (rw (part_place h.prices c.min-start.result c.min-steps.result c.loop-i.i t.0, t.2) at c.if-price-c.false)

pub returns : goal.returns
returns c =
    let i : c.min-steps.result ≡ c.loop-i.i = omega (arith, length-take {A = ℕ}, length-drop {A = ℕ}) in
    rw i
    (⊎_elim
    (λ g. reached_room _ _ _ c.loop-i.invariant g (inr (omega arith)))
    (λ g. reached_all _ _ _ c.loop-i.invariant g)
    (cases_lt c.loop-i.i c.args.history.lodged))
