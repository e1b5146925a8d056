-- `explore` goes through the choices that are left: those with the level at its place, which it counts at once or goes into, and those beside
-- them.
use Prim.Native.Nat.{ℕ, ◌≤◌, ◌<◌, ◌+◌}
use mathlib.Core.Path.{◌∙◌}
use Rattle.std.proofs.Common.{arith}
use lib.ListN.{get_or}
use Rattle.engine_search.specs.rows_behind.Behind.{search_row}
use Rattle.engine_search.proofs.searching.Exploring.{With, within, sums_fit, room_here, stride_fits, none_covers, all_cover, next_place}
use Rattle.engine_search.proofs.searching.Exploring.{rest_ready, rest_with, row_done, next_ready, go_on}
use Rattle.engine_search.proofs.searching.+explore.Goals as goal
use Rattle.engine_search.proofs.searching.+explore.Goals.{Else-demand-low, Joined-demand-high, then-demand-high+then-demand-low, then-demand-high+else-demand-low, else-demand-high}

pub offset_bounds-levels-place : goal.offset_bounds-levels-place
offset_bounds-levels-place t c = omega (arith, c.requires.goes.inside, within c.requires.goes)

pub bounds-levels-place : goal.bounds-levels-place
bounds-levels-place t c = omega (arith, c.requires.goes.inside, within c.requires.goes)

pub overflow_add-low : goal.overflow_add-low
overflow_add-low t c = omega (arith, (sums_fit c.requires.goes).1)

pub overflow_add-high : goal.overflow_add-high
overflow_add-high t c = omega (arith, (sums_fit c.requires.goes).2)

pub with_more-passed-requires : goal.with_more-passed-requires
with_more-passed-requires t c = room_here c.requires.goes

between :
    (t : ℕ) →
    (c : Else-demand-low t) →
    let s = c.args in
    let total = s.place.base + get_or s.levels.now s.place.at 0 in
    (total + (search_row s.rows.now s.place.row).lows < s.demand) × (s.demand ≤ total + (search_row s.rows.now s.place.row).highs)
between t c = rw (← c.from.ensures) (c.if-demand-low.false, c.if-demand-high.true)

pub bounds-rows-place-else-demand-low : goal.bounds-rows-place-else-demand-low
bounds-rows-place-else-demand-low t c =
    next_place c.requires.goes c.args.demand (between t (goal.at.bounds-rows-place-else-demand-low t c).Else-demand-low)

pub explore-passed-requires : goal.explore-passed-requires
explore-passed-requires t c =
    let q = c.requires in (
      omega (arith, c.decreases, q.goes.place, q.goes.inside),
      record { ends = q.ends; order = q.order; strides = q.strides; goes = rw c.from.ensures (rest_ready q.goes c.args.demand (between t (goal.at.explore-passed-requires t c).Else-demand-low)) },
    )

pub overflow_add-place : goal.overflow_add-place
overflow_add-place t c = omega (arith, c.requires.goes.inside, within c.requires.goes)

-- where the level covers with the lows behind it, all its choices are counted; where it does not with the highs, none is there
passed : (t : ℕ) → (c : Joined-demand-high t) → With c.requires.goes c.args.demand c.if-demand-high.passed
passed t c =
    let r = c.requires.goes in
    let d = c.args.demand in
    elim c.if-demand-high.branch [
      | then-demand-high+then-demand-low w ↦
          w.passed-is ∙ (rw c.from.ensures at w.with_more-passed.ensures) ∙ all_cover r d (rw c.from.ensures at w.if-demand-low.true)
      | then-demand-high+else-demand-low w ↦
          rest_with r d (rw c.from.ensures at w.if-demand-low.false, rw c.from.ensures at w.if-demand-high.true) _ (w.passed-is ∙ (rw c.from.ensures at w.explore-passed.ensures))
      | else-demand-high w ↦ w.passed-is ∙ none_covers r d (rw c.from.ensures at w.if-demand-high.false)
    ]

pub returns-then-place-row : goal.returns-then-place-row
returns-then-place-row t c =
    row_done c.requires.goes c.args.demand c.if-demand-high.passed (passed t (goal.at.returns-then-place-row t c).Joined-demand-high) c.if-place-row.true

pub overflow_add-beside-2 : goal.overflow_add-beside-2
overflow_add-beside-2 t c =
    let r = c.requires.goes in
    omega (arith, r.index_fits, stride_fits r, r.place, r.inside, within r)

pub explore-requires : goal.explore-requires
explore-requires t c =
    let q = c.requires in
    let r = q.goes in
    let next = next_ready r c.args.demand c.if-demand-high.passed (passed t (goal.at.explore-requires t c).Joined-demand-high) c.if-place-row.false in
    (omega (arith, c.decreases, r.inside, within r), record { ends = q.ends; order = q.order; strides = q.strides; goes = next })

pub returns : goal.returns
returns t c =
    go_on c.requires.goes c.args.demand c.if-demand-high.passed (passed t (goal.at.returns t c).Joined-demand-high) _ c.explore.ensures

pub overflow_add-beside : goal.overflow_add-beside
overflow_add-beside t c = omega (arith, c.requires.goes.inside, within c.requires.goes)
