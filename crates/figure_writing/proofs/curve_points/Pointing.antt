-- The points of a curve's words written one by one.
use Prim.Native.Nat.{ℕ, ◌+◌, ◌*◌, ◌/◌, ◌%◌, ◌≤◌, ◌<◌}
use mathlib.Core.Path.{◌≡◌, refl, ap}
use mathlib.Core.List.{List, ◌∷◌}
use native.Mathlib.Omega.{arith}
use native.Mathlib.Numerals.{add-one}
use lib.ListN.{length, get_or, drop, set, drop_of_length-le}
use lib.Seq.{drop-cons}
use Rattle.rules_numbers.specs.Tails.{laid, Filled, filled_all}
use Rattle.figure_writing.specs.lent_numbers.LentLaws.{filled_first, filled_one, filled_left}
use Rattle.figure_writing.specs.curve_points.Points.{points_from}
use Rattle.figure_writing.specs.curve_points.PointLaws.{points_length}

abbrev unit : ℕ
unit = 1099511627776

-- the loop over the words ws before place i: o is what was lent at first, `before` the supply before the point at place i
abbrev pub Pointing : List ℕ → ℕ → List ℕ → List ℕ → ℕ → ℕ → Type 0
Pointing ws first o points before i = Filled (points_from first ws) o points (points_from before (drop i ws)) (3 * i)

pub pointing_first : (ws : List ℕ) (first : ℕ) (o : List ℕ) → Pointing ws first o o first 0
pointing_first ws first o = filled_first _ o

module _
    (ws : List ℕ) (first : ℕ) (o : List ℕ) (room : 3 * length ws ≤ length o) (points : List ℕ) (before i : ℕ)
    (f : Pointing ws first o points before i)
  where
    fits_all : length (points_from first ws) ≤ length o
    fits_all = omega (arith, points_length first ws)

    pub pointing_end : length ws ≤ i → points ≡ laid (points_from first ws) o
    unfolding points_from
    pointing_end h = (filled_all _ o points _ (3 * i) f (ap (points_from before) (drop_of_length-le ws h))).1

    pub pointing_next : i < length ws → let w = get_or ws i 0 in
        Pointing ws first o (set (set (set points (3 * i) (w / unit)) (3 * i + 1) before) (3 * i + 2) (w % unit)) (w % unit) (i + 1)
    unfolding points_from
    pointing_next h =
        let w : ℕ = get_or ws i 0 in
        let text : List ℕ = points_from first ws in
        let d : drop i ws ≡ w ∷ drop (i + 1) ws = rw add-one (drop-cons ws i 0 h) in
        let now = filled_left text o fits_all points _ (3 * i) _ (ap (points_from before) d) f in
        let price = filled_one text o fits_all points _ (3 * i) (3 * i) (3 * i + 1) (w / unit) refl refl now in
        let supply = filled_one text o fits_all _ _ (3 * i + 1) (3 * i + 1) (3 * i + 2) before refl (omega arith) price in
        filled_one text o fits_all _ _ (3 * i + 2) (3 * i + 2) (3 * (i + 1)) (w % unit) refl (omega arith) supply
