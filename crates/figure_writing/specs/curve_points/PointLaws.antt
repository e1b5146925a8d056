-- The numbers of a curve's words are those of the curve that they keep.
use Rattle.std.specs.Prelude.{ℕ, ◌*◌, ◌/◌, ◌%◌, ◌≡◌, refl, length, take}
use Rattle.std.proofs.Common.{ap, ◌∙◌, arith, mod-eq_of_lt, take_at}
use mathlib.Core.List.Memᴰ
use mathlib.Core.List.{List, [], ◌∷◌, map, flatten}
use Rattle.std.proofs.Math.Nat.{mul-add-div_right, mul-add-mod_self_right, div-eq_of_lt}
use Rattle.std.proofs.lemmas.List.{length-map}
use Rattle.rules_numbers.specs.ListLaws.{Each}
use Rattle.rules_supply_curve.specs.Curve.{Point}
use Rattle.rules_supply_curve.specs.CurveLaws.{Joined}
use Rattle.rules_seats.specs.figures.Figures.{curve_figures}
use Rattle.engine_curve.specs.kept_curve.Held.{held_point, held_curve, Fits}
use Rattle.engine_curve.specs.declared.kept_curve.SupplyCurve.{SupplyCurve}
use Rattle.figure_writing.specs.curve_points.Points.{points_from}

abbrev unit : ℕ
unit = 1099511627776

pub points_length : (before : ℕ) (ws : List ℕ) → length (points_from before ws) ≡ 3 * length ws
unfolding points_from
points_length before [] = refl
points_length before (w ∷ ws) = omega (arith, points_length (w % unit) ws)

price_back : (x : Point) → Fits x → held_point x / unit ≡ x.price
price_back x f = mul-add-div_right {m = unit} (omega arith) x.price x.after ∙ omega (arith, div-eq_of_lt f.after_high)

after_back : (x : Point) → Fits x → held_point x % unit ≡ x.after
after_back x f = mul-add-mod_self_right x.price unit x.after ∙ mod-eq_of_lt f.after_high

-- of points that fit their words, and are joined from s on
points_back : (s : ℕ) (xs : List Point) → Joined s xs → Each Fits xs → points_from s (map held_point xs) ≡ curve_figures xs
unfolding points_from curve_figures flatten Joined
points_back s [] j f = refl
points_back s (x ∷ xs) j f =
    let fits : Fits x = f x (Memᴰ.head refl) in
    let a : held_point x % unit ≡ x.after = after_back x fits in
    rw (price_back x fits, a, j.0)
    (ap (λ (l : List ℕ). x.price ∷ s ∷ x.after ∷ l) (points_back x.after xs j.1 (λ y m. f y (Memᴰ.tail m))))

pub curve_points : (c : SupplyCurve) (s : ℕ) (xs : List Point) → c ≡ held_curve xs → Joined s xs → Each Fits xs →
    points_from s (take c.count c.words) ≡ curve_figures xs
unfolding held_curve
curve_points c s xs e j f =
    ap (λ (d : SupplyCurve). points_from s (take d.count d.words)) e
    ∙ ap (points_from s) (take_at (map held_point xs) _ (length xs) (length-map xs held_point))
    ∙ points_back s xs j f
