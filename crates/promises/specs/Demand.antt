-- PROMISED of demand (document 01, Demand; document 02, 4), within the bounds: Dem in words is Dem by formulas; no denominator of the curve is 0;
-- the remainder is 0 exactly when the curve prices Dem(p) at p itself, and so at 2 CE.
use Rattle.std.specs.Prelude.{ℕ, suc, ◌+◌, ◌-◌, ◌*◌, ◌≤◌, ◌<◌, ◌≡◌, ◌↔◌, cond, eqb, pos, negsuc}
use Rattle.std.proofs.Common.{sym, ap, ◌∙◌, ⊎_elim, arith, eq-eqb, ne_eqb}
use Rattle.std.proofs.Math.Nat.{sub-zero}
use Rattle.std.proofs.Math.IntN.{pos-ne-negsuc}
use Rattle.rules_numbers.specs.Cases.{le_or_lt}
use Rattle.rules_numbers.specs.Least.{least_from, least_is}
use Rattle.rules_demand.specs.Curve.{Fraction, demand_curve, priced, PricedAt}
use Rattle.rules_demand.specs.Demand.{dem, dem_in_words, InBounds, InRange}
use Rattle.rules_demand.specs.Remainder.{exact_times_ce, remainder}
use Rattle.rules_demand.specs.Signs.{curve_below, curve_upper, curve_lower, curve_above}
use Rattle.rules_demand.specs.Range.{dem_range}
use Rattle.rules_demand.specs.Words.{dem_least}
use Rattle.rules_demand.specs.Order.{dem_top}
use Rattle.rules_demand.specs.Exact.{exact_from_ce}
use Rattle.rules_demand.specs.ExactInverse.{exact_inverse}
use Rattle.rules_demand.specs.RemainderLaws.{remainder_makes_up}

-- the least quantity that the curve prices at most p, M1 at 2 CE, is what the formulas give
pub dem_in_words_lem : (ce d m1 m2 p : ℕ) → InBounds ce d m1 m2 → InRange ce p → dem_in_words ce d m1 m2 p ≡ dem ce d m1 m2 p
unfolding dem_in_words
dem_in_words_lem ce d m1 m2 p s a = sym (⊎_elim top below (le_or_lt (2 * ce) p))
  where
    top : 2 * ce ≤ p → dem ce d m1 m2 p ≡ cond (eqb p (2 * ce)) m1 (least_from (priced ce d m1 m2 p) 0 m2)
    top h = let e : p ≡ 2 * ce = omega arith in rw (eq-eqb p (2 * ce) e) (ap (dem ce d m1 m2) e ∙ dem_top ce d m1 m2 s)

    below : p < 2 * ce → dem ce d m1 m2 p ≡ cond (eqb p (2 * ce)) m1 (least_from (priced ce d m1 m2 p) 0 m2)
    below h = rw (ne_eqb p (2 * ce) (λ e. omega arith))
        (rw sub-zero at (least_is (priced ce d m1 m2 p) 0 m2 (dem ce d m1 m2 p) (dem_least ce d m1 m2 p s a h)))

-- the curve divides by 0 nowhere
pub den_not_zero : (ce d m1 m2 q : ℕ) → InBounds ce d m1 m2 → (demand_curve ce d m1 m2 q).den ≡ pos 0 → ⊥
den_not_zero ce d m1 m2 q s = ⊎_elim
    (λ h. ⊎_elim
    (λ g. carry (curve_upper ce d m1 m2 q s.m1_d h g) negative)
    (λ g. ⊎_elim (λ k. carry (curve_lower ce d m1 m2 q s.m1_d s.d_m2 g k) negative)
    (λ k. carry (curve_above ce d m1 m2 q s.m1_d s.d_m2 k) (positive 1)) (le_or_lt q m2))
    (le_or_lt q d))
    (λ h. carry (curve_below ce d m1 m2 q h) (positive 0))
    (le_or_lt m1 q)
  where
    carry : {f g : Fraction} → f ≡ g → (g.den ≡ pos 0 → ⊥) → f.den ≡ pos 0 → ⊥
    carry e h z = h (sym (ap (λ (x : Fraction). x.den) e) ∙ z)

    negative : {j : ℕ} → negsuc j ≡ pos 0 → ⊥
    negative e = pos-ne-negsuc _ _ (sym e)

    positive : (n : ℕ) → pos (suc n) ≡ pos 0 → ⊥
    positive n e = let z : suc n ≡ 0 = cc in omega arith

-- nothing remains exactly where rounded demand is exact
pub no_remainder : (ce d m1 m2 p : ℕ) → InBounds ce d m1 m2 → InRange ce p → (remainder ce d m1 m2 p ≡ 0) ↔ PricedAt ce d m1 m2 p (dem ce d m1 m2 p)
no_remainder ce d m1 m2 p s a = ((λ z. at.0 (omega (arith, made))), (λ t. let e = at.1 t in omega (arith, made)))
  where
    some : 0 < ce
    some = omega arith

    made : exact_times_ce ce d m1 m2 p + remainder ce d m1 m2 p ≡ dem ce d m1 m2 p * ce
    made = remainder_makes_up ce d m1 m2 p some

    at : (dem ce d m1 m2 p * ce ≡ exact_times_ce ce d m1 m2 p) ↔ PricedAt ce d m1 m2 p (dem ce d m1 m2 p)
    at = let r = dem_range ce d m1 m2 p s a in exact_inverse ce d m1 m2 p some s.m1_d s.d_m2 a.high (dem ce d m1 m2 p) r.0 r.1

pub remainder_top : (ce d m1 m2 : ℕ) → InBounds ce d m1 m2 → remainder ce d m1 m2 (2 * ce) ≡ 0
unfolding remainder
remainder_top ce d m1 m2 s = rw (dem_top ce d m1 m2 s, exact_from_ce ce d m1 m2 (2 * ce) (omega arith), twice) (made (d - m1) (omega arith))
  where
    twice : 2 * ce - ce ≡ ce
    twice = omega arith

    made : (x : ℕ) → d ≡ m1 + x → m1 * ce - (d * ce - x * ce) ≡ 0
    made x e = rw e (omega arith)
