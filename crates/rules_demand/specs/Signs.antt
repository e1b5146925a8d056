-- The curve with its signs worked out: in each of its four parts, p(q) <= p as an order of natural numbers; in its two sloping parts,
-- p(q) = p as an equation of natural numbers.
use Prim.Native.Nat.{ℕ, zero, suc, ◌+◌, ◌-◌, ◌*◌, ◌≤◌, ◌<◌, zero-le}
use Rattle.std.specs.Prelude.{◌≡◌, refl, ◌↔◌, true, negsuc, neg_ℤ, nat_abs, ◌-ℤ◌, ◌*ℤ◌}
use Rattle.std.proofs.Common.{sym, ap, ◌∙◌, subst}
use Rattle.std.proofs.lemmas.Bool.{false≢true}
use native.Mathlib.Omega.{arith}
use Rattle.std.proofs.Math.IntN.{pos, sub_ℕ}
use Rattle.std.specs.Int.Signed.{le_z}
use borrow.Author.Tests.{lt-ltb, le-ltb, le-leb, lt-leb, leb-true}
use Rattle.rules_demand.specs.Curve.{Fraction, whole, half, demand_curve, at_most, priced, Equals, PricedAt}

pub minus : (a b : ℕ) → pos a -ℤ pos b ≡ sub_ℕ a b
minus a zero = rw (le-ltb a 0 zero-le) (ap pos (e a))
  where
    e : (a : ℕ) → a + 0 ≡ a - 0
    e a = omega arith
minus a (suc b) = refl

minus_negative : (a b : ℕ) → a < b → pos a -ℤ pos b ≡ negsuc (b - suc a)
minus_negative a b h = minus a b ∙ simp (lt-ltb a b h)

-- -x <= -y exactly when y <= x
negated : (x y : ℕ) → (le_z (neg_ℤ (pos x)) (neg_ℤ (pos y)) ≡ true) ↔ (y ≤ x)
negated zero zero = ((λ t. zero-le), (λ h. refl))
negated zero (suc y) = ((λ t. absurd (false≢true t)), (λ h. absurd (omega arith)))
negated (suc x) zero = ((λ t. zero-le), (λ h. refl))
negated (suc x) (suc y) = ((λ t. let h : y ≤ x = leb-true y x t in omega arith), (λ h. le-leb y x (omega arith)))

-- a negative numerator, -c (k + 1), over a negative denominator, -(j + 1)
abbrev pub both_negative : ℕ → ℕ → ℕ → Fraction
both_negative c k j = record { num = pos c *ℤ negsuc k; den = negsuc j }

both_negative_lem : (c k j p : ℕ) → (at_most (both_negative c k j) (pos p) ≡ true) ↔ (c * suc k ≤ p * suc j)
both_negative_lem c k j p = negated (p * suc j) (c * suc k)

both_negative_at : (c k j p : ℕ) → Equals (both_negative c k j) (pos p) ↔ (c * suc k ≡ p * suc j)
both_negative_at c k j p = ((λ e. sym (back (c * suc k)) ∙ ap nat_abs e ∙ back (p * suc j)), (λ e. ap (λ (n : ℕ). neg_ℤ (pos n)) e))
  where
    back : (n : ℕ) → nat_abs (neg_ℤ (pos n)) ≡ n
    back zero = refl
    back (suc n) = refl

-- a difference above 0
next_less : (a b : ℕ) → b < a → suc (a - suc b) ≡ a - b
next_less a b h = omega arith

next_twice : (m d : ℕ) → d < m → suc (2 * (m - suc d) + 1) ≡ 2 * (m - d)
next_twice m d h = omega arith

module _ (ce d m1 m2 q : ℕ) where
  pub curve_below : q < m1 → demand_curve ce d m1 m2 q ≡ whole (2 * ce)
  unfolding demand_curve
  curve_below h = rw (lt-ltb q m1 h)

  pub curve_upper : m1 < d → m1 ≤ q → q ≤ d → demand_curve ce d m1 m2 q ≡ both_negative ce (2 * d - suc (q + m1)) (d - suc m1)
  unfolding demand_curve
  curve_upper h l g = rw (le-ltb q m1 l, le-leb q d g) λ i. record {
    num = pos ce *ℤ minus_negative (q + m1) (2 * d) (omega arith) i;
    den = minus_negative m1 d h i;
  }

  pub curve_lower : m1 < d → d < m2 → d < q → q ≤ m2 → demand_curve ce d m1 m2 q ≡ both_negative ce (2 * m2 - suc (q + d)) (2 * (m2 - suc d) + 1)
  unfolding demand_curve
  curve_lower k h l g = rw (le-ltb q m1 (omega arith), lt-leb q d l, le-leb q m2 g) λ i. record {
    num = pos ce *ℤ minus_negative (q + d) (2 * m2) (omega arith) i;
    den = twice i;
  }
    where
      e : 2 * suc (m2 - suc d) ≡ suc (2 * (m2 - suc d) + 1)
      e = omega arith

      twice : pos 2 *ℤ (pos d -ℤ pos m2) ≡ negsuc (2 * (m2 - suc d) + 1)
      twice = ap (λ z. pos 2 *ℤ z) (minus_negative d m2 h) ∙ ap (λ n. neg_ℤ (pos n)) e

  pub curve_above : m1 < d → d < m2 → m2 < q → demand_curve ce d m1 m2 q ≡ half ce
  unfolding demand_curve
  curve_above k h g = rw (le-ltb q m1 (omega arith), lt-leb q d (omega arith), lt-leb q m2 g)

module _ (ce d m1 m2 q p : ℕ) where
  -- what holds of the fraction that the curve gives there
  of_curve : {X : Type 0} (P : Fraction → Type 0) {f : Fraction} → demand_curve ce d m1 m2 q ≡ f → P f ↔ X → P (demand_curve ce d m1 m2 q) ↔ X
  of_curve {X} P e x = subst (λ (g : Fraction). P g ↔ X) (sym e) x

  via : {X : Type 0} {f : Fraction} → demand_curve ce d m1 m2 q ≡ f → (at_most f (pos p) ≡ true) ↔ X → (priced ce d m1 m2 p q ≡ true) ↔ X
  unfolding priced
  via e x = of_curve (λ f. at_most f (pos p) ≡ true) e x

  pub priced_below : q < m1 → (priced ce d m1 m2 p q ≡ true) ↔ (2 * ce ≤ p)
  priced_below h = via (curve_below ce d m1 m2 q h)
      ((λ t. let g : 2 * ce ≤ p * 1 = leb-true (2 * ce) (p * 1) t in omega arith), (λ g. le-leb (2 * ce) (p * 1) (omega arith)))

  pub priced_above : m1 < d → d < m2 → m2 < q → (priced ce d m1 m2 p q ≡ true) ↔ (ce ≤ p * 2)
  priced_above k h g = via (curve_above ce d m1 m2 q k h g) ((λ t. leb-true ce (p * 2) t), (λ g. le-leb ce (p * 2) g))

  module _ (h : m1 < d) (l : m1 ≤ q) (g : q ≤ d) where
    pub priced_upper : (priced ce d m1 m2 p q ≡ true) ↔ (ce * (2 * d - (q + m1)) ≤ p * (d - m1))
    priced_upper = via (curve_upper ce d m1 m2 q h l g)
        (rw (← next_less (2 * d) (q + m1) (omega arith), ← next_less d m1 h) (both_negative_lem ce (2 * d - suc (q + m1)) (d - suc m1) p))

    pub at_upper : PricedAt ce d m1 m2 p q ↔ (ce * (2 * d - (q + m1)) ≡ p * (d - m1))
    unfolding PricedAt
    at_upper = of_curve (λ f. Equals f (pos p)) (curve_upper ce d m1 m2 q h l g)
        (rw (← next_less (2 * d) (q + m1) (omega arith), ← next_less d m1 h) (both_negative_at ce (2 * d - suc (q + m1)) (d - suc m1) p))

  module _ (k : m1 < d) (h : d < m2) (l : d < q) (g : q ≤ m2) where
    pub priced_lower : (priced ce d m1 m2 p q ≡ true) ↔ (ce * (2 * m2 - (q + d)) ≤ p * (2 * (m2 - d)))
    priced_lower = via (curve_lower ce d m1 m2 q k h l g)
        (rw (← next_less (2 * m2) (q + d) (omega arith), ← next_twice m2 d h) (both_negative_lem ce (2 * m2 - suc (q + d)) (2 * (m2 - suc d) + 1) p))

    pub at_lower : PricedAt ce d m1 m2 p q ↔ (ce * (2 * m2 - (q + d)) ≡ p * (2 * (m2 - d)))
    unfolding PricedAt
    at_lower = of_curve (λ f. Equals f (pos p)) (curve_lower ce d m1 m2 q k h l g)
        (rw (← next_less (2 * m2) (q + d) (omega arith), ← next_twice m2 d h) (both_negative_at ce (2 * m2 - suc (q + d)) (2 * (m2 - suc d) + 1) p))
